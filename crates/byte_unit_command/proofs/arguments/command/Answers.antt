-- The command with its version, and then one argument after the other.
use Rattle.std.proofs.Common.{◌≡◌, ◌∙◌, ap, ap₂, subst, true, codes, ℕ, max, Some, refl, [], ◌∷◌}
use Rattle.std.proofs.lemmas.Result.{IfOk-weaker}
use Rattle.clap.specs.Words.{App, Rule, app_of, new_app}
use Rattle.clap.specs.Simple.{app_of_fields}
use Rattle.clap.specs.declared.builder.range.ValueRange.{ValueRange}
use Rattle.clap.specs.declared.builder.value_parser.ValueParser.{ValueParser}
use Rattle.byte_unit_command.specs.CommandLine.{IsArg, size_rules, value, with_rules, without_rules}
use Rattle.byte_unit_command.proofs.Rules.{changed, excluding, with_abbreviations, with_equals, with_hyphen}
use Rattle.byte_unit_command.proofs.Rules.{with_letter, with_one, with_parser, with_range}
use Rattle.byte_unit_command.proofs.arguments.command.Goals as goal

-- a range with both ends
abbrev between : ℕ → ℕ → ValueRange
between first last = record { start_inclusive = first; end_inclusive = max last first }

-- the command is `new_app` with a version, and then each argument, in the order of the code; each `let` is the command
-- so far, or a part of the next argument
pub returns : goal.returns
returns c =
    let start = new_app (codes "byte-unit") in
    let version : app_of c.version.result ≡ record start { top = record start.top { has_version = true } } =
    ap app_of_fields c.version.ensures ∙ ap (λ (app : App). record app
    { top = record app.top { has_version = true } }) c.new.ensures.app in
    let last : app_of c.args_override_self.result
    ≡ record start { top = record start.top { has_version = true; args_override_self = true } } =
    ap app_of_fields c.args_override_self.ensures
    ∙ ap (λ (app : App). record app { top = record app.top { args_override_self = true } })
    (ap app_of_fields c.after_help.ensures ∙ ap app_of_fields c.override_usage.ensures
    ∙ ap app_of_fields c.about.ensures ∙ version) in
    let text : app_of c.infer_long_args-command.result ≡ without_rules =
    with_abbreviations c.args_override_self.result c.infer_long_args-command.result _ last
    c.infer_long_args-command.ensures in
    let excludes_bits = excluding _ _ _ _ (with_letter _ _ _ _ c.flag.ensures c.short.ensures)
    c.in_ok-ignore_case.ensures in
    let bits = with_one _ _ _ _ _ text c.flag-2.ensures c.in_ok-arg.ensures in
    let ignore_case = with_one _ _ _ _ _ bits excludes_bits c.in_ok-arg-2.ensures in
    let from = with_one _ _ _ _ _ ignore_case c.value.ensures c.in_ok-arg-3.ensures in
    let words = with_one _ _ _ _ _ from c.flag-3.ensures c.in_ok-arg-4.ensures in
    let to = with_one _ _ _ _ _ words c.value-2.ensures c.in_ok-arg-5.ensures in
    let no_unit = with_one _ _ _ _ _ to c.flag-4.ensures c.in_ok-arg-6.ensures in
    let after_size = with_hyphen _ _ _ c.value-3.ensures c.allow_hyphen_values.ensures in
    let suffix = with_one _ _ _ _ _ no_unit after_size c.in_ok-arg-7.ensures in
    let small = c.value_parser-2.ensures.given in
    let digits = with_parser _ _ _ _ (with_letter _ _ _ _ c.value-4.ensures c.short-2.ensures)
    c.value_parser-2.ensures.others
    (small.1 ∙ ap (λ (parser : ValueParser). Some parser) (small.2 ∙ c.value_parser.ensures)) in
    let precision = with_one _ _ _ _ _ suffix digits c.in_ok-arg-8.ensures in
    let human = with_letter _ _ _ _ c.flag-5.ensures c.short-3.ensures in
    let sizes : app_of c.in_ok-arg-9.field-0 ≡ with_rules without_rules size_rules =
    with_one _ _ _ _ _ precision human c.in_ok-arg-9.ensures in
    let letter = with_letter _ _ _ _ c.value-5.ensures c.short-4.ensures in
    let delimiter = with_one _ _ _ _ _ sizes letter c.in_ok-arg-10.ensures in
    let excludes = excluding _ _ _ _ c.flag-6.ensures c.in_ok-conflicts_with.ensures in
    let blanks = with_one _ _ _ _ _ delimiter excludes c.in_ok-arg-11.ensures in
    let list = with_hyphen _ _ _ c.value-6.ensures c.allow_hyphen_values-2.ensures in
    let fields = with_one _ _ _ _ _ blanks list c.in_ok-arg-12.ensures in
    let one = subst (λ range. IsArg (record (value (codes "header")) { range = Some range }) c.num_args.result)
    (ap₂ between c.new-2.ensures.start c.new-2.ensures.end)
    (with_range _ _ _ (between c.new-2.result.start c.new-2.result.end) c.value-7.ensures c.num_args.ensures) in
    let missing = changed (λ (rule : Rule). record rule { missing = codes "1" ∷ [] }) _ _ _ _ refl refl
    (with_equals _ _ _ one c.require_equals.ensures) c.default_missing_value.ensures in
    let large = c.value_parser-4.ensures.given in
    let records = with_parser _ _ _ _ missing c.value_parser-4.ensures.others
    (large.1 ∙ ap (λ (parser : ValueParser). Some parser) (large.2 ∙ c.value_parser-3.ensures)) in
    let header = with_one _ _ _ _ _ fields records c.in_ok-arg-13.ensures in
    let width = with_hyphen _ _ _ c.value-8.ensures c.allow_hyphen_values-3.ensures in
    let padding = with_one _ _ _ _ _ header width c.in_ok-arg-14.ensures in
    let invalid = with_one _ _ _ _ _ padding c.value-9.ensures c.in_ok-arg-15.ensures in
    let total = with_one _ _ _ _ _ invalid c.flag-7.ensures c.in_ok-arg-16.ensures in
    let max = with_one _ _ _ _ _ total c.value-10.ensures c.in_ok-arg-17.ensures in
    let min = with_one _ _ _ _ _ max c.value-11.ensures c.in_ok-arg-18.ensures in
    let no_hints = with_one _ _ _ _ _ min c.flag-8.ensures c.in_ok-arg-19.ensures in
    let zero_terminated = with_letter _ _ _ _ c.flag-9.ensures c.short-5.ensures in
    let ended = with_one _ _ _ _ _ no_hints zero_terminated c.in_ok-arg-20.ensures in
    let any = with_range _ _ _ _
    (record { rule_is = c.new-3.ensures.rule; not_global = c.new-3.ensures.optional.1 }) c.num_args-2.ensures in
    let operands = changed (λ (rule : Rule). rule) _ _ _ _ refl refl any c.help.ensures in
    IfOk-weaker c.arg-21.result _ _ (λ command adds. with_one _ command _ _ _ ended operands adds) c.arg-21.ensures
