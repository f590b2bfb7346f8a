-- Lemmas: the command as clap's parser reads it.
use Rattle.std.proofs.Common.{◌≡◌, ◌∙◌, ℕ, Bool, true, false, List, [], ◌∷◌, ◌++◌, Option, None, Some, refl}
use Rattle.std.proofs.Common.{ap, ap₂, arith, length, length-append, ne_eqb, IsSomeAnd, is_some, not, Bor, ◌&&◌}
use Rattle.std.proofs.Math.Bool.{and-false}
use Rattle.std.proofs.lemmas.Bool.{and_left, and_right}
use Rattle.clap.specs.Adds.{AddsConflicts}
use Rattle.clap.specs.Built.{AddsArg}
use Rattle.clap.specs.Walk.{Rule, is_empty, is_free_arg, rule_of}
use Rattle.clap.specs.Simple.{App, app_of, app_of_fields, with_rule}
use Rattle.clap.specs.declared.builder.arg.Arg.{Arg}
use Rattle.clap.specs.declared.builder.command.Command.{Command}
use Rattle.clap.specs.declared.builder.command.Command.TheOpen.{Command-F}
use Rattle.clap.specs.declared.builder.command.Command.TheViews.{out-Command}
use Rattle.clap.specs.declared.builder.range.ValueRange.{ValueRange}
use Rattle.clap.specs.declared.builder.value_parser.ValueParser.{ValueParser}
use Rattle.byte_unit_command.specs.CommandLine.{IsArg, lettered, not_free, not_simple}

-- a command whose long names may be abbreviated is not plain
not_plain : (old : Command-F Command) → app_of_fields (record old { infer_long_args = true })
    ≡ record (app_of_fields old) { top = record (app_of_fields old).top { is_plain = false } }
not_plain old =
    let no_groups = is_empty old.groups.items in
    let no_external = not old.allow_external_subcommands in
    let no_globals = not old.has_globals in
    ap (λ (plain : Bool). record (app_of_fields old) { top = record (app_of_fields old).top { is_plain = plain } })
    (ap (λ (all : Bool). no_groups && (no_external && all)) (and-false no_globals)
    ∙ (ap (λ (all : Bool). no_groups && all) (and-false no_external) ∙ and-false no_groups))

-- a command whose long names may be abbreviated has the same rules, but is not plain
pub with_abbreviations : (old new : Command) (app : App) → app_of old ≡ app
    → out-Command new ≡ record (out-Command old) { infer_long_args = true }
    → app_of new ≡ record app { top = record app.top { is_plain = false } }
with_abbreviations old new app old_is new_is =
    ap app_of_fields new_is ∙ not_plain (out-Command old)
    ∙ ap (λ (app : App). record app { top = record app.top { is_plain = false } }) old_is

-- a list with one more element is not empty
longer_is_not_empty : {X : Type 0} (xs all : List X) (x : X) → all ≡ xs ++ x ∷ [] → is_empty all ≡ false
longer_is_not_empty xs all x all_is =
    ne_eqb (length all) 0 (λ none. omega (arith, none, ap length all_is, length-append xs (x ∷ [])))

-- an argument that a call has made of another one has the rule that is made of its rule in the same way
pub changed : (to : Rule → Rule) (old other new : Arg) (rule : Rule) → rule_of other ≡ to (rule_of old)
    → other.global ≡ old.global → IsArg rule old → new ≡ other → IsArg (to rule) new
changed to old other new rule rule_is global_is is new_is = record {
  rule_is = ap rule_of new_is ∙ rule_is ∙ ap to is.rule_is;
  not_global = ap (λ (arg : Arg). arg.global) new_is ∙ global_is ∙ is.not_global;
}

-- an argument that is given a letter has the same rule with this letter
pub with_letter : (old new : Arg) (rule : Rule) (letter : ℕ) → IsArg rule old → new ≡ record old { short = Some letter }
    → IsArg (lettered letter rule) new
with_letter old new rule letter = changed (lettered letter) old _ new rule refl refl

-- an argument whose value may begin with a hyphen has the same rule, but is not simple
pub with_hyphen : (old new : Arg) (rule : Rule) → IsArg rule old → new ≡ record old { allow_hyphen_values = true }
    → IsArg (not_simple rule) new
with_hyphen old new rule =
    changed not_simple old (record old { allow_hyphen_values = true }) new rule
    (ap (λ (simple : Bool). record (rule_of old) { is_simple = simple })
    (and_right (is_empty old.overrides.items) _ (and_right (is_empty old.default_vals_ifs.items) _
    (and_right (is_empty old.groups.items) _ (and_right (not (is_some old.val_delim)) _
    (and_right (not (is_some old.terminator)) _ refl)))))) refl

-- an argument whose value needs `=` has the same rule, but is not simple
pub with_equals : (old new : Arg) (rule : Rule) → IsArg rule old → new ≡ record old { require_equals = true }
    → IsArg (not_simple rule) new
with_equals old new rule =
    changed not_simple old (record old { require_equals = true }) new rule
    (ap (λ (simple : Bool). record (rule_of old) { is_simple = simple })
    (and_right (is_empty old.overrides.items) _ (and_right (is_empty old.default_vals_ifs.items) _
    (and_right (is_empty old.groups.items) _ (and_right (not (is_some old.val_delim)) _
    (and_right (not (is_some old.terminator)) _ (and_right (not old.allow_hyphen_values) _
    (and_right (not old.allow_negative_numbers) _ refl)))))))) refl

-- an `Option` that has this range is `Some` of it
is_some_range : (found : Option ValueRange) (range : ValueRange) → IsSomeAnd found (λ other. other ≡ range)
    → found ≡ Some range
is_some_range None range is = absurd is
is_some_range (Some other) range is = ap (λ (range : ValueRange). Some range) is

-- an argument that is given a range for its number of values has the same rule with this range
pub with_range : (old new : Arg) (rule : Rule) (range : ValueRange) → IsArg rule old
    → (new ≡ record old { num_vals = new.num_vals }) × IsSomeAnd new.num_vals (λ other. other ≡ range)
    → IsArg (record rule { range = Some range }) new
with_range old new rule range is (new_is, range_is) =
    changed (λ rule. record rule { range = Some range }) old _ new rule refl refl is
    (new_is ∙ ap (λ range. record old { num_vals = range }) (is_some_range new.num_vals range range_is))

-- an argument that is given a parser for its values has the same rule with this parser
pub with_parser : (old new : Arg) (rule : Rule) (parser : ValueParser) → IsArg rule old
    → new ≡ record old { value_parser = new.value_parser } → new.value_parser ≡ Some parser
    → IsArg (record rule { parser = Some parser }) new
with_parser old new rule parser is new_is parser_is =
    changed (λ rule. record rule { parser = Some parser }) old _ new rule refl refl is
    (new_is ∙ ap (λ parser. record old { value_parser = parser }) parser_is)

-- an argument that excludes another has the same rule, but is not free
pub excluding : (old new : Arg) (id : Bor (List ℕ)) (rule : Rule) → IsArg rule old → AddsConflicts old new (id ∷ [])
    → IsArg (not_free rule) new
excluding old new id rule is (new_is, added) =
    let other : Arg = record old { conflicts = new.conflicts } in
    let free : is_free_arg other ≡ false =
    and_right _ _ (and_left _ _ (longer_is_not_empty old.conflicts.items new.conflicts.items id added)) in
    changed not_free old other new rule (ap (λ (free : Bool). record (rule_of old) { is_free = free }) free) refl is
    new_is

-- a command with one more argument has the rules of the command and that of the argument
pub with_one : (old new : Command) (arg : Arg) (rule : Rule) (app : App) → app_of old ≡ app → IsArg rule arg
    → AddsArg old arg new → app_of new ≡ with_rule app rule
with_one old new arg rule app old_is is adds = adds.shape is.not_global ∙ ap₂ with_rule old_is is.rule_is
