-- A value that is neither `iec` nor `exact` was given by `--to`.
use Rattle.std.proofs.Common.{◌≡◌, ◌≢◌, ℕ, List, Option, None, Some, Bor, inr, refl, sym, ap, subst, ◌∙◌, rules}
use Rattle.std.specs.Prelude.{unwrap_or}
use Rattle.byte_unit.specs.declared.Unit.{Unit as UnitName}
use Rattle.byte_unit_command.specs.CallOptions.{IsWithinExact, form_without}
use Rattle.byte_unit_command.specs.Meaning.{IsForm}
use Rattle.byte_unit_command.specs.Values.{given_text}
use Rattle.byte_unit_command.specs.declared.options.Form.TheVariants.{InUnit}
use Rattle.byte_unit_command.proofs.meaning.form_of.Goals.{then-values, else-values}
use Rattle.byte_unit_command.proofs.meaning.form_of.Goals as goal

-- a value other than the default was given by the option `--to`
is_given : (to : Option (Bor (List ℕ))) (default value : Bor (List ℕ)) → value ≡ unwrap_or to default
    → value.now ≢ default.now → given_text to ≡ Some value.now
is_given None default value is other = absurd (other (ap (λ text. text.now) is))
is_given (Some to) default value is other = ap (λ text. Some text.now) (sym is)

-- a given unit is a form for each precision: only `exact` has a limit
within : (unit : UnitName) (precision : Option ℕ) → IsWithinExact (InUnit unit) precision
within unit None = tt
within unit (Some precision) = search rules

-- the value of `--to` is the name of a unit: neither `iec` nor `exact`, since those cases come first
pub returns-in-Ok-clause-ok : goal.returns-in-Ok-clause-ok
returns-in-Ok-clause-ok c =
    let values = c.args.values.now in
    let value = c.unwrap_or-value.result in
    let other : value.now ≢ c.if-values.default.now = elim c.if-values.branch [
      | then-values w ↦ λ same. c.in_default.not-iec (same ∙ ap (λ text. text.now) w.default-is)
      | else-values w ↦ λ same. c.in_default.not-exact (same ∙ ap (λ text. text.now) w.default-is)
    ] in
    let to = is_given values.to c.if-values.default value c.unwrap_or-value.ensures other in (
      subst (λ to. IsForm (form_without values.human_readable) values.kind values.ignore_case to (InUnit c.in-Ok.unit))
          (sym to) (inr (c.in-Ok.unit, c.in-Ok.ensures, refl)),
      within c.in-Ok.unit values.precision,
    )
