-- A text without a first field, a last field or a number is no range.
use Rattle.std.proofs.Common.{◌≡◌, ℕ, List, Option, None, MatchOption, sym, subst}
use Rattle.byte_unit_command.specs.FieldList.{IsRange}
use Rattle.byte_unit_command.specs.declared.options.FieldRange.{FieldRange}
use Rattle.byte_unit_command.proofs.Items.{without_first, without_last, without_number}
use Rattle.byte_unit_command.proofs.field_list.range_of.Goals as goal

-- `None` is right for an item that is no range
no_range : (item : List ℕ) (found : Option FieldRange) → found ≡ None → ((range : FieldRange) → ¬ IsRange item range)
    → MatchOption found ((range : FieldRange) → ¬ IsRange item range) (IsRange item)
no_range item found is none =
    subst (λ found. MatchOption found ((range : FieldRange) → ¬ IsRange item range) (IsRange item)) (sym is) none

-- the text before the hyphen is no first field: it is not empty, and no positive number
pub returns-in_err-first-in-Some : goal.returns-in_err-first-in-Some
returns-in_err-first-in-Some c =
    no_range c.args.item.now c.from_residual.result c.from_residual.ensures
    (without_first c.args.item.now c.split_once.result _ c.split_once.ensures.cases c.in-Some.is
    (c.in_err-first-in-Some.ensures))

-- the text after the hyphen is no last field: it is not empty, and no positive number or one below the first
pub returns-in_err-last-in-Some : goal.returns-in_err-last-in-Some
returns-in_err-last-in-Some c =
    let first = c.in_ok-first-in-Some in
    no_range c.args.item.now _ c.from_residual-in_err-last-in-Some.ensures
    (without_last c.args.item.now c.split_once.result _ first.first c.split_once.ensures.cases c.in-Some.is
    first.ensures (c.in_err-last-in-Some.ensures))

-- an item without a hyphen is no positive number
pub returns-in_err-field-in-None : goal.returns-in_err-field-in-None
returns-in_err-field-in-None c =
    no_range c.args.item.now _ c.from_residual-in_err-field-in-None.ensures
    (without_number c.args.item.now c.split_once.result c.split_once.ensures.cases c.in-None.is
    (c.in_err-field-in-None.ensures))
