-- The parts, or the number and its unit, are the adjusted text.
use Rattle.std.proofs.Common.{ap, length}
use Rattle.byte_unit_format.specs.Layout.{layout_of}
use Rattle.byte_unit_format.specs.TextParts.{parts_text}
use Rattle.byte_unit_format.proofs.TextParts.{appends_form}
use Rattle.byte_unit_format.proofs.AdjustedForms.{adjusted_by_expansion, adjusted_form_unique}
use Rattle.byte_unit_format.proofs.adjusted.append_adjusted.Goals as goal

-- The parts were found quickly, and are appended.
pub returns-in-Some : goal.returns-in-Some
returns-in-Some g c =
    let form = c.in-Some.ensures.text in
    appends_form (parts_text c.in-Some.parts) form (λ other is_other. ap length (adjusted_form_unique is_other form))
    c.append.ensures

-- Otherwise the rounded expansion is laid out and appended.
pub returns-in-None : goal.returns-in-None
returns-in-None g c =
    let places = c.round-places in
    let form = adjusted_by_expansion places.new.number places.result c.rounding_of-rounding.ensures places.ensures.text
    c.number_in_unit-number.ensures in
    appends_form (layout_of places.new.number places.result c.args.unit c.args.spec) form
    (λ other is_other. ap length (adjusted_form_unique is_other form)) c.append_layout.ensures
