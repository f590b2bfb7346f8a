-- The number with its unit, rounded as the spec says, is the adjusted text.
use Rattle.byte_unit_format.specs.Layout.{layout_of}
use Rattle.byte_unit_format.proofs.TextParts.{writes_form}
use Rattle.byte_unit_format.proofs.AdjustedForms.{adjusted_by_expansion}
use Rattle.byte_unit_format.proofs.adjusted.write_full.Goals as goal

pub returns-clause-written : goal.returns-clause-written
returns-clause-written c =
    let places = c.round-places in
    let form = adjusted_by_expansion places.new.number places.result c.requires.rounding places.ensures.text
    c.number_in_unit-number.ensures in
    writes_form (layout_of places.new.number places.result c.args.unit c.args.spec) form c.write_layout.ensures.written
