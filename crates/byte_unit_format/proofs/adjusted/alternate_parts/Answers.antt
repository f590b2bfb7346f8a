-- The rounded number, laid out with its unit, is the adjusted text.
use Rattle.byte_unit_math.specs.Numeral.{text_of}
use Rattle.byte_unit_math.specs.ShortExpansion.{finite_of}
use Rattle.byte_unit_math.proofs.Texts.{text_of_short_numeral}
use Rattle.byte_unit_format.proofs.AdjustedForms.{adjusted_by_rounding}
use Rattle.byte_unit_format.proofs.adjusted.alternate_parts.Goals as goal

-- `near` is the number, that it is nearest, and that the expansion is its own.
pub returns-clause-text : goal.returns-clause-text
returns-clause-text c =
    let e = finite_of c.in_ok-number.number in
    let near = rw c.bits.ensures.bits at c.in_ok-number.ensures in
    rw c.layout_parts.ensures.text
    (adjusted_by_rounding (text_of e) c.requires.rounding
    (rw c.in-AtMost.is (near.0, near.1, text_of_short_numeral near.0 c.in-AtMost.places e near.2.is_expansion)))
