-- The number, by one product and one division, laid out with its unit is the adjusted text.
use Rattle.std.proofs.Common.{◌*◌, refl}
use Rattle.byte_unit_math.specs.Numeral.{numeral, text_of}
use Rattle.byte_unit_math.specs.ShortExpansion.{finite_of}
use Rattle.byte_unit_base.specs.Sizes.Kinds.{bits_in}
use Rattle.byte_unit_format.proofs.AdjustedForms.{adjusted_by_rounding, scaled_text}
use Rattle.byte_unit_format.proofs.adjusted.short_parts.Goals as goal

-- All digits of a short expansion are shown.
pub returns-in_ok-number-in-Exact-clause-text : goal.returns-in_ok-number-in-Exact-clause-text
returns-in_ok-number-in-Exact-clause-text c =
    let e = finite_of c.in_ok-number-in-Exact.number in
    let expansion = rw (c.bits.ensures.bits, c.powers-twos.ensures.twos, c.powers-twos.ensures.fives) at
    c.in_ok-number-in-Exact.ensures.is_expansion in
    rw c.layout_parts.ensures.text
    (adjusted_by_rounding (text_of e) c.requires.rounding (rw c.in-Exact.is (e, expansion, refl)))

-- The number of 10^-places nearest to the quotient is shown; `parts.result` is what is before and after its point.
pub returns-in-To-clause-text : goal.returns-in-To-clause-text
returns-in-To-clause-text c =
    let number = c.rounded_quotient-number.result in
    let places = c.in-To.places in
    let parts = c.div_rem-whole in
    let power = c.power_of_ten-power.ensures in
    let nearest = c.rounded_quotient-number.ensures (c.args.size * bits_in c.args.kind) places
    (rw (c.bits.ensures.bits, power) refl) in
    let shown = scaled_text number places parts.result.0 parts.result.1 (rw power at parts.ensures.quotient)
    (rw power at parts.ensures.rest) in
    rw (c.layout_parts-in-To.ensures.text, shown)
    (adjusted_by_rounding (numeral number places) c.requires.rounding
    (rw c.in-To.is (number, rw (← c.as_bits_u128.ensures.bits) nearest, refl)))
