-- The decimal of the parts is the number over the power of ten.
use Rattle.std.proofs.Common.{◌≡◌, ◌*◌, ◌^◌, arith, ap, ◌∙◌}
use Rattle.std.proofs.lemmas.Nat.{div_below, mod_below}
use Rattle.byte_unit_math.specs.Bounds.{scale, whole_limit}
use Rattle.byte_unit_math.proofs.Digits.{one_le_pow10}
use Rattle.byte_unit_math.proofs.Scales.{cut_at_point, pow10_times_rest}
use Rattle.byte_unit_math.proofs.ShortExpansions.{short_of_decimal}
use Rattle.byte_unit_math.proofs.short.split_at_point.Goals as goal

-- The power of ten is not zero.
pub div_rem-whole-requires : goal.div_rem-whole-requires
div_rem-whole-requires c = omega (arith, c.power_of_ten.ensures, one_le_pow10 c.args.places)

-- The whole part is below its limit.
pub from_digits-requires-clause-whole : goal.from_digits-requires-clause-whole
from_digits-requires-clause-whole c = rw (c.div_rem-whole.ensures.quotient, c.power_of_ten.ensures)
    (div_below c.args.number (10 ^ c.args.places) whole_limit (one_le_pow10 c.args.places) c.requires.bound)

-- The digits are a remainder by the power of ten.
pub from_digits-requires-clause-digits : goal.from_digits-requires-clause-digits
from_digits-requires-clause-digits c = grind (arith, mod_below, one_le_pow10)

-- The parts scaled by 10^28 are the number scaled so.
pub returns : goal.returns
returns c =
    let number = c.args.number in
    let places = c.args.places in
    let same : c.from_digits.result * 10 ^ places ≡ number * scale =
    rw (c.from_digits.ensures, c.div_rem-whole.ensures.quotient, c.div_rem-whole.ensures.rest, c.power_of_ten.ensures)
    (ap (λ N. N * 10 ^ places) (cut_at_point number places c.requires.places)
    ∙ omega (arith, ap (λ n. number * n) (pow10_times_rest places c.requires.places))) in
    short_of_decimal (one_le_pow10 places) same c.fields-whole.ensures
