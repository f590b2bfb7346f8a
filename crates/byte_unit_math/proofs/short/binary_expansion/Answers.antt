-- The digits of the remainder are it times a power of five.
use Rattle.std.proofs.Common.{◌≡◌, ℕ, ◌-◌, ◌*◌, ◌%◌, ◌^◌, ◌<◌, bit_and, arith}
use Rattle.byte_unit_math.proofs.Scales.{pow10_fits}
use Rattle.byte_unit_math.proofs.ShortExpansions.{masked_rest, rest_below_ten_power, binary_is_expansion}
use Rattle.byte_unit_math.proofs.short.binary_expansion.Goals.{After-power_of_five}
use Rattle.byte_unit_math.proofs.short.binary_expansion.Goals as goal

-- The remainder times 5^places, as the code has it.
abbrev digits_of : After-power_of_five → ℕ
digits_of c =
    bit_and c.args.numerator (1 * 2 ^ c.args.places % 2 ^ 128 - 1) * c.power_of_five.result

-- The mask takes the remainder by the denominator 2^places, so the digits are it times 5^places.
digits_are : (c : After-power_of_five) → digits_of c ≡ c.args.numerator % 2 ^ c.args.places * 5 ^ c.args.places
digits_are c = grind (arith, masked_rest)

-- The remainder times 5^places has at most `places` digits.
digits_below : (c : After-power_of_five) → digits_of c < 10 ^ c.args.places
digits_below c = rw (digits_are c) (rest_below_ten_power c.args.numerator c.args.places)

-- The digits fit 128 bits.
pub overflow_mul-result : goal.overflow_mul-result
overflow_mul-result c = grind (arith, digits_below, pow10_fits)

-- The digits are those of the remainder, so the parts are the expansion.
pub returns : goal.returns
returns c = record {
  few = c.if-places-gt-MOST_PLACES.false;
  below = digits_below (goal.at.returns c).After-power_of_five;
  is_expansion =
      rw (digits_are (goal.at.returns c).After-power_of_five)
      (binary_is_expansion c.args.numerator c.args.places c.requires.odd);
}
