-- A size has at most one chosen unit and number.
use Rattle.std.proofs.Common.{◌≡◌, ℕ, ◌*◌, ◌^◌, ◌≤◌, Bool, true, arith, sym, ◌∙◌}
use Rattle.std.proofs.Math.Nat.{eq_of_mul-eq-mul_right}
use Rattle.byte_unit_math.specs.Exact.{IsQuotient}
use Rattle.byte_unit_math.specs.Powers.{IsTwoFive}
use Rattle.byte_unit_math.proofs.Expanding.{IsQuotient-times}
use Rattle.byte_unit_math.proofs.Powers.{exact_by_powers}
use Rattle.byte_unit_base.specs.Grammar.Shape.{Shape, shape, bits, twos, fives}
use Rattle.byte_unit_choice.specs.Choice.{IsLargest, IsExactUnitIn, places_within}
use Rattle.byte_unit_choice.specs.ChoiceLaws.{ChoicesAreOne}
use Rattle.byte_unit_base.specs.Grammar.Version.{Version}
use Rattle.byte_unit_choice.specs.declared.choice.Family.{Family}
use Rattle.byte_unit_choice.proofs.Choosing.{some_bits}

-- 2^a * 5^b has the exponents a of 2 and b of 5
pure_powers : (a b : ℕ) → IsTwoFive (2 ^ a * 5 ^ b) a b
pure_powers a b = grind arith

-- if 2^c * 5^d is 2^a * 5^b, then c and d are no greater than a and b
no_greater : (a b c d : ℕ) → 2 ^ a * 5 ^ b ≡ 2 ^ c * 5 ^ d → (c ≤ a) × (d ≤ b)
no_greater a b c d e =
    let h = (exact_by_powers (2 ^ a * 5 ^ b) c d a b 0 (pure_powers a b)).0 (1, omega (arith, e)) in
    (omega (arith, h.0), omega (arith, h.1))

-- two units with a prefix and the same exponents are the same
same_fields : (power : ℕ) (binary bit : Bool) (other : ℕ) (other_binary other_bit : Bool) → 1 ≤ power → 1 ≤ other
    → twos (shape power binary bit) ≡ twos (shape other other_binary other_bit)
    → fives (shape power binary bit) ≡ fives (shape other other_binary other_bit)
    → shape power binary bit ≡ shape other other_binary other_bit
same_fields power true true other true true some other_some t f = grind arith
same_fields power binary bit other other_binary other_bit some other_some t f = grind arith

-- two units with a prefix and the same number of bits are the same
pub same_unit : (unit other : Shape) → 1 ≤ unit.power → 1 ≤ other.power → bits unit ≡ bits other → unit ≡ other
same_unit unit other prefix other_prefix same = grind (arith, no_greater, same_fields)

-- there is only one largest unit in which a size is exact
pub one_largest : (version : Version) (family : Family) (in_bits precision : ℕ) (unit other : Shape)
    → IsLargest (IsExactUnitIn version family in_bits precision) unit
    → IsLargest (IsExactUnitIn version family in_bits precision) other → unit ≡ other
one_largest version family in_bits precision unit other largest other_largest = grind (arith, same_unit)

-- a size has at most one chosen unit and number
pub one_choice : ChoicesAreOne
one_choice version family in_bits precision number other_number unit other_unit chosen other =
    let same = one_largest version family in_bits precision unit other_unit chosen.unit_is other.unit_is in
    let quotient : IsQuotient in_bits (bits unit) (places_within precision) other_number = rw same other.number_is in
    let product = IsQuotient-times _ _ _ number (omega arith) chosen.number_is in
    let other_product = IsQuotient-times _ _ _ other_number (omega arith) quotient in
    (same, eq_of_mul-eq-mul_right (bits unit) (some_bits unit) number other_number (product ∙ sym other_product))
