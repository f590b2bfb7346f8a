-- A fraction without trailing zeros has the least number of digits after the point, so the fields of a `Decimal` are
-- determined by its value.
use Rattle.std.proofs.Common.{◌≡◌, ℕ, ◌+◌, ◌-◌, ◌*◌, ◌/◌, ◌%◌, ◌^◌, ◌<◌, ◌≤◌, arith, ap, subst, zero, suc, refl, sym}
use Rattle.std.proofs.Common.{◌∙◌}
use Rattle.byte_unit_math.specs.Bounds.{scale, places_of_decimal, whole_limit}
use Rattle.byte_unit_math.specs.Exact.{IsLeastPlaces}
use Rattle.byte_unit_math.proofs.Expanding.{IsLeastPlaces-last_digit, fraction_below_one}
use Rattle.byte_unit_math.proofs.Scales.{pow10_split, pow10_times_rest, power_of_sum}
use Rattle.std.proofs.Math.Nat.{pow-succ'}
use Rattle.std.proofs.lemmas.Bool.Decides.{nat_tests}
use Rattle.byte_unit_math.specs.DecimalFields.{decimal_value, trim_digits, trim_fraction, IsNormalized}
use Rattle.byte_unit_math.specs.declared.decimal.Decimal.TheInside.{Inside}

-- A fraction scaled by 10^28 is `digits` in `places` digits after the point, followed by zeros.
pub record HasDigits (fraction digits places : ℕ) : Type 0 where
  pub few : places ≤ places_of_decimal
  pub same : digits * 10 ^ (places_of_decimal - places) ≡ fraction
  pub below : digits < 10 ^ places

-- A last digit that is zero can be removed: a tenth of the number, in one digit less.
pub HasDigits-tenth : (fraction digits places : ℕ) → HasDigits fraction digits places → 0 < places → digits % 10 ≡ 0
    → HasDigits fraction (digits / 10) (places - 1)
HasDigits-tenth fraction digits places h some last =
    let tens : digits ≡ digits / 10 * 10 = omega (arith, last) in
    let product = ap (λ n. n * 10 ^ (places_of_decimal - places)) tens in
    let power = power_of_sum 10 (places_of_decimal - (places - 1)) 1 (places_of_decimal - places)
    (omega (arith, h.few, some)) in
    record {
      few = omega (arith, h.few);
      same = omega (arith, h.same, product, ap (λ n. digits / 10 * n) power);
      below = omega (arith, h.below, tens, pow10_split 1 places some);
    }

-- If the last digit is not zero, N / 10^28 is exact with no fewer digits after the point.
pub HasDigits-least : (N digits places : ℕ) → HasDigits (N % scale) digits places → (0 < places → 0 < digits % 10)
    → IsLeastPlaces N scale places
HasDigits-least N digits places h last =
    let parts : N ≡ N / scale * scale + digits * 10 ^ (places_of_decimal - places) = omega (arith, h.same) in
    let product = ap (λ n. n * 10 ^ places) parts in
    let rest = ap (λ n. digits * n) (pow10_times_rest places h.few) in
    IsLeastPlaces-last_digit N scale (N / scale * 10 ^ places + digits) places (omega arith)
    (omega (arith, product, rest))
    (λ some. omega (arith, ap (λ n. N / scale * n) (pow10_split 1 places some), last some))

-- There is only one least number of digits after the point.
pub HasDigits-at_least :
    (N digits places least : ℕ) → HasDigits (N % scale) digits places → (0 < places → 0 < digits % 10)
    → IsLeastPlaces N scale least → HasDigits (N % scale) digits least
HasDigits-at_least N digits places least h last is =
    let this = HasDigits-least N digits places h last in
    subst (HasDigits (N % scale) digits) (omega (arith, this.least least is.has, is.least places this.has)) h

-- The fields hold the fraction of the value.
fields_have_digits : (N : ℕ) (d : Inside) → IsNormalized d → decimal_value d ≡ N
    → HasDigits (N % scale) d.digits d.places
fields_have_digits N d h view = grind (arith)

-- The field `places` is the least number of digits after the point.
pub places_of_fields : (N : ℕ) (d : Inside) → IsNormalized d → decimal_value d ≡ N → IsLeastPlaces N scale d.places
places_of_fields N d h view = HasDigits-least N d.digits d.places (fields_have_digits N d h view) h.last

-- The field `digits` holds the fraction of the value in this number of digits.
pub digits_of_fields : (N : ℕ) (d : Inside) → IsNormalized d → decimal_value d ≡ N → (least : ℕ)
    → IsLeastPlaces N scale least → HasDigits (N % scale) d.digits least
digits_of_fields N d h view least = HasDigits-at_least N d.digits d.places least (fields_have_digits N d h view) h.last

-- Digits whose last one is not zero are kept.
digits_kept : (places digits : ℕ) → (0 < places → 0 < digits % 10) → trim_digits places digits ≡ (digits, places)
unfolding trim_digits
digits_kept zero digits last = refl
digits_kept (suc places) digits last = grind (arith, nat_tests)

-- A zero at the end of digits is removed first.
zero_dropped : (places digits : ℕ) → digits % 10 ≡ 0
    → trim_digits (suc places) digits ≡ trim_digits places (digits / 10)
unfolding trim_digits
zero_dropped places digits none = grind (arith, nat_tests)

-- Removing the trailing zeros of digits to which zeros were appended gives the digits.
zeros_dropped :
    (behind all places digits rest : ℕ) → all ≡ behind + places → rest ≡ digits * 10 ^ behind
    → (0 < places → 0 < digits % 10) → trim_digits all rest ≡ (digits, places)
zeros_dropped zero all places digits rest count product last = grind (arith, digits_kept)
zeros_dropped (suc behind) zero places digits rest count product last = absurd (omega (arith, count))
zeros_dropped (suc behind) (suc all) places digits rest count product last =
    let power = ap (λ n. digits * n) (pow-succ' 10 behind) in
    let tens : rest ≡ 10 * (digits * 10 ^ behind) = omega (arith, product, power) in
    zero_dropped all rest (omega (arith, tens))
    ∙ zeros_dropped behind all places digits (rest / 10) (omega (arith, count)) (omega (arith, tens)) last

-- A fraction scaled by 10^28 has the digits of its 28 digits without trailing zeros, also if it is 0.
trimmed : (rest : ℕ) (pair : ℕ × ℕ) → trim_digits places_of_decimal rest ≡ pair → trim_fraction rest ≡ pair
trimmed zero pair short = sym (zeros_dropped places_of_decimal places_of_decimal 0 0 0 refl (omega arith)
    (λ some. absurd (omega (arith, some)))) ∙ short
trimmed (suc rest) pair short = short

-- A fraction has the digits and places of each form of it whose last digit is not zero.
short_fraction_is : (rest digits places : ℕ) → HasDigits rest digits places → (0 < places → 0 < digits % 10)
    → trim_fraction rest ≡ (digits, places)
short_fraction_is rest digits places h last = trimmed rest (digits, places)
    (zeros_dropped (places_of_decimal - places) places_of_decimal places digits rest (omega (arith, h.few)) (sym h.same)
    last)

-- Digits without trailing zeros, after a whole part below 2^112, satisfy the invariant of a `Decimal`.
pub digits_are_normalized :
    (whole fraction digits places : ℕ) → whole < whole_limit → HasDigits fraction digits places
    → (0 < places → 0 < digits % 10) → IsNormalized (record { whole = whole; digits = digits; places = places })
digits_are_normalized whole fraction digits places bound h last = grind (arith, fraction_below_one, short_fraction_is)
