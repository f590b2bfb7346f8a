-- The product of a number that is given by its factors, and its quotient by a unit.
use Rattle.std.proofs.Common.{◌≡◌, ℕ, get_or, ◌-◌, ◌*◌, ◌^◌, ◌%◌, ◌<◌, ◌≤◌, arith, ap}
use Rattle.std.proofs.Math.Nat.{one-le-pow, mul-le-mul_left, mul-le-mul_right, lt_of_mul-lt-mul_right}
use Rattle.byte_unit_math.specs.Bounds.{scale, places_of_decimal, whole_limit}
use Rattle.byte_unit_math.proofs.Scales.{pow10_times_rest, powers_from, powers_from_at, exponent_at_most}

-- A number below 2^112 has at most 111 factors of 2 and 48 factors of 5; a shift and an entry of the table of powers
-- of 5 compute it.
pub record FewFactors (left twos fives : ℕ) : Type 0 where
  pub few_twos : twos ≤ 111
  pub few_fives : fives ≤ 48
  pub by_table : left * 2 ^ twos % 2 ^ 128 * get_or (powers_from 5 49 1) fives 0 ≡ left * (2 ^ twos * 5 ^ fives)
  pub small : left * 2 ^ twos % 2 ^ 128 * get_or (powers_from 5 49 1) fives 0 < whole_limit

-- Every product of factors that is below 2^112 is such a number.
pub FewFactors-below_limit : (left twos fives : ℕ) → 1 ≤ left → left * (2 ^ twos * 5 ^ fives) < whole_limit
    → FewFactors left twos fives
FewFactors-below_limit left twos fives some small =
    let powers = mul-le-mul_right (2 ^ twos * 5 ^ fives) some in
    let without_fives = mul-le-mul_left (2 ^ twos) (one-le-pow fives 5 (omega arith)) in
    let without_twos = mul-le-mul_right (5 ^ fives) (one-le-pow twos 2 (omega arith)) in
    let left_twos = mul-le-mul_left left without_fives in
    let few_fives = exponent_at_most 5 48 fives whole_limit (omega arith) (omega (arith, powers, without_twos, small))
    (omega arith) in
    let unshifted : left * 2 ^ twos % 2 ^ 128 ≡ left * 2 ^ twos = omega (arith, left_twos, small) in
    let by_table : left * 2 ^ twos % 2 ^ 128 * get_or (powers_from 5 49 1) fives 0 ≡ left * (2 ^ twos * 5 ^ fives) =
    rw (unshifted, powers_from_at 5 49 1 fives (omega (arith, few_fives))) (omega arith) in
    record {
      few_twos = exponent_at_most 2 111 twos whole_limit (omega arith) (omega (arith, powers, without_fives, small))
          (omega arith);
      few_fives = few_fives;
      by_table = by_table;
      small = rw by_table small;
    }

-- A number times 10^places that is a multiple of a unit, and the multiple.
module _ (number unit count places : ℕ) (same : number * 10 ^ places ≡ count * unit) where
  -- The multiple is below 2^112 if the number times 10^places is below 2^112 units.
  pub count_below_limit : number * 10 ^ places < whole_limit * unit → count < whole_limit
  count_below_limit small = lt_of_mul-lt-mul_right unit {m = count} {n = whole_limit} (omega (arith, same, small))

  -- The multiple, scaled by the rest of 10^28, times the unit is the number scaled by 10^28.
  pub count_is_exact : places ≤ places_of_decimal → count * 10 ^ (places_of_decimal - places) * unit ≡ number * scale
  count_is_exact few =
      let scaled = ap (λ n. n * 10 ^ (places_of_decimal - places)) same in
      let parts = ap (λ n. number * n) (pow10_times_rest places few) in
      omega (arith, scaled, parts)
