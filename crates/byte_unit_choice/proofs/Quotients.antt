-- A size as an exact quotient: at more places, and times its unit.
--
-- That a size is exact at some places (`exact`, or without one `e`) is a count, `.0`, and an equation, `.1`.
use Rattle.std.proofs.Common.{◌≡◌, ℕ, ◌-◌, ◌*◌, ◌/◌, ◌^◌, ◌≤◌, arith, ap, ◌∙◌}
use Rattle.std.proofs.Math.Nat.{eq_of_mul-eq-mul_right}
use Rattle.byte_unit_math.specs.Bounds.{places_of_decimal, scale}
use Rattle.byte_unit_math.specs.Exact.{IsExactAt, IsLeastPlaces, IsQuotient}
use Rattle.byte_unit_math.proofs.Scales.{pow10_split}

-- if a number times the unit is the size, it is the exact quotient at each number of places at which the size is exact
pub quotient_of_product : (size unit places number : ℕ) → 1 ≤ unit → places ≤ places_of_decimal
    → number * unit ≡ size * scale → IsExactAt size unit places → IsQuotient size unit places number
quotient_of_product size unit places number some room product exact =
    let behind = 10 ^ (places_of_decimal - places) in
    let e = ap (λ x. x * behind) exact.1 in
    let p = ap (λ x. size * x) (pow10_split places places_of_decimal room) in
    let same : number * unit ≡ exact.0 * behind * unit = omega (arith, product, e, p) in
    record {
      count = exact.0;
      exact = exact.1;
      number = eq_of_mul-eq-mul_right unit (omega (arith, some)) number (exact.0 * behind) same;
    }

-- an exact quotient needs no more digits after the point than those at which the size is exact
pub stated_where_exact : (size unit number digits : ℕ) → 1 ≤ unit → number * unit ≡ size * scale
    → IsExactAt size unit digits → IsExactAt number scale digits
stated_where_exact size unit number digits some product e =
    let p = ap (λ x. x * 10 ^ digits) product in
    let q = ap (λ x. x * scale) e.1 in
    (e.0, eq_of_mul-eq-mul_right unit (omega (arith, some)) (number * 10 ^ digits) (e.0 * scale) (omega (arith, p, q)))

-- a whole number needs no digits after the point
pub whole_takes_none : (whole : ℕ) → IsLeastPlaces (whole * scale) scale 0
whole_takes_none whole = record { has = (whole, omega arith); least = λ p e. omega arith }

-- if a size is a whole number of the unit, then its quotient without the fraction times the unit is the size
pub whole_number : (in_bits unit number : ℕ) → 1 ≤ unit → number * unit ≡ in_bits * scale → IsExactAt in_bits unit 0
    → number / scale * unit ≡ in_bits
whole_number in_bits unit number some product e =
    let p = ap (λ n. n * scale) e.1 in
    let whole : number ≡ e.0 * scale =
    eq_of_mul-eq-mul_right unit (omega (arith, some)) number (e.0 * scale) (omega (arith, product, p)) in
    let parts : number / scale ≡ e.0 = omega (arith, whole) in
    ap (λ n. n * unit) parts ∙ omega (arith, e.1)
