-- The quotient, scaled by 10^28, times the unit 2^twos * 5^fives is the number scaled by 10^28.
use Rattle.std.proofs.Common.{ℕ, ◌≡◌, ◌+◌, ◌-◌, ◌*◌, ◌/◌, ◌%◌, ◌^◌, ◌<◌, arith, ap, ◌∙◌}
use Rattle.byte_unit_math.specs.Bounds.{places_of_decimal, whole_limit}
use Rattle.byte_unit_math.specs.Factored.{product_of}
use Rattle.byte_unit_math.proofs.Powers.{count_of_units}
use Rattle.byte_unit_math.proofs.FactoredNumbers.{FewFactors-below_limit, count_below_limit, count_is_exact, FewFactors}
use Rattle.byte_unit_math.proofs.Scales.{pow10_bounds, cut_at_point}
use Rattle.byte_unit_math.proofs.quotient.factored_quotient.Goals.{Start, Joined-places}
use Rattle.byte_unit_math.proofs.quotient.factored_quotient.Goals as goal

-- The number times 10^places as a multiple of the unit, and the factors of 2 and 5 of the multiple.

-- The exponent of 2 of the multiple.
abbrev twos_of : Start → ℕ
twos_of c = c.args.number.twos + c.args.places - c.args.twos

-- The exponent of 5 of the multiple.
abbrev fives_of : Start → ℕ
fives_of c = c.args.number.fives + c.args.places - c.args.fives

-- The multiple: how many units the number times 10^places is.
abbrev count_of : Start → ℕ
count_of c = c.args.number.left * (2 ^ twos_of c * 5 ^ fives_of c)

-- The number times 10^places is the multiple of the unit exactly.
count_is_exact_quotient : (c : Start)
    → product_of c.args.number * 10 ^ c.args.places ≡ count_of c * (2 ^ c.args.twos * 5 ^ c.args.fives)
count_is_exact_quotient c = grind (arith, count_of_units)

-- The multiple is below the limit of a whole part.
count_fits : (c : Start) → count_of c < whole_limit
count_fits c = grind (arith, count_below_limit, count_is_exact_quotient)

-- The factors of the multiple are small enough for each step of the product.
few : (c : Start) → FewFactors c.args.number.left (twos_of c) (fives_of c)
few c = FewFactors-below_limit c.args.number.left (twos_of c) (fives_of c) c.requires.positive (count_fits c)

-- The exponent of 5 is within the table of powers.
pub bounds-number : goal.bounds-number
bounds-number c = omega (arith, (few (goal.at.bounds-number c).Start).few_fives)

-- The exponent of 2 is below 128.
pub overflow_shl-count : goal.overflow_shl-count
overflow_shl-count c = omega (arith, (few (goal.at.overflow_shl-count c).Start).few_twos)

-- The multiple fits 128 bits.
pub overflow_mul-count : goal.overflow_mul-count
overflow_mul-count c = omega (arith, (few (goal.at.overflow_mul-count c).Start).small)

-- The multiple is below 2^120, as the division needs it, in the branch of one place.
pub div_rem_u24-requires-clause-bound : goal.div_rem_u24-requires-clause-bound
div_rem_u24-requires-clause-bound c = omega (arith, (few (goal.at.div_rem_u24-requires-clause-bound c).Start).small)

-- The multiple is below 2^120 in the branch of two places.
pub div_rem_u24-requires-in-2-clause-bound : goal.div_rem_u24-requires-in-2-clause-bound
div_rem_u24-requires-in-2-clause-bound c =
    omega (arith, (few (goal.at.div_rem_u24-requires-in-2-clause-bound c).Start).small)

-- The multiple is below 2^120 in the branch of three places.
pub div_rem_u24-requires-in-3-clause-bound : goal.div_rem_u24-requires-in-3-clause-bound
div_rem_u24-requires-in-3-clause-bound c =
    omega (arith, (few (goal.at.div_rem_u24-requires-in-3-clause-bound c).Start).small)

-- The power of ten is not zero.
pub div_rem-requires : goal.div_rem-requires
div_rem-requires c = omega (arith, c.power_of_ten.ensures, pow10_bounds c.args.places c.requires.places)

-- The multiple split at the point into whole part and digits.

-- The state at the start of the call, from the one after the split.
abbrev start_of : Joined-places → Start
start_of c = (goal.at.from_digits-quotient-requires-clause-digits c).Start

-- In each branch the parts are the quotient and the remainder of the multiple by 10^places.
count_at_point : (c : Joined-places) → (c.match-places.whole.0 ≡ count_of (start_of c) / 10 ^ c.args.places)
    × (c.match-places.whole.1 ≡ count_of (start_of c) % 10 ^ c.args.places)
count_at_point c = grind (arith, (few (start_of c)).by_table)

-- The whole part is no larger than the multiple.
pub from_digits-quotient-requires-clause-whole : goal.from_digits-quotient-requires-clause-whole
from_digits-quotient-requires-clause-whole c = rw (count_at_point c).0 (omega (arith, count_fits (start_of c)))

-- The digits are below 10^places.
pub from_digits-quotient-requires-clause-digits : goal.from_digits-quotient-requires-clause-digits
from_digits-quotient-requires-clause-digits c = grind (arith, count_at_point, pow10_bounds)

-- `quotient` is that the result, scaled by 10^28, is the multiple times 10^(28 - places).
pub returns-clause-exact : goal.returns-clause-exact
returns-clause-exact c =
    let at_point = count_at_point (goal.at.returns-clause-exact c).Joined-places in
    let s = (goal.at.returns-clause-exact c).Start in
    let unit = 2 ^ c.args.twos * 5 ^ c.args.fives in
    let quotient : c.from_digits-quotient.result ≡ count_of s * 10 ^ (places_of_decimal - c.args.places) =
    rw (c.from_digits-quotient.ensures, at_point.0, at_point.1)
    (cut_at_point (count_of s) c.args.places c.requires.places) in
    ap (λ n. n * unit) quotient
    ∙ count_is_exact (product_of c.args.number) unit (count_of s) c.args.places (count_is_exact_quotient s)
    c.requires.places
