-- The scaled number over a power of ten is the fraction.
use Rattle.std.proofs.Common.{◌≡◌, ◌+◌, ◌*◌, ◌^◌, ◌<◌, arith, ap}
use Rattle.std.proofs.Math.Nat.{pow-le-pow_right, mul-le-mul_left, one-le-pow}
use Rattle.std.proofs.lemmas.Nat.{mul-le, mul-pow}
use Rattle.byte_unit_math.specs.Bounds.{bits_limit}
use Rattle.byte_unit_math.proofs.Digits.{one_le_pow10}
use Rattle.byte_unit_math.proofs.Scales.{power_of_sum}
use Rattle.byte_unit_math.proofs.ShortExpansions.{short_of_same_fraction}
use Rattle.byte_unit_math.proofs.short.decimal_expansion.Goals.{After-power_of_five}
use Rattle.byte_unit_math.proofs.short.decimal_expansion.Goals as goal

-- The scaled number is below 125 times the limit of a numerator, since at most 5^3 is multiplied.
scaled_small : (c : After-power_of_five) → c.args.numerator * c.power_of_five.result < 125 * bits_limit
scaled_small c = grind (arith, mul-le-mul_left, pow-le-pow_right)

-- The scaled number fits 128 bits.
pub overflow_mul-numerator : goal.overflow_mul-numerator
overflow_mul-numerator c = omega (arith, scaled_small (goal.at.overflow_mul-numerator c).After-power_of_five)

-- The whole part is no larger than the scaled number.
pub split_at_point-requires-clause-bound : goal.split_at_point-requires-clause-bound
split_at_point-requires-clause-bound c =
    omega (
      arith,
      scaled_small (goal.at.split_at_point-requires-clause-bound c).After-power_of_five,
      one_le_pow10 (c.args.tens + c.args.twos),
    )

-- The number times 5^twos over 10^(tens + twos) is the number over 2^twos * 10^tens.
pub returns : goal.returns
returns c =
    let twos = c.args.twos in
    let tens = c.args.tens in
    let n = c.args.numerator in
    let sum = ap (λ p. n * p) (power_of_sum 10 (tens + twos) tens twos (omega arith)) in
    let split = ap (λ p. n * (10 ^ tens * p)) (mul-pow 2 5 twos) in
    let same : n * 5 ^ twos * (2 ^ twos * 10 ^ tens) ≡ n * 10 ^ (tens + twos) = omega (arith, sum, split) in
    short_of_same_fraction (record {
      positive = one_le_pow10 (tens + twos);
      positive' = mul-le 1 1 _ _ (one-le-pow twos 2 (omega arith)) (one_le_pow10 tens);
      same = same;
    }) (rw c.power_of_five.ensures at c.split_at_point.ensures)
