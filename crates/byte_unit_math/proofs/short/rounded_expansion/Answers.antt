-- The nearest number is at most twice the scaled numerator.
use Rattle.std.proofs.Common.{◌*◌, ◌^◌, arith, ap}
use Rattle.std.proofs.Math.Nat.{mul-le-mul_left, mul-lt-mul_of_pos_right}
use Rattle.byte_unit_math.specs.Nearest.{IsNearest}
use Rattle.byte_unit_math.specs.declared.expansion.Ties.TheVariants.{Up}
use Rattle.byte_unit_math.proofs.Digits.{one_le_pow10}
use Rattle.byte_unit_math.proofs.short.rounded_expansion.Goals.{After-rounded_quotient-number}
use Rattle.byte_unit_math.proofs.short.rounded_expansion.Goals as goal

-- The scaled numerator fits 128 bits.
pub overflow_mul-numerator : goal.overflow_mul-numerator
overflow_mul-numerator c = rw c.power_of_ten.ensures (omega (arith, c.requires.product_bound))

-- It is below 2^127.
pub rounded_quotient-number-requires-clause-bound : goal.rounded_quotient-number-requires-clause-bound
rounded_quotient-number-requires-clause-bound c = rw c.power_of_ten.ensures c.requires.product_bound

-- The number is nearest.
nearest : (c : After-rounded_quotient-number)
    → IsNearest c.args.numerator c.args.divisor c.args.places Up c.rounded_quotient-number.result
nearest c = c.rounded_quotient-number.ensures c.args.numerator c.args.places
    (ap (λ n. c.args.numerator * n) c.power_of_ten.ensures)

-- It is no farther from the numerator than 0.
pub split_at_point-requires-clause-bound : goal.split_at_point-requires-clause-bound
split_at_point-requires-clause-bound c =
    let number = c.rounded_quotient-number.result in
    let zero = (nearest (goal.at.split_at_point-requires-clause-bound c).After-rounded_quotient-number).nearest 0 in
    let product = mul-le-mul_left {m = 1} {n = c.args.divisor} number c.requires.positive in
    let scaled = mul-lt-mul_of_pos_right {k = 10 ^ c.args.places} c.requires.bound (one_le_pow10 c.args.places) in
    omega (arith, zero, product, scaled)

pub returns : goal.returns
returns c = (
  c.rounded_quotient-number.result,
  nearest (goal.at.returns c).After-rounded_quotient-number,
  c.split_at_point.ensures,
)
