-- The digits over the power of ten of their number are the fraction.
use Rattle.std.proofs.Common.{◌≡◌, ◌+◌, ◌-◌, ◌*◌, ◌^◌, arith, ap}
use Rattle.byte_unit_math.specs.Bounds.{places_of_decimal, scale}
use Rattle.byte_unit_math.proofs.Expanding.{power_of_ten_is_exact}
use Rattle.byte_unit_math.proofs.Scales.{pow10_bounds, pow10_times_rest}
use Rattle.byte_unit_math.proofs.Texts.{expansion_of_same_fraction}
use Rattle.byte_unit_math.proofs.expansion.Expansion.from_decimal.Goals as goal

-- The dividend of each group fits 128 bits.
pub divide-requires-clause-product_bound : goal.divide-requires-clause-product_bound
divide-requires-clause-product_bound c =
    omega (arith, c.power_of_ten.ensures, pow10_bounds c.places.result c.places.ensures.bound)

-- The division ends within 93 digits.
pub divide-requires-clause-ends : goal.divide-requires-clause-ends
divide-requires-clause-ends c =
    rw c.power_of_ten.ensures (power_of_ten_is_exact _ c.places.result (omega (arith, c.places.ensures.bound)))

-- The fraction is the decimal, over 10^28.
pub returns : goal.returns
returns c =
    let places = c.places.result in
    let power = 10 ^ places in
    let behind = 10 ^ (places_of_decimal - places) in
    let few = c.places.ensures.bound in
    let parts : c.args.d ≡ c.whole.result * scale + c.digits.result * behind =
    omega (arith, c.whole.ensures.value, c.digits.ensures.value places c.places.ensures.least) in
    let times = ap (λ n. c.digits.result * n) (pow10_times_rest places few) in
    let same : (c.whole.result * power + c.digits.result) * scale ≡ c.args.d * power =
    omega (arith, times, ap (λ n. n * power) parts) in
    expansion_of_same_fraction _ _ _ _ _
    (record { positive = omega (arith, pow10_bounds places few); positive' = omega arith; same = same })
    (rw c.power_of_ten.ensures at c.divide.ensures)
