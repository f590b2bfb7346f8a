-- Rounding up to whole bytes or bits, by way of the least number of bits.
--
-- Of a `least` size, `least.0` is the size, and `least.1` that it is the least one.
use Rattle.std.proofs.Common.{◌≡◌, ℕ, ◌+◌, ◌-◌, ◌*◌, ◌/◌, ◌<◌, ◌≤◌, arith, mul-le-mul_right, lt_of_mul-lt-mul_right}
use Rattle.byte_unit_math.specs.Bounds.{scale}
use Rattle.byte_unit_math.specs.Least.{IsLeastSize}
use Rattle.byte_unit_base.specs.Grammar.Shape.{Shape, bits}
use Rattle.byte_unit_base.specs.declared.kind.Kind.{Kind}
use Rattle.byte_unit_base.specs.declared.kind.Kind.TheVariants.{Byte, Bit}
use Rattle.byte_unit_base.specs.Sizes.Kinds.{bits_in}
use Rattle.byte_unit_base.specs.Laws.Sizes.{EachNumberHasOneLeastSize, GreaterNumbersGiveNoSmallerSizes}
use Rattle.byte_unit_base.proofs.Computed.{rounded_up_is_least}
use Rattle.byte_unit_base.specs.Sizes.Least.{IsLeastOf, IsAtLeast}

-- each number of a unit has a least number of bits that holds it
pub least_bits : (N unit : ℕ) → (b : ℕ) × IsLeastSize N unit b
least_bits N unit =
    let b = (N * unit + (scale - 1)) / scale in
    (b, record { has = omega arith; least = λ m r. omega (arith, r) })

-- the least number of bytes or bits that holds the least bits is the number of the unit, rounded up
pub least_holding : (kind : Kind) (N : ℕ) (unit : Shape) (b n : ℕ) → IsLeastSize N (bits unit) b → b ≤ n * bits_in kind
    → n * bits_in kind < b + bits_in kind → IsLeastOf kind N unit n
least_holding kind N unit b n h holds low = record {
  has = omega (arith, h.has, mul-le-mul_right scale holds);
  least = λ m r. let enough = h.least (m * bits_in kind) r in
      let below : n * bits_in kind < (m + 1) * bits_in kind = omega (arith, enough, low) in
      omega (arith, lt_of_mul-lt-mul_right (bits_in kind) below);
}

-- if the least bits reach the limit in bits, the number of the unit, rounded up, reaches the limit
pub least_above : (kind : Kind) (N : ℕ) (unit : Shape) (limit n : ℕ) → 1 ≤ limit
    → ((b : ℕ) → IsLeastSize N (bits unit) b → (limit - 1) * bits_in kind + 1 ≤ b) → IsLeastOf kind N unit n → limit ≤ n
least_above kind N unit limit n some none h =
    let least = least_bits N (bits unit) in
    let below : (limit - 1) * bits_in kind < n * bits_in kind =
    omega (arith, least.1.least (n * bits_in kind) h.has, none least.0 least.1) in
    omega (arith, lt_of_mul-lt-mul_right (bits_in kind) below, some)

-- if the least bits are below the limit in bits, the least number of bytes or bits that holds them is below the limit
pub least_below : (kind : Kind) (limit b n : ℕ) → b < (limit - 1) * bits_in kind + 1
    → n * bits_in kind < b + bits_in kind → 1 ≤ limit → n < limit
least_below Byte limit b n small low some = omega (arith, small, low, some)
least_below Bit limit b n small low some = omega (arith, small, low, some)

-- a number of a unit is rounded up to only one size
pub least_is_unique : (kind : Kind) (N : ℕ) (unit : Shape) (m n : ℕ) → IsLeastOf kind N unit m
    → IsLeastOf kind N unit n → m ≡ n
least_is_unique kind N unit m n a b = omega (arith, a.least n b.has, b.least m a.has)

-- each number of each unit, rounded up, is exactly one size
pub one_least_size : EachNumberHasOneLeastSize
one_least_size kind number unit =
    let least = rounded_up_is_least kind number unit in
    record { size = _; is_least = least; one = λ other h. least_is_unique kind number unit other _ h least }

-- a greater number of a unit is not rounded up to a smaller size
pub more_covers_more : GreaterNumbersGiveNoSmallerSizes
more_covers_more kind unit few many small large more a b =
    let covers : IsAtLeast kind few unit large = omega (arith, mul-le-mul_right (bits unit) more, b.has) in
    a.least large covers
