-- The number of bits of a unit, and a size in its base unit.
use Rattle.std.proofs.Common.{◌≡◌, ℕ, ◌*◌, ◌≤◌, Bool, arith, inl, inr, refl}
use Rattle.std.proofs.Math.Nat.{one-le-pow, one-le-mul}
use Rattle.byte_unit_math.specs.Bounds.{scale, unit_limit}
use Rattle.byte_unit_math.specs.Exact.{IsExactAt}
use Rattle.byte_unit_base.specs.Grammar.Shape.{Shape, bits, twos, fives}
use Rattle.byte_unit_base.specs.Grammar.Version.{current}
use Rattle.byte_unit_choice.specs.Family.{InFamily}
use Rattle.byte_unit_choice.specs.Multiples.{units_of_prefixes, prefix_count}
use Rattle.byte_unit_choice.specs.Choice.{IsRecoveredIn}
use Rattle.byte_unit_base.specs.Sizes.Kinds.{bits_in, own_unit}
use Rattle.byte_unit_base.specs.declared.kind.Kind.{Kind}
use Rattle.byte_unit_base.specs.declared.kind.Kind.TheVariants.{Byte, Bit}
use Rattle.byte_unit_choice.specs.declared.choice.Family.{Family}
use Rattle.byte_unit_choice.proofs.Falling.{in_falling, le_of_falls, current_falls}

-- a unit has at least one bit
pub some_bits : (unit : Shape) → 1 ≤ bits unit
some_bits unit = one-le-mul (one-le-pow (twos unit) 2 (omega arith)) (one-le-pow (fives unit) 5 (omega arith))

-- a unit of a unit set has at most as many bits as the limit of a unit
pub small_bits : (family : Family) (unit : Shape) → InFamily current family unit → bits unit ≤ unit_limit
small_bits family unit h =
    let units = units_of_prefixes family prefix_count in
    let is_in = in_falling family prefix_count unit h.kind h.prefix.some h.prefix.known in
    le_of_falls units unit_limit unit (current_falls family prefix_count (omega arith)) is_in

-- the base unit of a kind has as many bits as a size of 1 of that kind
pub own_bits : (kind : Kind) → bits (own_unit kind) ≡ bits_in kind
own_bits Byte = refl
own_bits Bit = refl

-- a size is a whole number of the unit that is its exact unit at a precision of 0
pub exact_where_recovered : (kind : Kind) (both : Bool) (size : ℕ) (unit : Shape)
    → IsRecoveredIn current kind both size 0 unit → IsExactAt (size * bits_in kind) (bits unit) 0
exact_where_recovered kind both size unit (inl h) = h.has.exact
exact_where_recovered kind both size unit (inr h) = rw (h.1, own_bits kind) (size, omega arith)

-- a size, scaled by 10^28, is the number of its base unit in it
pub own_number : (kind : Kind) (size number : ℕ) (unit : Shape) → number ≡ size * scale → unit ≡ own_unit kind
    → number * bits unit ≡ size * bits_in kind * scale
own_number kind size number unit value own = rw (value, own, own_bits kind) (omega arith)
