-- Rounding a number of a unit up to a whole number of bytes or of bits.
use Rattle.std.specs.Prelude.{ℕ, ◌*◌}
use Rattle.byte_unit_math.specs.Least.{IsLeast, Reaches}
use Rattle.byte_unit_base.specs.Grammar.Shape.{Shape, bits}
use Rattle.byte_unit_base.specs.declared.kind.Kind.{Kind}
use Rattle.byte_unit_base.specs.Sizes.Kinds.{bits_in}

-- `n` bytes or bits are at least N / 10^28 of the unit; both sides are compared in bits
abbrev pub IsAtLeast : Kind → ℕ → Shape → ℕ → Type 0
IsAtLeast kind N unit n = Reaches N (bits unit) (n * bits_in kind)

-- `n` is N / 10^28 of the unit in bytes or bits, rounded up to a whole number
abbrev pub IsLeastOf : Kind → ℕ → Shape → ℕ → Type 0
IsLeastOf kind N unit = IsLeast (IsAtLeast kind N unit)
