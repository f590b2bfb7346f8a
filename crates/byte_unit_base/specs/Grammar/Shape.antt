-- Units, by their prefix and by what they count.
use Rattle.std.specs.Prelude.{ℕ, ◌+◌, ◌*◌, ◌^◌, Bool, if◌then◌else◌}

-- a unit
pub record Shape : Type 0 where
  -- the index of its prefix among the prefix letters, from 1 for kilo, or 0 if it has no prefix
  pub power : ℕ
  -- whether the prefix is binary (IEC), and not decimal (SI); without a prefix, a byte counts as binary, a bit does not
  pub binary : Bool
  -- whether it counts bits, and not bytes
  pub bit : Bool

-- the unit with these properties
abbrev pub shape : ℕ → Bool → Bool → Shape
shape power binary bit = record { power = power; binary = binary; bit = bit }

-- the exponent of 2 in the number of bits: 10 times the index of a binary prefix, or 3 times that of a decimal one
-- (10^3 = 2^3 * 5^3), plus 3 for bytes (8 = 2^3)
abbrev pub twos : Shape → ℕ
twos s = (if s.binary then 10 * s.power else 3 * s.power) + (if s.bit then 0 else 3)

-- the exponent of 5 in the number of bits: 3 times the index of a decimal prefix
abbrev pub fives : Shape → ℕ
fives s = if s.binary then 0 else 3 * s.power

-- the number of bits in the unit
abbrev pub bits : Shape → ℕ
bits s = 2 ^ twos s * 5 ^ fives s
