-- Numbers in the C API.
use Rattle.std.specs.Prelude.{◌≡◌, ℕ, ◌+◌, ◌*◌, ◌^◌, ◌<◌}
use Rattle.byte_unit_math.specs.Bounds.{scale}
use Rattle.byte_unit_c.specs.declared.values.Number.{Number}
use Rattle.byte_unit_c.specs.declared.values.DecimalParts.{DecimalParts}

-- the integer of two halves
abbrev pub number_of : Number → ℕ
number_of n = n.high * 2 ^ 64 + n.low

-- the integer and fractional parts of a decimal; `decimal` and the fraction are scaled by 10^28
pub record AreDecimalParts (parts : DecimalParts) (decimal : ℕ) : Type 0 where
  pub sum : number_of parts.whole * scale + number_of parts.fraction ≡ decimal
  pub below_one : number_of parts.fraction < scale
