-- Decimals with few digits after the point, which are held as one number.
use Rattle.std.specs.Prelude.{ℕ, ◌^◌, ◌<◌, ◌≤◌}
use Rattle.byte_unit_math.specs.Bounds.{places_of_number}
use Rattle.byte_unit_math.specs.Digits.{last_digits}
use Rattle.byte_unit_math.specs.Finite.{Finite, IsExpansion}
use Rattle.byte_unit_math.specs.declared.short.ShortExpansion.{ShortExpansion}

-- The decimal: its whole part, and the digits after the point with leading zeros.
abbrev pub finite_of : ShortExpansion → Finite
finite_of e = record { whole = e.whole; digits = last_digits e.places e.digits }

-- `e` is the quotient num / den, with the fewest digits after the point that are exact: at most 38.
pub record IsShortExpansion (num den : ℕ) (e : ShortExpansion) : Type 0 where
  pub few : e.places ≤ places_of_number
  pub below : e.digits < 10 ^ e.places
  pub is_expansion : IsExpansion num den (finite_of e)
