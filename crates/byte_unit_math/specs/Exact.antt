-- Exact quotients: with how many digits after the point a quotient is a terminating decimal.
use Rattle.std.specs.Prelude.{◌≡◌, ℕ, ◌*◌, ◌^◌, ◌-◌, ◌≤◌, ◌⊎◌}
use Rattle.byte_unit_math.specs.Bounds.{places_of_decimal}
use Rattle.byte_unit_math.specs.Least.{IsLeast}

-- size / unit is a decimal of this many digits after the point: size * 10^places is a multiple of unit.
abbrev pub IsExactAt : ℕ → ℕ → ℕ → Type 0
IsExactAt size unit places = (count : ℕ) × (size * 10 ^ places ≡ count * unit)

-- The least number of digits after the point with which size / unit is exact.
abbrev pub IsLeastPlaces : ℕ → ℕ → ℕ → Type 0
IsLeastPlaces size unit = IsLeast (IsExactAt size unit)

-- N is size / unit scaled by 10^28, and the quotient is exact with `places` digits after the point; `places` is at most
-- 28 wherever this is used. `count` is the quotient times 10^places.
pub record IsQuotient (size unit places N : ℕ) : Type 0 where
  pub count : ℕ
  pub exact : size * 10 ^ places ≡ count * unit
  pub number : N ≡ count * 10 ^ (places_of_decimal - places)

-- `places` is the least number of digits after the point with which size / unit is exact, or `most` if that number is
-- greater or there is none.
pub record IsFirstExact (size unit most places : ℕ) : Type 0 where
  pub few : places ≤ most
  pub first : (fewer : ℕ) → IsExactAt size unit fewer → places ≤ fewer
  pub ends : IsExactAt size unit places ⊎ (places ≡ most)
