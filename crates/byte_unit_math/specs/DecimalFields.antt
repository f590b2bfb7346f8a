-- Private: the meaning of the fields of a `Decimal`. Public contracts see only its value scaled by 10^28.
use Rattle.std.specs.Prelude.{◌≡◌, ℕ, zero, suc, ◌+◌, ◌-◌, ◌*◌, ◌/◌, ◌%◌, ◌^◌, ◌<◌, ◌≤◌, nat_eq, if◌then◌else◌}
use Rattle.byte_unit_math.specs.Bounds.{scale, places_of_decimal, whole_limit}
use Rattle.byte_unit_math.specs.Exact.{IsLeastPlaces}
use Rattle.byte_unit_math.specs.declared.decimal.Decimal.TheInside.{Inside}

-- The value of the fields scaled by 10^28: the whole part, and `places` digits after the point held as one number.
abbrev pub decimal_value : Inside → ℕ
decimal_value d = d.whole * scale + d.digits * 10 ^ (places_of_decimal - d.places)

-- Removes the trailing zeros of `places` digits that are held as one number: what is left, and how many digits that is.
unfoldable pub trim_digits : ℕ → ℕ → ℕ × ℕ
trim_digits zero digits = (digits, 0)
trim_digits (suc places) digits =
    if nat_eq (digits % 10) 0 then trim_digits places (digits / 10) else (digits, suc places)

-- The same of a fraction scaled by 10^28, which has 28 digits; zero has none.
abbrev pub trim_fraction : ℕ → ℕ × ℕ
trim_fraction zero = (0, 0)
trim_fraction (suc rest) = trim_digits places_of_decimal (suc rest)

-- The fields of the value n / 10^28: its whole part, and its digits after the point without trailing zeros.
abbrev pub decimal_fields : ℕ → Inside
decimal_fields n =
    record { whole = n / scale; digits = (trim_fraction (n % scale)).0; places = (trim_fraction (n % scale)).1 }

-- The whole part is below 2^112, there are at most 28 digits after the point, and the last is not zero: so each value
-- has one representation, and equal decimals have equal fields.
pub record IsNormalized (d : Inside) : Type 0 where
  pub bound : d.whole < whole_limit
  pub few : d.places ≤ places_of_decimal
  pub below : d.digits < 10 ^ d.places
  pub last : 0 < d.places → 0 < d.digits % 10
  -- the fields are those of their value
  pub only : decimal_fields (decimal_value d) ≡ d

-- The whole part of a number that is scaled by 10^28, and its digits after the point without trailing zeros.
pub record AreFields (number whole digits places : ℕ) : Type 0 where
  pub few : places ≤ places_of_decimal
  pub least : IsLeastPlaces number scale places
  pub whole_is : whole ≡ number / scale
  pub digits_are : digits * 10 ^ (places_of_decimal - places) ≡ number % scale
  pub below : digits < 10 ^ places
