-- The text of a number. A text is the list of its characters, and a number is scaled by 10^28 unless it is a whole
-- part.
use Rattle.std.specs.Prelude.{◌≡◌, ℕ, ◌+◌, ◌-◌, ◌*◌, ◌^◌, ◌<◌, ◌≤◌, ◌⊎◌, List, [], ◌∷◌, ◌++◌, length}
use Rattle.std.specs.Str.Parse.{IsNumeral, digits_value}
use Rattle.byte_unit_math.specs.Bounds.{scale, places_of_decimal}
use Rattle.byte_unit_base.specs.Grammar.Version.{Version}

-- the character `.`
abbrev pub point : ℕ
point = 46

-- the text is decimal digits of this value, which is below the limit of a whole part
abbrev pub IsWholePart : Version → List ℕ → ℕ → Type 0
IsWholePart version text value = IsNumeral 10 text × (value ≡ digits_value 10 text) × (value < version.whole_limit)

-- the text is the digits after a point, at most 28; `n` is the fraction, scaled by 10^28
abbrev pub IsFraction : List ℕ → ℕ → Type 0
IsFraction text n =
    IsNumeral 10 text
    × (length text ≤ places_of_decimal)
    × (n ≡ digits_value 10 text * 10 ^ (places_of_decimal - length text))

-- the text is a whole part of this value, and a point
pub record IsPointed (version : Version) (text : List ℕ) (value : ℕ) : Type 0 where
  pub whole : List ℕ
  pub text_is : text ≡ whole ++ point ∷ []
  pub whole_is : IsWholePart version whole value

-- the text is a whole part, a point and a fraction; `value` is that of the whole part; `n`, the number, and `part`,
-- that of the fraction, are scaled by 10^28
pub record IsPrecise (version : Version) (text : List ℕ) (n : ℕ) : Type 0 where
  pub whole : List ℕ
  pub fraction : List ℕ
  pub value : ℕ
  pub part : ℕ
  pub text_is : text ≡ whole ++ point ∷ fraction
  pub whole_is : IsWholePart version whole value
  pub fraction_is : IsFraction fraction part
  pub number_is : n ≡ value * scale + part

-- the text is a number, with or without a fraction; `n` is its value, scaled by 10^28
abbrev pub IsNumberText : Version → List ℕ → ℕ → Type 0
IsNumberText version text n =
    ((value : ℕ) × IsWholePart version text value × (n ≡ value * scale)) ⊎ IsPrecise version text n
