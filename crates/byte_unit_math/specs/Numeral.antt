-- The text of decimals.
use Rattle.std.specs.Prelude.{ℕ, ◌+◌, ◌-◌, List, [], ◌∷◌, ◌++◌, length, map, replicate}
use Rattle.std.specs.Fmt.{decimal}
use Rattle.byte_unit_math.specs.Digits.{at_places, trim_expansion}
use Rattle.byte_unit_math.specs.Finite.{Finite}

-- The digits as ASCII characters: 48 is the character `0`.
abbrev pub glyphs : List ℕ → List ℕ
glyphs digits = map (λ d. 48 + d) digits

-- The point (46) and the digits after it, or nothing if there are no digits.
abbrev pub fraction_text : List ℕ → List ℕ
fraction_text [] = []
fraction_text (d ∷ ds) = 46 ∷ glyphs (d ∷ ds)

-- The whole part, then the point and the digits after it if there are any.
abbrev pub text_of : Finite → List ℕ
text_of e = decimal e.whole ++ fraction_text e.digits

-- The text of q / 10^p with all `p` digits after the point: 1.50 for q = 150 and p = 2.
abbrev pub numeral : ℕ → ℕ → List ℕ
numeral q p = text_of (at_places p q)

-- The text of q / 10^p without trailing zeros, nor a point if no digit is after it: 1.5 for q = 150 and p = 2.
abbrev pub short_numeral : ℕ → ℕ → List ℕ
short_numeral q p = text_of (trim_expansion (at_places p q))

-- Private: the digits of a number, and the digit 0 (48) after them up to 32 bytes, the length of the array that
-- `put_padded_digits` fills.
abbrev pub padded_digits : ℕ → List ℕ
padded_digits n = decimal n ++ replicate (32 - length (decimal n)) 48
