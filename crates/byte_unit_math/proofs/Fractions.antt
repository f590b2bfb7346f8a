-- The text of the digits after the point: nothing, or a point and the digits.
use Rattle.std.proofs.Common.{◌≡◌, ℕ, ◌<◌, List, [], ◌∷◌, length, arith, refl}
use Rattle.byte_unit_math.specs.Numeral.{fraction_text, glyphs}

-- With digits the text is a point and the digits.
pub fraction_text_some : (ds : List ℕ) → 0 < length ds → fraction_text ds ≡ 46 ∷ glyphs ds
fraction_text_some [] h = absurd (omega (arith, h))
fraction_text_some (d ∷ ds) h = refl
