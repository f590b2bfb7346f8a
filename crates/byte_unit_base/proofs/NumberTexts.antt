-- A decimal, as it is printed, is a number of the grammar with the same value, of visible characters.
use Rattle.std.proofs.Common.{◌≡◌, ℕ, ◌+◌, ◌-◌, ◌*◌, ◌^◌, ◌<◌, ◌≤◌, inl, inr, List, [], ◌∷◌, ◌++◌, length, refl, sym}
use Rattle.std.proofs.Common.{ap, ◌∙◌, arith, append-nil, fold, All, decimal}
use Rattle.std.proofs.lemmas.List.{length-map}
use Rattle.std.specs.Char.{digit_value}
use Rattle.std.specs.Str.Parse.{AllDigits, digits_value_after}
use Rattle.std.proofs.lemmas.Bool.Decides.{nat_tests}
use Rattle.std.proofs.lemmas.Fmt.{decimal_is_IsNumeral_wide}
use Rattle.std.proofs.lemmas.List.Elements.{All-head, All-tail}
use Rattle.byte_unit_math.specs.Bounds.{scale, places_of_decimal, whole_limit}
use Rattle.byte_unit_base.specs.Grammar.Version.{current}
use Rattle.byte_unit_base.specs.Grammar.Number.{IsWholePart, IsNumberText}
use Rattle.byte_unit_math.specs.Finite.{Finite, value_of_digits}
use Rattle.byte_unit_math.specs.Numeral.{glyphs, fraction_text}
use Rattle.byte_unit_base.proofs.SizeAscii.{IsVisible, digits_visible, visible_append}

-- the character of a digit has the value of the digit
pub glyph_value : (digit : ℕ) → digit < 10 → digit_value (48 + digit) ≡ digit
glyph_value digit small = grind (arith, nat_tests)

-- the characters of digits are decimal digits
pub glyph_digits : (digits : List ℕ) → All (λ digit. digit < 10) digits → AllDigits 10 (glyphs digits)
glyph_digits [] small = tt
glyph_digits (digit ∷ digits) small =
    let below : digit < 10 = All-head (λ digit. digit < 10) digit digits small in
    let rest = All-tail (λ digit. digit < 10) digit digits small in
    (omega (arith, below, glyph_value digit below), glyph_digits digits rest)

-- the characters of digits have the value of the digits
pub glyphs_value :
    (value : ℕ) (digits : List ℕ) → All (λ digit. digit < 10) digits
    → digits_value_after 10 value (glyphs digits) ≡ fold (λ value digit. value * 10 + digit) value digits
glyphs_value value [] small = refl
glyphs_value value (digit ∷ digits) small =
    let below : digit < 10 = All-head (λ digit. digit < 10) digit digits small in
    ap (λ next. digits_value_after 10 (value * 10 + next) (glyphs digits)) (glyph_value digit below)
    ∙ (glyphs_value (value * 10 + digit) digits (All-tail (λ digit. digit < 10) digit digits small))

-- the digits of a number below the limit are a whole part of this value
pub whole_text : (whole : ℕ) → whole < whole_limit → IsWholePart current (decimal whole) whole
whole_text whole bound =
    let numeral = decimal_is_IsNumeral_wide whole (omega arith) in
    (numeral.0, sym numeral.1, bound)

-- the number with this whole part and these digits after the point, scaled by 10^28
abbrev pub fixed_point_of : ℕ → List ℕ → ℕ
fixed_point_of whole digits = whole * scale + value_of_digits digits * 10 ^ (places_of_decimal - length digits)

-- the text of a whole part and at most 28 digits after the point is a number of the grammar, with their value
pub number_text :
    (whole : ℕ) (digits : List ℕ) → All (λ digit. digit < 10) digits → length digits ≤ places_of_decimal
    → whole < whole_limit → IsNumberText current (decimal whole ++ fraction_text digits) (fixed_point_of whole digits)
number_text whole [] small few bound =
    inl (whole, rw (append-nil (decimal whole)) (whole_text whole bound), omega arith)
number_text whole (digit ∷ digits) small few bound =
    let some : 0 < length (glyphs (digit ∷ digits)) = omega arith in
    let count : length (glyphs digits) ≡ length digits = length-map {A = ℕ} {B = ℕ} digits (λ digit. 48 + digit) in
    inr record {
      whole = decimal whole;
      fraction = glyphs (digit ∷ digits);
      value = whole;
      part = value_of_digits (digit ∷ digits) * 10 ^ (places_of_decimal - length (digit ∷ digits));
      text_is = refl;
      whole_is = whole_text whole bound;
      fraction_is = (
        (some, glyph_digits (digit ∷ digits) small),
        omega (arith, count, few),
        rw (count, glyphs_value 0 (digit ∷ digits) small) refl,
      );
      number_is = refl;
    }

-- a decimal whose digits are below ten, and whose whole part is below the limit
pub record IsBounded (e : Finite) : Type 0 where
  pub small : All (λ digit. digit < 10) e.digits
  pub bound : e.whole < whole_limit

-- the point and the digits of a fraction are visible
fraction_visible : (digits : List ℕ) → All (λ digit. digit < 10) digits → IsVisible (fraction_text digits)
fraction_visible [] small = refl
fraction_visible (digit ∷ digits) small = digits_visible (glyphs (digit ∷ digits)) (glyph_digits (digit ∷ digits) small)

-- the digits of a whole part are visible
pub whole_visible : (whole : ℕ) → whole < whole_limit → IsVisible (decimal whole)
whole_visible whole bound = digits_visible (decimal whole) (whole_text whole bound).0.1

-- the text of a whole part and a fraction is visible
pub fixed_visible :
    (whole : ℕ) (digits : List ℕ) → All (λ digit. digit < 10) digits → whole < whole_limit
    → IsVisible (decimal whole ++ fraction_text digits)
fixed_visible whole digits small bound =
    visible_append (decimal whole) (fraction_text digits) (whole_visible whole bound) (fraction_visible digits small)
