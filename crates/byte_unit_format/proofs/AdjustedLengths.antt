-- The text of a size in a unit has at most as many bytes as the width, or as 31 digits, the point, its digits after the
-- point, and four columns.
--
-- Of a number that is `found`, `found.0` is its expansion or nearest decimal, `found.1` that it is this, and `found.2`
-- that the text is that of it.
use Rattle.std.proofs.lemmas.Grind.{common_steps}
use Rattle.std.proofs.Common.{◌≡◌, ℕ, ◌+◌, ◌*◌, ◌/◌, ◌^◌, ◌<◌, ◌≤◌, ⊎_elim, min, Bool, true, false, Option, None, Some}
use Rattle.std.proofs.Common.{List, length, arith, ap, refl}
use Rattle.std.specs.Fmt.{decimal}
use Rattle.std.proofs.Math.Nat.{le_of_mul-le-mul_right, mul-le-mul_right}
use Rattle.std.proofs.lemmas.Bool.{cases_lt}
use Rattle.std.proofs.lemmas.Fmt.{length-decimal-le_wide}
use Rattle.std.proofs.lemmas.List.{length-append}
use Rattle.byte_unit_math.specs.Bounds.{size_limit, expansion_places}
use Rattle.byte_unit_math.specs.Exact.{IsExactAt}
use Rattle.byte_unit_math.specs.Finite.{Finite, IsExpansion, ulps_of}
use Rattle.byte_unit_math.specs.Nearest.{IsNearest}
use Rattle.byte_unit_math.specs.Digits.{at_places, trim_expansion}
use Rattle.byte_unit_math.specs.Numeral.{text_of, numeral, short_numeral, fraction_text}
use Rattle.byte_unit_math.specs.declared.expansion.Ties.{Ties}
use Rattle.byte_unit_math.specs.declared.expansion.Ties.TheVariants.{Even, Up}
use Rattle.byte_unit_math.proofs.Digits.{one_le_pow10, length_last_digits}
use Rattle.byte_unit_math.proofs.Texts.{short_numeral_is_expansion}
use Rattle.byte_unit_base.specs.Grammar.Shape.{bits}
use Rattle.byte_unit_base.specs.Grammar.Units.{shape_of}
use Rattle.byte_unit_base.specs.Sizes.Kinds.{bits_in}
use Rattle.byte_unit_choice.proofs.Choosing.{some_bits}
use Rattle.byte_unit_base.specs.declared.kind.Kind.{Kind}
use Rattle.byte_unit_base.specs.declared.unit.Unit.{Unit as UnitName}
use Rattle.byte_unit_base.specs.declared.unit.Unit.TheVariants.{Bit, B}
use Rattle.byte_unit_format.specs.declared.spec.FormatSpec.{FormatSpec}
use Rattle.byte_unit_format.specs.Adjusted.{IsNumeralBy, rule_of, IsAdjustedForm, most_shown_places, most_adjusted_text}
use Rattle.byte_unit_format.specs.FormLaws.{most_places}
use Rattle.byte_unit_format.specs.Written.{WritesForm}
use Rattle.byte_unit_format.proofs.ShortExpansions.{expansions_end}
use Rattle.byte_unit_format.proofs.Widths.{name_short, layout_fills_width}
use Rattle.byte_unit_format.proofs.WrittenForms.{length_of_fraction_text}

-- Of all decimals, the nearest to a quotient is at most the dividend, in units of its last digit.
nearest_at_most : (num den places q : ℕ) (ties : Ties) → 0 < den → IsNearest num den places ties q
    → q ≤ num * 10 ^ places
nearest_at_most num den places q ties some near =
    let scaled = num * 10 ^ places in
    ⊎_elim
    (λ less. absurd (grind (
      arith,
      near.nearest scaled,
      mul-le-mul_right den (let next : scaled + 1 ≤ q = omega (arith, less) in next),
      mul-le-mul_right scaled some,
    )))
    (λ within. within)
    (cases_lt scaled q)

-- The whole part of a quotient is at most the dividend.
pub whole_at_most : (num den : ℕ) (e : Finite) → 0 < den → IsExpansion num den e → e.whole ≤ num
whole_at_most num den e some expansion =
    le_of_mul-le-mul_right {k = 10 ^ length e.digits}
    (omega (arith, expansion.exact, mul-le-mul_right (ulps_of e) some)) (one_le_pow10 (length e.digits))

-- A decimal with a whole part below 10^31 takes at most 31 digits, the point, and its digits after it.
text_length : (e : Finite) (places : ℕ) → e.whole < 10 ^ 31 → length e.digits ≤ places
    → length (text_of e) ≤ 32 + places
text_length e places small few =
    omega (
      arith,
      few,
      length-append {A = ℕ} (decimal e.whole) (fraction_text e.digits),
      length_of_fraction_text e.digits,
      length-decimal-le_wide 31 e.whole (omega arith) small (omega (arith, small)),
    )

-- With all its digits, the text of a quotient that is exact at some places has at most 32 more bytes than these.
full_length : (num den places : ℕ) (number : List ℕ) → 0 < den → num < 10 ^ 31 → IsExactAt num den places
    → (e : Finite) × IsExpansion num den e × (number ≡ text_of e) → length number ≤ 32 + places
full_length num den places number some small exact found =
    let whole = whole_at_most num den found.0 some found.1 in
    omega (arith, ap length found.2, text_length found.0 places (omega (arith, whole, small)) (found.1.least places exact))

-- The whole part of a rounded number, which is not above a dividend below 10^31, is below 10^31.
rounded_whole : (num places q : ℕ) → num < 10 ^ 31 → q ≤ num * 10 ^ places → q / 10 ^ places < 10 ^ 31
rounded_whole num places q small within = grind (arith, one_le_pow10 places)

-- With `places` digits after the point, the text of a number below 10^31 has at most 31 digits, the point and these.
round_length : (num places q : ℕ) → num < 10 ^ 31 → q ≤ num * 10 ^ places → length (numeral q places) ≤ 32 + places
round_length num places q small within =
    text_length (at_places places q) places (rounded_whole num places q small within)
    (omega (arith, length_last_digits places q))

-- Without trailing zeros, the text of a number below 10^31 has at most 32 + places bytes, as with them.
short_length : (num places q : ℕ) → num < 10 ^ 31 → q ≤ num * 10 ^ places
    → length (short_numeral q places) ≤ 32 + places
short_length num places q small within =
    text_length (trim_expansion (at_places places q)) places (rounded_whole num places q small within)
    ((short_numeral_is_expansion q places).least places (q, refl))

-- By each rule, the number of a size in a unit has at most 32 more bytes than the most digits after the point.
numeral_length :
    (precision : Option ℕ) (alternate : Bool) (kind : Kind) (size : ℕ) (unit : UnitName) (number : List ℕ)
    → size * bits_in kind < 10 ^ 31
    → IsNumeralBy (rule_of precision alternate (shape_of unit)) (size * bits_in kind) (bits (shape_of unit)) number
    → length number ≤ 32 + most_shown_places precision
numeral_length None alternate kind size unit number small found =
    let full = full_length (size * bits_in kind) (bits (shape_of unit)) (most_places kind) number
    (some_bits (shape_of unit)) small (expansions_end kind size unit) found in
    let most : most_places kind ≤ expansion_places = grind arith in
    omega (arith, full, most)
numeral_length (Some precision) true kind size unit number small found =
    let places = min precision 16 in
    let within = nearest_at_most (size * bits_in kind) (bits (shape_of unit)) places found.0 Up
    (some_bits (shape_of unit)) found.1 in
    omega (arith, ap length found.2, short_length (size * bits_in kind) places found.0 small within)
numeral_length (Some precision) false kind size Bit number small found =
    omega (arith, full_length (size * bits_in kind) 1 3 number (omega arith) small (size * bits_in kind * 1000, omega arith) found)
numeral_length (Some precision) false kind size B number small found =
    omega (arith, full_length (size * bits_in kind) 8 3 number (omega arith) small (size * bits_in kind * 125, omega arith) found)
numeral_length (Some precision) false kind size unit number small found =
    let within = nearest_at_most (size * bits_in kind) (bits (shape_of unit)) precision found.0 Even
    (some_bits (shape_of unit)) found.1 in
    omega (arith, ap length found.2, round_length (size * bits_in kind) precision found.0 small within)

-- A size in a unit has at most as many bytes as the spec says.
pub adjusted_narrow : (kind : Kind) (size : ℕ) (unit : UnitName) (spec : FormatSpec) (text : List ℕ)
    → size < size_limit → IsAdjustedForm kind size unit spec text → length text ≤ most_adjusted_text spec
adjusted_narrow kind size unit spec text below form =
    grind (arith, common_steps, numeral_length, layout_fills_width, name_short)

-- What is written of a size in a unit has at most that length.
pub written_narrow : (kind : Kind) (size : ℕ) (unit : UnitName) (spec : FormatSpec) {old new : List ℕ} {needed : ℕ}
    → size < size_limit → WritesForm (IsAdjustedForm kind size unit spec) old new needed
    → needed ≤ most_adjusted_text spec
written_narrow kind size unit spec below written =
    omega (arith, written.needed_is, adjusted_narrow kind size unit spec written.form below written.is_form)
