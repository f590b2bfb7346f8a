-- A number with more than 28 digits after the point is rejected at the 29th.
use Rattle.std.proofs.Common.{◌≡◌, ℕ, ◌+◌, ◌<◌, true, List, ◌∷◌, ◌++◌, length, refl, sym, ap, ◌∙◌, arith}
use Rattle.std.proofs.Common.{take, drop, get_or, append_assoc, decimal, take-append-drop}
use Rattle.std.specs.Str.Parse.{digits_value}
use Rattle.std.proofs.lemmas.Bool.Decides.{nat_tests}
use Rattle.std.proofs.lemmas.List.{length-map, length-take-le, drop_more}
use Rattle.core.proofs.dec2flt.Rows.{AllDigits-take}
use Rattle.byte_unit_math.specs.Bounds.{places_of_decimal}
use Rattle.byte_unit_math.specs.Finite.{Finite}
use Rattle.byte_unit_math.specs.Numeral.{glyphs, text_of}
use Rattle.byte_unit_math.proofs.Fractions.{fraction_text_some}
use Rattle.byte_unit_base.specs.Grammar.Version.{current}
use Rattle.byte_unit_base.specs.Grammar.Spelling.{Flags}
use Rattle.byte_unit_base.specs.Errors.Fault.{too_long, IsSizeFault}
use Rattle.byte_unit_base.specs.Reading.Machines.{Fraction, is_digit, size_step}
use Rattle.byte_unit_base.proofs.NumberEnds.{digit_in}
use Rattle.byte_unit_base.proofs.NumberTexts.{IsBounded, glyph_digits, whole_text}
use Rattle.byte_unit_base.proofs.Scans.{first_fault}
use Rattle.byte_unit_base.proofs.SizeRuns.{run_fraction}
use Rattle.byte_unit_base.proofs.SizeReads.{size_scan_is}

-- a text that begins with a number of more than 28 digits after the point has the error of a number that is too long:
-- the state machine has no step at the 29th
pub long_fault : (flags : Flags) (e : Finite) (tail text : List ℕ) → IsBounded e → places_of_decimal < length e.digits
    → text ≡ text_of e ++ tail → IsSizeFault current flags text too_long
unfolding size_step
long_fault flags e tail text bounded many text_is =
    let digits = glyphs e.digits in
    let are_digits = glyph_digits e.digits bounded.small in
    let count : length digits ≡ length e.digits = length-map {A = ℕ} {B = ℕ} e.digits (λ digit. 48 + digit) in
    let inside : places_of_decimal < length digits = omega (arith, count, many) in
    let kept = take places_of_decimal digits in
    let full = length-take-le places_of_decimal digits (omega (arith, inside)) in
    let next = get_or digits places_of_decimal 0 in
    let digit : is_digit next ≡ true = digit_in digits places_of_decimal are_digits inside in
    let others = drop (places_of_decimal + 1) digits in
    let parts : digits ≡ kept ++ next ∷ others = sym (take-append-drop places_of_decimal digits)
    ∙ ap (λ ds. kept ++ ds) (drop_more digits places_of_decimal 0 inside) in
    let text_parts : text ≡ (decimal e.whole ++ 46 ∷ kept) ++ next ∷ (others ++ tail) = text_is
    ∙ (ap (λ fraction. (decimal e.whole ++ fraction) ++ tail)
    (fraction_text_some e.digits (omega (arith, many)) ∙ ap (λ ds. 46 ∷ ds) parts) ∙ simp (append_assoc {A = ℕ})) in
    let state = Fraction e.whole (digits_value 10 kept) (length kept) in
    let run_is = run_fraction (decimal e.whole) kept e.whole (whole_text e.whole bounded.bound)
    (omega (arith, full), AllDigits-take places_of_decimal digits are_digits) (omega (arith, full)) in
    first_fault (size_scan_is flags) state text (decimal e.whole ++ 46 ∷ kept) (next ∷ (others ++ tail)) too_long
    text_parts run_is (grind (arith, nat_tests, digit, full)) (rw digit refl)
