-- The parts of a text, written or appended one after the other, are the text: runs of one byte, digits, names.
use Rattle.std.proofs.Common.{◌≡◌, ℕ, List, ◌++◌, length, Result, arith, ap, subst, ◌∙◌, ◌+◌, ◌-◌, ◌<◌, ◌≤◌, min}
use Rattle.std.proofs.Common.{◌∷◌, take, replicate, sym, append_assoc, rules}
use Rattle.std.specs.declared.string.String.{String}
use Rattle.std.proofs.lemmas.Result.{on_ok_weaker, on_err_weaker}
use Rattle.byte_unit_format.specs.Room.{AppendsForm}
use Rattle.std.proofs.lemmas.Grind.{common_steps}
use Rattle.std.proofs.lemmas.List.{replicate-append-replicate, take_all, take-take, take-map}
use Rattle.std.proofs.lemmas.List.{length-map, take_at}
use Rattle.byte_unit_math.specs.Numeral.{fraction_text, glyphs}
use Rattle.byte_unit_format.proofs.WrittenForms.{fraction_some, fraction_length, length_of_fraction_text}
use Rattle.std.specs.Fmt.{decimal}
use Rattle.std.specs.Str.{IsAscii}
use Rattle.std.proofs.lemmas.List.Elements.{All-replicate}
use Rattle.std.proofs.lemmas.Str.{IsAscii-append}
use Rattle.std.proofs.lemmas.Str.Ascii.{IsAscii-from_all}
use Rattle.byte_unit_math.specs.Digits.{last_digits}
use Rattle.byte_unit_math.proofs.Digits.{length_last_digits}
use Rattle.byte_unit_format.specs.Plain.{spaces}
use Rattle.byte_unit_format.specs.Layout.{layout, layout_padding, layout_left_padding, gap_of}
use Rattle.byte_unit_format.specs.TextParts.{fraction_of, places_in, IsReady, parts_text}
use Rattle.byte_unit_format.specs.Written.{WritesForm}
use Rattle.byte_unit_format.specs.declared.spec.FormatSpec.{FormatSpec}
use Rattle.byte_unit_format.specs.declared.parts.TextParts.{TextParts}
use Rattle.byte_unit_format.specs.declared.parts.Fraction.{Fraction}
use Rattle.byte_unit_format.specs.declared.parts.Fraction.TheVariants.{Last, First}

-- A call that appends one text of a form appends a text of that form, if all are equally long.
pub appends_form : {Z E R : Type 0} {IsForm : List ℕ → Type 0} {old new : String Z} {result : Result R E}
    (form : List ℕ) → IsForm form → ((other : List ℕ) → IsForm other → length other ≡ length form)
    → AppendsForm (λ other. other ≡ form) old new result → AppendsForm IsForm old new result
appends_form {old = old} {result = result} form is_form as_long this = grind (arith, on_ok_weaker, on_err_weaker)

-- A call that appends a text appends each equal text.
pub appends_same : {Z E R : Type 0} {old new : String Z} {result : Result R E} {text form : List ℕ} → text ≡ form
    → AppendsForm (λ other. other ≡ text) old new result → AppendsForm (λ other. other ≡ form) old new result
appends_same {old} {new} {result} {text} {form} same this =
    let Adds : List ℕ → Type 0 = λ text. AppendsForm (λ other. other ≡ text) old new result in subst Adds same this

-- A point, the digits that are written, and zeros are the text of the padded fraction.
pub fraction_text_of_shown :
    (places shown : ℕ) (digits characters : List ℕ) → 0 < places → shown ≡ min places (length digits)
    → take (length digits) characters ≡ glyphs digits → 46 ∷ (take shown characters ++ replicate (places - shown) 48)
    ≡ fraction_text (take places digits ++ replicate (places - length digits) 0)
fraction_text_of_shown places shown digits characters some shown_is characters_are = grind (
  arith,
  common_steps,
  fraction_some places digits some,
  take-map (λ digit. 48 + digit) shown digits,
  take-take shown (length digits) characters,
  take_all shown digits,
  take_all places digits,
)

-- Characters that begin with the text of digits are at least as many as these.
pub glyphs_within : (digits characters : List ℕ) → take (length digits) characters ≡ glyphs digits
    → (take (length digits) characters ≡ glyphs digits) × (length digits ≤ length characters)
glyphs_within digits characters are =
    (are, grind (arith, common_steps, ap length are, length-map digits (λ digit. 48 + digit)))

-- The text of the digits after the point is as long as the digits, and one more for the point if there are any.
pub fraction_long : (fraction : Fraction)
    → length (fraction_of fraction) ≡ places_in fraction + min 1 (places_in fraction)
fraction_long (Last digits places) =
    length_of_fraction_text (last_digits places digits) ∙ omega (arith, length_last_digits places digits)
fraction_long (First e places) = fraction_length places e.now.digits

-- A call that has written one text of a form has written a text of that form.
pub writes_form :
    {IsForm : List ℕ → Type 0} {old new : List ℕ} {needed : ℕ} (text : List ℕ) → IsForm text
    → WritesForm (λ form. form ≡ text) old new needed → WritesForm IsForm old new needed
writes_form {IsForm} text is_form this =
    let same = subst IsForm (sym this.is_form) is_form in search (rules, same)

-- The first elements of two lists put together, as many as the first list has, are the first list.
pub front_is : {list : List ℕ} {len : ℕ} (text behind : List ℕ) → list ≡ text ++ behind → len ≡ length text
    → take len list ≡ text
front_is text behind list_is len_is = rw list_is (take_at text behind _ (sym len_is))

-- Padding, number, one run of spaces and the unit's name are the number formatted with its unit.
pub layout_of_parts :
    (number name : List ℕ) (spec : FormatSpec) (pad before gap : ℕ) → pad ≡ layout_padding number name spec
    → before ≡ layout_left_padding spec.align pad → gap ≡ gap_of spec.sign name
    → spaces before ++ number ++ spaces (pad - before + gap) ++ name ≡ layout number name spec
layout_of_parts number name spec pad before gap pad_is before_is gap_is =
    grind (arith, replicate-append-replicate, append_assoc)

-- A run of an ASCII byte is ASCII.
pub run_ascii : (count byte : ℕ) → byte < 128 → IsAscii (replicate count byte)
run_ascii count byte small = IsAscii-from_all (replicate count byte)
    (All-replicate (λ byte. byte < 128) count byte small)

-- The text of parts that can be written is ASCII.
pub row_ascii : (row : TextParts) → IsReady row → IsAscii (decimal row.whole) → IsAscii (fraction_of row.fraction)
    → IsAscii (parts_text row)
row_ascii row ready whole fraction =
    let number = IsAscii-append _ _ (IsAscii-append _ _ ready.1 whole) fraction in
    let front = IsAscii-append _ _ (run_ascii row.before 32 (omega arith)) number in
    IsAscii-append _ _ (IsAscii-append _ _ front (run_ascii row.after 32 (omega arith))) ready.2

-- what the calls that write the first digits of an expansion after a point use
pub ruleset first_digits_put = (fraction_length, glyphs_within, common_steps)
