-- A size has exactly one text with a unit by each spec, and what the code writes of it is this text.
--
-- A choice `found` is a unit, a number, and that these are chosen; a form `found` is a text, and that it is the form.
use Rattle.std.proofs.Common.{rules, ◌≡◌, ℕ, ◌*◌, inl, inr, false, List, refl, sym, ◌∙◌, ⊎_elim, ◌+◌, ◌-◌, ◌<◌, min}
use Rattle.std.proofs.Common.{zero, suc, Bool, true, ◌∷◌, ◌++◌, length, take, replicate, arith, ap, MatchBool}
use Rattle.std.proofs.Math.Nat.{eq_of_mul-eq-mul_right}
use Rattle.byte_unit_base.specs.Grammar.Shape.{Shape, bits}
use Rattle.byte_unit_base.specs.Grammar.Version.{Version, unit_name_in, current}
use Rattle.byte_unit_choice.specs.Choice.{IsRecoveredIn, family_for}
use Rattle.byte_unit_choice.proofs.Choosing.{some_bits, own_number}
use Rattle.byte_unit_choice.proofs.OneChoice.{one_largest}
use Rattle.byte_unit_base.specs.declared.kind.Kind.{Kind}
use Rattle.byte_unit_format.specs.declared.spec.FormatSpec.{FormatSpec}
use Rattle.byte_unit_base.specs.Sizes.Kinds.{bits_in, own_unit}
use Rattle.byte_unit_choice.specs.Family.{own_family}
use Rattle.byte_unit_format.specs.Forms.{places_of, IsSizeFormIn, IsSizeForm, IsText}
use Rattle.byte_unit_math.specs.Bounds.{scale, places_of_decimal}
use Rattle.byte_unit_math.specs.Numeral.{short_numeral, glyphs, fraction_text, text_of}
use Rattle.byte_unit_choice.proofs.LaterChoices.{number_times_chosen}
use Rattle.byte_unit_choice.proofs.SomeChoice.{choice_or_none}
use Rattle.byte_unit_format.specs.Layout.{layout}
use Rattle.byte_unit_format.specs.FormLaws.{SizeHasOneForm}
use Rattle.std.specs.Fmt.{decimal}
use Rattle.std.proofs.lemmas.List.{length-map, map-append}
use Rattle.std.proofs.lemmas.Grind.{common_steps}
use Rattle.byte_unit_math.specs.Digits.{last_digits}
use Rattle.byte_unit_math.specs.Finite.{Finite}
use Rattle.byte_unit_math.specs.Padded.{pad_of}
use Rattle.byte_unit_math.proofs.Fractions.{fraction_text_some}
use Rattle.byte_unit_math.proofs.ShortExpansions.{AreFields, fields_expansion}
use Rattle.byte_unit_math.proofs.Texts.{text_of_short_numeral, padded_to_own_places}
use Rattle.byte_unit_format.specs.Plain.{plain}

-- A size has at most one exact unit within a precision.
pub recovered_unit_unique :
    (version : Version) (kind : Kind) (size precision : ℕ) (unit other : Shape)
    → IsRecoveredIn version kind false size precision unit
    → IsRecoveredIn version kind false size precision other → unit ≡ other
recovered_unit_unique version kind size precision unit other (inl largest) (inl other_largest) =
    one_largest version (family_for kind false) (size * bits_in kind) precision unit other largest other_largest
recovered_unit_unique version kind size precision unit other (inl largest) (inr none) = absurd (none.0 unit largest.has)
recovered_unit_unique version kind size precision unit other (inr none) (inl largest) =
    absurd (none.0 other largest.has)
recovered_unit_unique version kind size precision unit other (inr own) (inr other_own) = own.1 ∙ sym other_own.1

-- A size has at most one text with a unit by a spec.
pub size_form_unique : (version : Version) (kind : Kind) (size : ℕ) (spec : FormatSpec) (text other : List ℕ)
    → IsSizeFormIn version kind size spec text → IsSizeFormIn version kind size spec other → text ≡ other
size_form_unique version kind size spec text other form other_form = grind (
  arith,
  common_steps,
  recovered_unit_unique version kind size (places_of spec.precision) form.unit other_form.unit form.is_recovered other_form.is_recovered,
  eq_of_mul-eq-mul_right,
  some_bits form.unit,
)

-- Each size has a text with its exact unit by each spec.
form_exists : (version : Version) (kind : Kind) (size : ℕ) (spec : FormatSpec)
    → (form : List ℕ) × IsSizeFormIn version kind size spec form
form_exists version kind size spec =
    let of : Shape → ℕ → List ℕ =
    λ unit number. layout (short_numeral number places_of_decimal) (unit_name_in version unit) spec in
    let precision = places_of spec.precision in
    ⊎_elim
    (λ found.
    let product = number_times_chosen version (own_family kind) (size * bits_in kind) precision found.1 found.0
    found.2 in
    let form : IsSizeFormIn version kind size spec (of found.0 found.1) = search (rules, product, found.2.unit_is) in
    (of found.0 found.1, form))
    (λ none.
    let form : IsSizeFormIn version kind size spec (of (own_unit kind) (size * scale)) = record {
      unit = own_unit kind;
      number = size * scale;
      is_recovered = inr (none, refl);
      number_is = own_number kind size (size * scale) (own_unit kind) refl refl;
      text_is = refl;
    } in
    (of (own_unit kind) (size * scale), form))
    (choice_or_none version (own_family kind) (size * bits_in kind) precision)

-- A size has exactly one text with a unit by a spec.
pub has_one_form : SizeHasOneForm
has_one_form version kind size spec =
    let found = form_exists version kind size spec in
    record {
      form = found.0;
      is_form = found.1;
      one = λ other is_other. size_form_unique version kind size spec other found.0 is_other found.1;
    }

-- Zeros as characters are the character `0`, 48.
glyphs_of_zeros : (count : ℕ) → glyphs (replicate count 0) ≡ replicate count 48
glyphs_of_zeros zero = refl
glyphs_of_zeros (suc count) = ap (λ list. 48 ∷ list) (glyphs_of_zeros count)

-- Padded to some digits after the point, the fraction is a point, the digits, and zeros for the missing ones.
pub fraction_some :
    (places : ℕ) (digits : List ℕ) → 0 < places
    → fraction_text (take places digits ++ replicate (places - length digits) 0)
    ≡ 46 ∷ (glyphs (take places digits) ++ replicate (places - length digits) 48)
fraction_some places digits positive = grind (arith, common_steps, fraction_text_some, map-append, glyphs_of_zeros)

-- The text of digits after the point is as long as the digits, and one more for the point if there are any.
pub length_of_fraction_text : (digits : List ℕ) → length (fraction_text digits) ≡ length digits + min 1 (length digits)
length_of_fraction_text digits = grind (arith, common_steps, length-map {A = ℕ} {B = ℕ})

-- The text of a fraction padded to `places` digits is as long as these, and one more for the point if there are any.
pub fraction_length :
    (places : ℕ) (digits : List ℕ)
    → length (fraction_text (take places digits ++ replicate (places - length digits) 0)) ≡ places + min 1 places
fraction_length places digits =
    grind (arith, common_steps, length_of_fraction_text (take places digits ++ replicate (places - length digits) 0))

-- Padded to its own number of digits after the point, a decimal has the same text.
pub all_places : (e : Finite) (places : ℕ) → places ≡ length e.digits → text_of (pad_of places e) ≡ text_of e
all_places e places count = ap (λ places. text_of (pad_of places e)) count ∙ ap text_of (padded_to_own_places e)

-- If the number is the size in its exact unit, the number's fields, formatted with the unit, are the text of the size.
pub size_form_of_fields : (kind : Kind) (size : ℕ) (spec : FormatSpec) {unit : Shape}
    {number places whole digits count : ℕ} → places ≡ places_of spec.precision
    → IsRecoveredIn current kind false size places unit → number * bits unit ≡ size * bits_in kind * scale
    → AreFields number whole digits count → IsSizeForm kind size spec
    (layout (decimal whole ++ fraction_text (last_digits count digits)) (unit_name_in current unit) spec)
size_form_of_fields kind size spec {unit} {number} {places} {whole} {digits} {count} places_are recovered product fields =
    let e : Finite = record { whole = whole; digits = last_digits count digits } in
    let within = rw places_are at recovered in
    let text_is = ap (λ number. layout number (unit_name_in current unit) spec)
    (text_of_short_numeral number places_of_decimal e (fields_expansion fields)) in
    search (rules, within, product, text_is)

-- If the alternate form is set, the size formatted with a unit is its text.
pub size_form_is_text :
    (kind : Kind) (size : ℕ) (spec : FormatSpec) {text : List ℕ} → spec.alternate ≡ true
    → IsSizeForm kind size spec text → IsText kind size spec text
size_form_is_text kind size spec {text} alternate form = grind (arith, common_steps)

-- A size has at most one text by a spec.
text_unique :
    (alternate : Bool) (kind : Kind) (size : ℕ) (spec : FormatSpec) (text other : List ℕ)
    → MatchBool alternate (IsSizeForm kind size spec text) (text ≡ plain size spec)
    → MatchBool alternate (IsSizeForm kind size spec other) (other ≡ plain size spec) → other ≡ text
text_unique true kind size spec text other is_text is_other =
    size_form_unique current kind size spec other text is_other is_text
text_unique false kind size spec text other is_text is_other = is_other ∙ sym is_text

-- All texts of a size by one spec are equally long.
pub text_length_unique :
    (kind : Kind) (size : ℕ) (spec : FormatSpec) (text : List ℕ) → IsText kind size spec text
    → (other : List ℕ) → IsText kind size spec other → length other ≡ length text
text_length_unique kind size spec text is_text other is_other =
    ap length (text_unique spec.alternate kind size spec text other is_text is_other)
