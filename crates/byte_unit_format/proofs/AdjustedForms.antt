-- A size has exactly one text in a given unit by each spec, and what the code makes of its digits is this text.
--
-- Of a text by a rule, as `of_text`, the parts are the expansion or the nearest decimal, that it is this, and that the
-- text is its. The same holds of `of_other`. A nearest decimal that is `found` is its number, and that it is nearest; a
-- text that is `found` is the text, and that it is by the rule.
use Rattle.std.proofs.lemmas.Grind.{common_steps}
use Rattle.std.proofs.Common.{◌≡◌, ℕ, ◌+◌, ◌*◌, ◌/◌, ◌%◌, ◌^◌, ◌<◌, ◌≤◌, ◌++◌, ⊎_elim, List, arith, ap, sym, refl, ◌∙◌}
use Rattle.std.proofs.Common.{length, ◌-◌}
use Rattle.std.specs.Fmt.{decimal}
use Rattle.std.proofs.Math.Nat.{div-add-mod', mod-eq_of_lt}
use Rattle.std.proofs.lemmas.Nat.{pow-add, mul-pow, mod_below}
use Rattle.std.proofs.lemmas.Bool.{cases_lt}
use Rattle.byte_unit_math.specs.Finite.{Finite, IsExpansion, ulps_of}
use Rattle.byte_unit_math.specs.Nearest.{IsNearest}
use Rattle.byte_unit_math.specs.Padded.{pad_of}
use Rattle.byte_unit_math.specs.Digits.{at_places, trim_expansion, last_digits}
use Rattle.byte_unit_math.specs.Numeral.{text_of, numeral, short_numeral, fraction_text}
use Rattle.byte_unit_math.specs.declared.expansion.Ties.{Ties}
use Rattle.byte_unit_math.specs.declared.expansion.Ties.TheVariants.{Even, Up}
use Rattle.byte_unit_math.proofs.Digits.{one_le_pow10, length_last_digits, last_digits_below_ten, value_of_last_digits}
use Rattle.byte_unit_math.proofs.Digits.{scaled_at_places}
use Rattle.byte_unit_math.proofs.Nearest.{nearest_down, rounds_up_even, rounds_down_even, rounds_up_half, rounds_down_half}
use Rattle.byte_unit_math.proofs.Texts.{same_finite, expansion_unique, nearest_unique, short_numeral_is_expansion}
use Rattle.byte_unit_math.proofs.Scales.{pow10_split}
use Rattle.byte_unit_math.proofs.Texts.{expansion_of_same_fraction}
use Rattle.byte_unit_base.specs.Grammar.Shape.{Shape, bits, twos, fives}
use Rattle.byte_unit_base.specs.Grammar.Version.{Version, unit_name, unit_name_in}
use Rattle.byte_unit_choice.proofs.Choosing.{some_bits}
use Rattle.byte_unit_base.specs.declared.kind.Kind.{Kind}
use Rattle.byte_unit_format.specs.declared.spec.FormatSpec.{FormatSpec}
use Rattle.byte_unit_base.specs.Sizes.Kinds.{bits_in}
use Rattle.byte_unit_format.specs.Layout.{layout, layout_of}
use Rattle.byte_unit_format.specs.Adjusted.{Rule, full, round_to, short_to, IsNumeralBy, rule_of, IsAdjustedFormIn, IsAdjustedForm}
use Rattle.byte_unit_format.specs.Rounding.{rule_from, IsRoundingOf}
use Rattle.byte_unit_format.specs.declared.adjusted.Rounding.{Rounding}
use Rattle.byte_unit_base.specs.Grammar.Units.{shape_of}
use Rattle.byte_unit_base.specs.declared.unit.Unit.{Unit as UnitName}
use Rattle.byte_unit_format.specs.FormLaws.{SizeHasOneAdjustedForm}

-- A quotient has at most one text by a rule.
numeral_unique : (rule : Rule) (num den : ℕ) (text other : List ℕ) → 0 < den → IsNumeralBy rule num den text
    → IsNumeralBy rule num den other → text ≡ other
numeral_unique full num den text other some of_text of_other = grind (arith, common_steps, expansion_unique)
numeral_unique (round_to places) num den text other some of_text of_other = grind (arith, common_steps, nearest_unique)
numeral_unique (short_to places) num den text other some of_text of_other = grind (arith, common_steps, nearest_unique)

-- A size has at most one text in a unit by a spec.
pub adjusted_form_unique : {version : Version} {kind : Kind} {size : ℕ} {unit : Shape} {spec : FormatSpec}
    {text other : List ℕ} → IsAdjustedFormIn version kind size unit spec text
    → IsAdjustedFormIn version kind size unit spec other → text ≡ other
adjusted_form_unique {version} {kind} {size} {unit} {spec} form other =
    grind (arith, common_steps, numeral_unique, some_bits unit)

-- For each quotient there is a nearest multiple of 10^-places, whichever way ties are broken.
nearest_exists : (num den places : ℕ) (ties : Ties) → 0 < den → (q : ℕ) × IsNearest num den places ties q
nearest_exists num den places Even some = ⊎_elim (λ more. (_, rounds_up_even num den places some more))
    (λ most. (_, rounds_down_even num den places some most))
    (cases_lt den (2 * (num * 10 ^ places % den) + num * 10 ^ places / den % 2))
nearest_exists num den places Up some = ⊎_elim (λ less. (_, rounds_down_half num den places some less))
    (λ most. (_, rounds_up_half num den places some most)) (cases_lt (2 * (num * 10 ^ places % den)) den)

-- 10^(twos + fives) is a multiple of 2^twos * 5^fives.
pow10_of_sum : (twos fives : ℕ) → 10 ^ (twos + fives) ≡ (5 ^ twos * 2 ^ fives) * (2 ^ twos * 5 ^ fives)
pow10_of_sum twos fives = rw (pow-add 10 twos fives, mul-pow 2 5 twos, mul-pow 2 5 fives) (omega arith)

-- A quotient by 2^twos * 5^fives has a text by each rule.
numeral_exists : (rule : Rule) (num twos fives : ℕ) → 0 < 2 ^ twos * 5 ^ fives
    → (text : List ℕ) × IsNumeralBy rule num (2 ^ twos * 5 ^ fives) text
numeral_exists full num twos fives some =
    let places : ℕ = twos + fives in
    let number : ℕ = num * (5 ^ twos * 2 ^ fives) in
    let e = trim_expansion (at_places places number) in
    let same : number * (2 ^ twos * 5 ^ fives) ≡ num * 10 ^ places =
    omega (arith, ap (λ power. num * power) (pow10_of_sum twos fives)) in
    let expansion = expansion_of_same_fraction number (10 ^ places) num (2 ^ twos * 5 ^ fives) e
    (record { positive = omega (arith, one_le_pow10 places); positive' = some; same = same })
    (short_numeral_is_expansion number places) in
    (text_of e, (e, expansion, refl))
numeral_exists (round_to places) num twos fives some =
    let found = nearest_exists num (2 ^ twos * 5 ^ fives) places Even some in
    (numeral found.0 places, (found.0, found.1, refl))
numeral_exists (short_to places) num twos fives some =
    let found = nearest_exists num (2 ^ twos * 5 ^ fives) places Up some in
    (short_numeral found.0 places, (found.0, found.1, refl))

-- A size has exactly one text in a unit by a spec.
pub has_one_adjusted_form : SizeHasOneAdjustedForm
has_one_adjusted_form version kind size unit spec =
    let found = numeral_exists (rule_of spec.precision spec.alternate unit) (size * bits_in kind) (twos unit)
    (fives unit) (omega (arith, some_bits unit)) in
    let form = layout found.0 (unit_name_in version unit) spec in
    let is_form : IsAdjustedFormIn version kind size unit spec form =
    record { number = found.0; number_is = found.1; text_is = refl } in
    record { form = form; is_form = is_form; one = λ other is_other. adjusted_form_unique is_other is_form }

-- A number that is split by a power of ten into whole part and digits after the point has their text.
pub scaled_text : (number places whole digits : ℕ) → whole ≡ number / 10 ^ places → digits ≡ number % 10 ^ places
    → decimal whole ++ fraction_text (last_digits places digits) ≡ numeral number places
scaled_text number places whole digits whole_is digits_is =
    let e : Finite = record { whole = whole; digits = last_digits places digits } in
    let below = mod_below number (10 ^ places) (omega (arith, one_le_pow10 places)) in
    let value = value_of_last_digits places digits ∙ mod-eq_of_lt (omega (arith, digits_is, below)) in
    let sum : ulps_of e ≡ number =
    rw (length_last_digits places digits, value, whole_is, digits_is) (div-add-mod' number (10 ^ places)) in
    ap text_of (same_finite e (at_places places number) (last_digits_below_ten places digits)
    (last_digits_below_ten places number)
    (length_last_digits places digits ∙ sym (length_last_digits places number))
    (sum ∙ sym (scaled_at_places places number)))

-- A quotient with at most p digits after the point is its own nearest decimal, whichever way ties are broken.
pub exact_is_nearest : (num den p : ℕ) (e : Finite) (ties : Ties) → 0 < den → length e.digits ≤ p → IsExpansion num den e
    → (q : ℕ) × IsNearest num den p ties q × IsExpansion q (10 ^ p) e
exact_is_nearest num den p e ties some few h =
    let behind = 10 ^ (p - length e.digits) in
    let q : ℕ = ulps_of e * behind in
    let exact : num * 10 ^ p ≡ q * den =
    omega (arith, ap (λ n. num * n) (pow10_split (length e.digits) p few), ap (λ n. n * behind) h.exact) in (
      q,
      nearest_down num den p q 0 (record { split = omega (arith, exact); below = some }) ties (omega (arith, some)),
      expansion_of_same_fraction num den q (10 ^ p) e
          (record { positive = some; positive' = one_le_pow10 p; same = exact }) h,
    )

-- The text of a number by the rounding of the spec, laid out with the unit, is the adjusted text.
pub adjusted_by_rounding :
    {kind : Kind} {size : ℕ} {unit : UnitName} {spec : FormatSpec} {rounding : Rounding} (number : List ℕ)
    → IsRoundingOf unit spec rounding
    → IsNumeralBy (rule_from rounding) (size * bits_in kind) (bits (shape_of unit)) number
    → IsAdjustedForm kind size unit spec (layout number (unit_name unit) spec)
adjusted_by_rounding number by numeral = record { number = number; number_is = rw by.rule numeral; text_is = refl }

-- The expansion of the size in the unit, rounded as the spec says and laid out with the unit, is the adjusted text.
pub adjusted_by_expansion :
    {kind : Kind} {size : ℕ} {unit : UnitName} {spec : FormatSpec} {rounding : Rounding} {exact : Finite}
    (number : Finite) (places : ℕ) → IsRoundingOf unit spec rounding
    → ((num den : ℕ) → 1 ≤ den → IsExpansion num den exact
    → IsNumeralBy (rule_from rounding) num den (text_of (pad_of places number)))
    → IsExpansion (size * bits_in kind) (bits (shape_of unit)) exact
    → IsAdjustedForm kind size unit spec (layout_of number places unit spec)
adjusted_by_expansion {kind} {size} {unit} number places by text expansion =
    adjusted_by_rounding (text_of (pad_of places number)) by
    (text (size * bits_in kind) (bits (shape_of unit)) (some_bits (shape_of unit)) expansion)
