-- A formatted size is read as the size, and what the string of an adjusted size is read as.
--
-- The number of an adjusted form, `number_is`, is its expansion, that it is this, and that the text is that of it.
use Rattle.std.proofs.Common.{◌≡◌, ℕ, ◌<◌, List, [], ◌++◌, refl, arith, ◌≢◌, ◌+◌, ◌-◌, ◌*◌}
use Rattle.std.proofs.Common.{◌≤◌, ⊎_elim, inl, inr, length, rules, sym, ap, ◌∙◌, Bool, false, append-nil, append_assoc}
use Rattle.std.proofs.Common.{◌^◌, subst}
use Rattle.std.proofs.lemmas.Str.{IsAscii-append}
use Rattle.byte_unit_base.specs.Grammar.SizeText.{trim_of, IsSizeText}
use Rattle.byte_unit_base.proofs.SizeAscii.{visible_ascii, gap_left, spaces_dropped, trim_front}
use Rattle.byte_unit_format.specs.Plain.{spaces, plus_of, plain, plain_padding, plain_left_padding}
use Rattle.std.specs.Fmt.{decimal}
use Rattle.std.proofs.lemmas.Nat.{mul-le}
use Rattle.std.proofs.lemmas.List.{replicate-append-replicate, length-append}
use Rattle.byte_unit_math.specs.Bounds.{scale, places_of_decimal, whole_limit, bits_limit}
use Rattle.byte_unit_base.specs.Grammar.Shape.{Shape, bits}
use Rattle.byte_unit_base.specs.Grammar.Version.{current, unit_name_in}
use Rattle.byte_unit_base.specs.Grammar.Spelling.{Spells}
use Rattle.byte_unit_math.specs.Finite.{Finite, IsExpansion, ulps_of}
use Rattle.byte_unit_math.specs.Digits.{at_places, trim_expansion}
use Rattle.byte_unit_math.specs.Numeral.{fraction_text, text_of}
use Rattle.byte_unit_math.proofs.Digits.{ShortOf-shortened}
use Rattle.byte_unit_math.proofs.Scales.{pow10_times_rest}
use Rattle.std.proofs.lemmas.Bool.{cases_lt}
use Rattle.byte_unit_base.specs.declared.kind.Kind.{Kind}
use Rattle.byte_unit_base.specs.declared.kind.Kind.TheVariants.{Byte, Bit}
use Rattle.byte_unit_format.specs.declared.spec.FormatSpec.{FormatSpec}
use Rattle.byte_unit_format.specs.declared.spec.Sign.{Sign}
use Rattle.byte_unit_format.specs.declared.spec.Sign.TheVariants.{Plus}
use Rattle.byte_unit_choice.specs.Family.{HasKind, own_family}
use Rattle.byte_unit_choice.specs.Choice.{IsRecoveredIn}
use Rattle.byte_unit_choice.proofs.Choosing.{some_bits, own_number}
use Rattle.byte_unit_base.proofs.Names.{IsKnown, SaysKind, name_spells, name_visible, name_some, unit_known}
use Rattle.byte_unit_base.specs.Sizes.Kinds.{bits_in, own_unit, flags_for}
use Rattle.byte_unit_base.specs.Sizes.Accepted.{IsAccepted, IsAcceptedAs, IsRejected, IsMeasureAs}
use Rattle.byte_unit_base.specs.Reading.ParseSpec.{parse_spec, unit_meant}
use Rattle.byte_unit_base.specs.declared.spec.ParseSpec.{ParseSpec}
use Rattle.byte_unit_format.specs.Layout.{layout, layout_padding, layout_left_padding, gap_of}
use Rattle.byte_unit_format.specs.Forms.{places_of, IsSizeForm}
use Rattle.byte_unit_format.specs.FormLaws.{SizeFormReadsBack, PlainFormReadsBack, AdjustedStringReadsBack, FitsDecimal}
use Rattle.byte_unit_base.proofs.NumberTexts.{fixed_point_of, number_text, fixed_visible, whole_visible}
use Rattle.byte_unit_base.proofs.NumberTexts.{whole_text, IsBounded}
use Rattle.byte_unit_format.proofs.NarrowTexts.{own_kind}
use Rattle.byte_unit_format.proofs.AdjustedLengths.{whole_at_most}
use Rattle.byte_unit_format.proofs.TextParts.{run_ascii}
use Rattle.byte_unit_math.specs.Exact.{IsExactAt}
use Rattle.byte_unit_base.specs.Grammar.Units.{shape_of}
use Rattle.byte_unit_base.specs.Errors.Fault.{too_long, IsSizeFault}
use Rattle.byte_unit_format.specs.Adjusted.{IsAdjustedForm}
use Rattle.byte_unit_format.specs.AdjustedString.{IsAdjustedString}
use Rattle.byte_unit_format.specs.declared.spec.TheConstants.FormatSpec.{ALTERNATE}
use Rattle.byte_unit_base.specs.declared.unit.Unit.{Unit as UnitName}
use Rattle.byte_unit_base.proofs.LongFractions.{long_fault}
use Rattle.byte_unit_math.proofs.Expanding.{exact_more}

-- Units of the kind's own unit set are read in their kind: where bits are read, case is significant.
own_says : (kind : Kind) (ignore_case bit : Bool) → HasKind (own_family kind) bit
    → SaysKind (flags_for kind ignore_case) bit
own_says Byte ignore_case bit has is_bit = absurd (let never : ⊥ = cc in never)
own_says Bit ignore_case bit has is_bit = refl

-- A text that is read as a number of a unit is accepted as the size, if that number of the unit is exactly the size and
-- the unit that is meant is that unit.
pub accepted_as :
    (reading : ParseSpec) (text : List ℕ) (number size : ℕ) (unit : Shape) → unit_meant reading unit ≡ unit
    → IsSizeText current (flags_for reading.kind reading.ignore_case) (trim_of text) number unit
    → number * bits unit ≡ size * bits_in reading.kind * scale → size < current.size_limit
    → IsAcceptedAs reading current text size
accepted_as reading text number size unit itself is_size exact below =
    let measure : IsMeasureAs reading current text number unit = inl is_size in grind (arith, measure)

-- A layout is spaces, the number, spaces and the unit.
layout_regrouped :
    (before behind gap : ℕ) (number unit : List ℕ)
    → (((spaces before ++ number) ++ spaces behind) ++ spaces gap) ++ unit
    ≡ spaces before ++ (number ++ (spaces (behind + gap) ++ unit))
layout_regrouped before behind gap number unit =
    rw (← replicate-append-replicate {A = ℕ} behind gap 32) (simp (append_assoc {A = ℕ}))

-- A number formatted with its unit is, without the spaces at both ends, the number, some spaces and the unit.
pub trimmed_layout : (spec : FormatSpec) (e : Finite) (unit : Shape) → IsBounded e → unit.power ≤ length current.letters
    → (between : ℕ) × (trim_of (layout (text_of e) (unit_name_in current unit) spec)
    ≡ text_of e ++ (spaces between ++ unit_name_in current unit))
trimmed_layout spec e unit bounded known =
    let name = unit_name_in current unit in
    let number = text_of e in
    let pad = layout_padding number name spec in
    let before = layout_left_padding spec.align pad in
    let gap = gap_of spec.sign name in
    let between = (pad - before) + gap in
    let visible = name_visible unit known in
    let some : 0 < length number = omega (
      arith,
      length-append (decimal e.whole) (fraction_text e.digits),
      (whole_text e.whole bounded.bound).0.0,
    ) in
    let behind = IsAscii-append (spaces between) name (run_ascii between 32 (omega arith)) (visible_ascii name visible) in (
      between,
      ap trim_of (layout_regrouped before (pad - before) gap number name)
          ∙ (trim_front before number (spaces between ++ name) (fixed_visible e.whole e.digits bounded.small bounded.bound)
          some behind ∙ ap (λ rest. number ++ rest) (gap_left between name visible (name_some unit))),
    )

-- A decimal of at most 28 digits after the point, formatted with a unit, is the text of that number of the unit.
pub layout_is_size :
    (kind : Kind) (ignore_case : Bool) (spec : FormatSpec) (e : Finite) (unit : Shape) → IsBounded e
    → length e.digits ≤ places_of_decimal → IsKnown unit → SaysKind (flags_for kind ignore_case) unit.bit
    → IsSizeText current (flags_for kind ignore_case) (trim_of (layout (text_of e) (unit_name_in current unit) spec))
    (fixed_point_of e.whole e.digits) unit
layout_is_size kind ignore_case spec e unit bounded few known says =
    let text = (trimmed_layout spec e unit bounded known.known).1 in
    let spelled = name_spells (flags_for kind ignore_case) unit known says in
    search (rules, text, number_text e.whole e.digits bounded.small few bounded.bound, spelled)

-- If a number of a unit, with at most 28 digits after the point, is the size, its text is accepted as the size.
pub layout_accepted :
    (kind : Kind) (ignore_case : Bool) (size : ℕ) (spec : FormatSpec) (e : Finite) (unit : Shape) → IsBounded e
    → length e.digits ≤ places_of_decimal → IsKnown unit → SaysKind (flags_for kind ignore_case) unit.bit
    → fixed_point_of e.whole e.digits * bits unit ≡ size * bits_in kind * scale → size < current.size_limit
    → IsAccepted kind ignore_case (layout (text_of e) (unit_name_in current unit) spec) size
layout_accepted kind ignore_case size spec e unit bounded few known says exact below =
    grind (arith, accepted_as, fixed_point_of, layout_is_size)

-- A size has fewer than 8 * 10^30 bits.
pub bits_of_size_bound : (kind : Kind) (size : ℕ) → size < current.size_limit → size * bits_in kind < bits_limit
bits_of_size_bound kind size below = grind arith

-- The exact unit of a size is in the current version, and is read in its kind.
recovered_name : (kind : Kind) (ignore_case : Bool) (size precision : ℕ) (unit : Shape)
    → IsRecoveredIn current kind false size precision unit
    → IsKnown unit × SaysKind (flags_for kind ignore_case) unit.bit
recovered_name kind ignore_case size precision unit (inl largest) = grind (arith, own_says)
recovered_name kind ignore_case size precision unit (inr own) = grind (arith, own_says, own_kind)

-- A size formatted with a unit is the text of its number of its unit.
pub form_is_size :
    (kind : Kind) (size : ℕ) (spec : FormatSpec) (ignore_case : Bool) (text : List ℕ) → size < current.size_limit
    → (form : IsSizeForm kind size spec text)
    → IsSizeText current (flags_for kind ignore_case) (trim_of text) form.number form.unit
form_is_size kind size spec ignore_case text below form =
    let e = trim_expansion (at_places places_of_decimal form.number) in
    let short = ShortOf-shortened form.number places_of_decimal in
    let bound : e.whole < whole_limit = omega (
      arith,
      bits_of_size_bound kind size below,
      mul-le form.number 1 form.number (bits form.unit) (omega arith) (some_bits form.unit),
      form.number_is,
    ) in
    let number : fixed_point_of e.whole e.digits ≡ form.number =
    omega (arith, short.scaled_is, ap (λ n. e.whole * n) (pow10_times_rest (length e.digits) short.few)) in
    let named = recovered_name kind ignore_case size (places_of spec.precision) form.unit form.is_recovered in
    let is_size = layout_is_size kind ignore_case spec e form.unit (record { small = short.small; bound = bound })
    short.few named.0 named.1 in
    subst (λ number. IsSizeText current (flags_for kind ignore_case) (trim_of text) number form.unit) number
    (rw form.text_is is_size)

-- A size formatted with a unit is read as the size.
pub size_form_reads_back : SizeFormReadsBack
size_form_reads_back kind size spec ignore_case text below form =
    accepted_as (parse_spec kind ignore_case false) text form.number size form.unit refl
    (form_is_size kind size spec ignore_case text below form) form.number_is below

-- A sign other than `Plus` writes nothing before the digits.
no_plus : (sign : Sign) → sign ≢ Plus → plus_of sign ≡ []
no_plus sign other = grind arith

-- The empty text spells the base unit of the kind.
no_unit : (kind : Kind) (ignore_case : Bool) → Spells current (flags_for kind ignore_case) [] (own_unit kind)
no_unit Byte ignore_case = inl record { count_is = inl (refl, refl); power_is = refl; binary_is = refl }
no_unit Bit ignore_case = inl record { count_is = inl (refl, refl); power_is = refl; binary_is = refl }

-- A size formatted as digits without a plus sign is the text of the size as a number of its base unit.
digits_are_size :
    (kind : Kind) (size : ℕ) (spec : FormatSpec) (ignore_case : Bool) → size < current.size_limit → spec.sign ≢ Plus
    → IsSizeText current (flags_for kind ignore_case) (trim_of (plain size spec)) (size * scale) (own_unit kind)
digits_are_size kind size spec ignore_case below sign =
    let bound : size < whole_limit = omega (arith, below) in
    let pad = plain_padding size spec in
    let before = plain_left_padding spec.align pad in
    let trims : trim_of (plain size spec) ≡ decimal size =
    ap (λ plus. trim_of ((spaces before ++ (plus ++ decimal size)) ++ spaces (pad - before))) (no_plus spec.sign sign)
    ∙ (ap trim_of (append_assoc (spaces before) (decimal size) (spaces (pad - before)))
    ∙ (trim_front before (decimal size) (spaces (pad - before)) (whole_visible size bound)
    (whole_text size bound).0.0 (run_ascii (pad - before) 32 (omega arith))
    ∙ (ap (λ rest. decimal size ++ rest) (spaces_dropped (pad - before)) ∙ append-nil (decimal size)))) in
    record {
      number_part = decimal size;
      spaces = 0;
      unit_part = [];
      text_is = trims ∙ sym (append-nil (decimal size));
      number_is = inl (size, whole_text size bound, refl);
      unit_is = no_unit kind ignore_case;
    }

-- A size formatted as digits without a plus sign is read as the size, if the base unit is meant by itself.
pub digits_accepted :
    (reading : ParseSpec) (size : ℕ) (spec : FormatSpec) → unit_meant reading (own_unit reading.kind) ≡ own_unit reading.kind
    → size < current.size_limit → spec.sign ≢ Plus → IsAcceptedAs reading current (plain size spec) size
digits_accepted reading size spec own below sign =
    let unit = own_unit reading.kind in
    accepted_as reading (plain size spec) (size * scale) size unit own
    (digits_are_size reading.kind size spec reading.ignore_case below sign)
    (own_number reading.kind size (size * scale) unit refl refl) below

-- A size formatted as digits without a plus sign is read as the size.
pub plain_form_reads_back : PlainFormReadsBack
plain_form_reads_back kind size spec ignore_case below sign =
    digits_accepted (parse_spec kind ignore_case false) size spec refl below sign

-- The digits of the expansion of a size are below ten, and its whole part is within the bound of the grammar.
expansion_bounded : (kind : Kind) (size : ℕ) (unit : Shape) (e : Finite) → size < current.size_limit
    → IsExpansion (size * bits_in kind) (bits unit) e → IsBounded e
expansion_bounded kind size unit e below expansion =
    let not_above = whole_at_most (size * bits_in kind) (bits unit) e (some_bits unit) expansion in
    record { small = expansion.small; bound = omega (arith, not_above, bits_of_size_bound kind size below) }

-- The expansion scaled by 10^28, times the unit, is the size scaled by 10^28.
expansion_product : (num den : ℕ) (e : Finite) → IsExpansion num den e → length e.digits ≤ places_of_decimal
    → fixed_point_of e.whole e.digits * den ≡ num * scale
expansion_product num den e expansion few =
    let power = pow10_times_rest (length e.digits) few in
    omega (
      arith,
      ap (λ n. n * 10 ^ (places_of_decimal - length e.digits)) expansion.exact,
      ap (λ n. num * n) power,
      ap (λ n. e.whole * den * n) power,
    )

-- An adjusted text is accepted as its size if that is exact within 28 places.
form_accepted : (kind : Kind) (size : ℕ) (unit : UnitName) (text : List ℕ) → size < current.size_limit
    → IsAdjustedForm kind size unit ALTERNATE text
    → IsExactAt (size * bits_in kind) (bits (shape_of unit)) places_of_decimal → IsAccepted kind false text size
form_accepted kind size unit text below form exact =
    let shape = shape_of unit in
    let e = form.number_is.0 in
    let few = form.number_is.1.least places_of_decimal exact in
    rw (form.text_is, form.number_is.2) (layout_accepted kind false size ALTERNATE e shape
    (expansion_bounded kind size shape e below form.number_is.1) few (unit_known unit) (λ bit. grind arith)
    (expansion_product (size * bits_in kind) (bits shape) e form.number_is.1 few) below)

-- An adjusted text whose size is not exact within 28 places is rejected as too long.
form_rejected : (kind : Kind) (size : ℕ) (unit : UnitName) (text : List ℕ) → size < current.size_limit
    → IsAdjustedForm kind size unit ALTERNATE text
    → ¬ (IsExactAt (size * bits_in kind) (bits (shape_of unit)) places_of_decimal)
    → IsSizeFault current (flags_for kind false) (trim_of text) too_long
form_rejected kind size unit text below form long =
    let shape = shape_of unit in
    let e = form.number_is.0 in
    let expansion = form.number_is.1 in
    let many : places_of_decimal < length e.digits = ⊎_elim (λ many. many)
    (λ few.
    absurd (long (exact_more (size * bits_in kind) (bits shape) _ places_of_decimal few (ulps_of e, expansion.exact))))
    (cases_lt places_of_decimal (length e.digits)) in
    let bounded = expansion_bounded kind size shape e below expansion in
    let layout_is = trimmed_layout ALTERNATE e shape bounded (unit_known unit).known in
    let text_is =
    ap trim_of (form.text_is ∙ ap (λ number. layout number (unit_name_in current shape) ALTERNATE) form.number_is.2)
    ∙ layout_is.1 in
    long_fault (flags_for kind false) e (spaces layout_is.0 ++ unit_name_in current shape) (trim_of text) bounded
    many text_is

-- The string of an adjusted size is read as the size if it has at most 28 digits after the point.
string_accepted : (kind : Kind) (size : ℕ) (unit : UnitName) (text : List ℕ) → size < current.size_limit
    → IsAdjustedString kind size unit text → FitsDecimal current kind size (shape_of unit)
    → IsAccepted kind false text size
string_accepted kind size unit text below (inl greatest) fits =
    size_form_reads_back kind size ALTERNATE false text below greatest.1
string_accepted kind size unit text below (inr other) (inl greatest) = absurd (other.0 greatest)
string_accepted kind size unit text below (inr other) (inr exact) =
    form_accepted kind size unit text below other.1 exact

-- The string of an adjusted size is rejected as too long if it has more than 28 digits after the point.
string_rejected : (kind : Kind) (size : ℕ) (unit : UnitName) (text : List ℕ) → size < current.size_limit
    → IsAdjustedString kind size unit text → ¬ (FitsDecimal current kind size (shape_of unit))
    → IsRejected kind false text too_long
string_rejected kind size unit text below (inl greatest) long = absurd (long (inl greatest.0))
string_rejected kind size unit text below (inr other) long =
    inr (form_rejected kind size unit text below other.1 (λ exact. long (inr exact)), refl)

-- The string of an adjusted size is read as the size if it has at most 28 digits after the point, and is else rejected
-- as too long.
pub adjusted_string_reads_back : AdjustedStringReadsBack
adjusted_string_reads_back kind size unit text below string = record {
  accepted = string_accepted kind size unit text below string;
  refused = string_rejected kind size unit text below string;
}
