-- Lemmas: what is formatted can be read again.
use Rattle.std.proofs.Common.{◌≡◌, ◌≢◌, ℕ, ◌<◌, Bool, true, false, true≢false, nat_lt, if◌then◌else◌, List, ◌++◌}
use Rattle.std.proofs.Common.{Option, refl, sym, ap, subst, ◌∙◌}
use Rattle.byte_unit.specs.Sizes.Accepted.{IsAcceptedAs}
use Rattle.byte_unit.specs.BinaryString.{has_binary_prefix}
use Rattle.byte_unit.specs.Bounds.{size_limit}
use Rattle.byte_unit.specs.Choice.{IsRecoveredIn}
use Rattle.byte_unit.specs.FormLaws.{SizeFormReadsBack, PlainFormReadsBack, SizeHasOneForm}
use Rattle.byte_unit.specs.Forms.{IsText, places_of}
use Rattle.byte_unit.specs.NamedSpecs.{plain_spec}
use Rattle.byte_unit.specs.Laws.Words.{WordsChangeNoAcceptedText}
use Rattle.byte_unit.specs.Reading.ParseSpec.{parse_spec, with_words}
use Rattle.byte_unit.specs.declared.ParseSpec.{ParseSpec}
use Rattle.byte_unit.specs.Grammar.Shape.{Shape, shape}
use Rattle.byte_unit.specs.Grammar.Units.{shape_of}
use Rattle.byte_unit.specs.Grammar.Version.{current}
use Rattle.byte_unit.specs.declared.Kind.{Kind}
use Rattle.byte_unit.specs.declared.Sign.TheVariants.{Unset, Plus}
use Rattle.byte_unit_base.proofs.SizeOrFault.{accepted_or_refused}
use Rattle.byte_unit_format.proofs.ReadBack.{accepted_as, digits_accepted, form_is_size}
use Rattle.byte_unit_format.proofs.WrittenForms.{recovered_unit_unique}
use Rattle.byte_unit_command.specs.Field.{without_suffix}
use Rattle.byte_unit_command.specs.Laws.{IsLossless, FormattedSizesAreRead, ExactTwiceIsOnce}
use Rattle.byte_unit_command.specs.Formatted.{IsExactText, IsFormText, exact_spec, padded}
use Rattle.byte_unit_command.specs.declared.options.Form.{Form}
use Rattle.byte_unit_command.specs.declared.options.Form.TheVariants.{Exact, Plain, InUnit, NumberOf, Largest}
use Rattle.byte_unit_command.proofs.Readings.{same_spec}
use Rattle.byte_unit_command.proofs.Suffixes.{without_it}
use Rattle.byte_unit_command.proofs.Texts.{padded-none}

-- the sign that is left out is not `+`: the law of plain forms is for any sign but `+`
unset_is_not_plus : Unset ≢ Plus
unset_is_not_plus same = cc

-- a unit with a binary prefix is unchanged if its prefix is made binary. `some` says whether it has a prefix at all: it
-- is a parameter, since both definitions branch on it
by_power : (some : Bool) (unit : Shape) → (if some then unit.binary else false) ≡ true
    → (if some then shape unit.power true unit.bit else unit) ≡ unit
by_power true unit prefix = ap (λ binary. shape unit.power binary unit.bit) (sym prefix)
by_power false unit prefix = refl

module _ (exact : SizeFormReadsBack) (digits : PlainFormReadsBack) (kind : Kind) (precision : Option ℕ) (size : ℕ)
    (ignore_case : Bool) (below : size < size_limit) where
  -- digits are parsed as the size, whatever prefixes mean
  digits_are_read : (reads : Bool) (text : List ℕ) → IsText kind size plain_spec text
      → IsAcceptedAs (parse_spec kind ignore_case reads) current text size
  digits_are_read true text is_text = rw is_text
      (digits_accepted (parse_spec kind ignore_case true) size plain_spec refl below unset_is_not_plus)
  digits_are_read false text is_text = rw is_text (digits kind size plain_spec ignore_case below unset_is_not_plus)

  -- a text in a unit with a binary prefix is parsed as the size, whatever prefixes mean
  binary_is_read : (reads : Bool) (text : List ℕ) (form : IsText kind size (exact_spec precision) text)
      → has_binary_prefix form.unit ≡ true → IsAcceptedAs (parse_spec kind ignore_case reads) current text size
  binary_is_read true text form prefix =
      accepted_as (parse_spec kind ignore_case true) text form.number size form.unit
      (by_power (nat_lt 0 form.unit.power) form.unit prefix)
      (form_is_size kind size (exact_spec precision) ignore_case text below form) form.number_is below
  binary_is_read false text form prefix = exact kind size (exact_spec precision) ignore_case text below form

  -- the exact text where decimal prefixes mean binary ones is parsed as the size, whatever prefixes mean. `is_binary`
  -- says whether its unit has a binary prefix
  by_prefix : (reads : Bool) (text : List ℕ) (unit : Shape)
      → IsRecoveredIn current kind false size (places_of precision) unit → (is_binary : Bool)
      → has_binary_prefix unit ≡ is_binary
      → IsText kind size (if is_binary then exact_spec precision else plain_spec) text
      → IsAcceptedAs (parse_spec kind ignore_case reads) current text size
  by_prefix reads text unit recovered true prefix form =
      let same = recovered_unit_unique current kind size (places_of precision) form.unit unit form.is_recovered
      recovered in
      binary_is_read reads text form (ap has_binary_prefix same ∙ prefix)
  by_prefix reads text unit recovered false prefix is_text = digits_are_read reads text is_text

  -- an exact text is parsed as the size, unless prefixes are read otherwise than it was written for
  exact_is_read : (reads binary : Bool) (text : List ℕ) → (reads ≡ true → binary ≡ true)
      → IsExactText binary kind precision size text → IsAcceptedAs (parse_spec kind ignore_case reads) current text size
  exact_is_read reads true text same (unit, recovered, is_text) =
      by_prefix reads text (shape_of unit) recovered (has_binary_prefix (shape_of unit)) refl is_text
  exact_is_read true false text same is_text = absurd (true≢false (sym (same refl)))
  exact_is_read false false text same is_text = exact kind size (exact_spec precision) ignore_case text below is_text

  -- a text in a lossless form is parsed as its size
  form_is_read : (form : Form) (reads binary : Bool) (text : List ℕ) → IsLossless form → (reads ≡ true → binary ≡ true)
      → IsFormText binary kind form precision size text → IsAcceptedAs (parse_spec kind ignore_case reads) current text size
  form_is_read Exact reads binary text lossless same is_text = exact_is_read reads binary text same is_text
  form_is_read Plain reads binary text lossless same is_text = digits_are_read reads text is_text
  form_is_read (InUnit unit) reads binary text lossless same is_text = absurd lossless
  form_is_read (NumberOf unit) reads binary text lossless same is_text = absurd lossless
  form_is_read (Largest unit_type) reads binary text lossless same is_text = absurd lossless

-- a text that is accepted without words is accepted with them or without them
accepted_too : WordsChangeNoAcceptedText → (words : Bool) (spec : ParseSpec) (text : List ℕ) (size : ℕ)
    → IsAcceptedAs (with_words false spec) current text size → IsAcceptedAs (with_words words spec) current text size
accepted_too law true spec text size at = law spec text size at
accepted_too law false spec text size at = at

-- a size formatted in a lossless form, without a width, is parsed as that size
pub formatted_is_read : SizeFormReadsBack → PlainFormReadsBack → WordsChangeNoAcceptedText → FormattedSizesAreRead
formatted_is_read exact digits words =
    λ options others size text below lossless no_width same_kind same_suffix prefixes (form, is_form, formatted_is).
    let suffix = options.suffix.now in
    let formatted = formatted_is ∙ padded-none options.width options.align_left (form ++ suffix) no_width in
    let is : without_suffix others.suffix.now text ≡ form =
    ap (λ suffix. without_suffix suffix text) same_suffix
    ∙ (ap (without_suffix suffix) formatted ∙ without_it form suffix) in
    let reading = parse_spec options.spec.kind others.spec.ignore_case others.spec.binary in
    let at = form_is_read exact digits options.spec.kind options.precision size others.spec.ignore_case below options.form
    others.spec.binary options.spec.binary form lossless prefixes is_form in
    let text = without_suffix others.suffix.now text in
    subst (λ reading. IsAcceptedAs reading current text size) (same_spec others.spec _ _ _ same_kind refl refl)
    (accepted_too words others.spec.words reading text size
    (subst (λ text. IsAcceptedAs reading current text size) (sym is) at))

-- a size has one text with a unit or as digits
one_text : SizeHasOneForm → (kind : Kind) (precision : Option ℕ) (size : ℕ) (text other : List ℕ) (is_binary : Bool)
    → IsText kind size (if is_binary then exact_spec precision else plain_spec) text
    → IsText kind size (if is_binary then exact_spec precision else plain_spec) other → text ≡ other
one_text one_form kind precision size text other true is_text is_other =
    let only = one_form current kind size (exact_spec precision) in
    only.one text is_text ∙ sym (only.one other is_other)
one_text one_form kind precision size text other false is_text is_other = is_text ∙ sym is_other

-- a size has one exact text
one_exact : SizeHasOneForm → (binary : Bool) (kind : Kind) (precision : Option ℕ) (size : ℕ) (text other : List ℕ)
    → IsExactText binary kind precision size text → IsExactText binary kind precision size other → text ≡ other
one_exact one_form false kind precision size text other is_text is_other =
    one_text one_form kind precision size text other true is_text is_other
one_exact one_form true kind precision size text other (unit, recovered, is_text) (second, recovered_second, is_other) =
    let same = recovered_unit_unique current kind size (places_of precision) (shape_of second) (shape_of unit)
    recovered_second recovered in
    one_text one_form kind precision size text other (has_binary_prefix (shape_of unit)) is_text
    (subst (λ unit. IsText kind size (if has_binary_prefix unit then exact_spec precision else plain_spec) other) same
    is_other)

-- converting a text in the form `exact`, without a width, once more gives the same text
pub exact_again : FormattedSizesAreRead → SizeHasOneForm → ExactTwiceIsOnce
exact_again formatted_read one_form =
    λ options size text below exact no_width formatted again text_again read (form_again, is_again, again_is).
    let kind = options.spec.kind in
    let binary = options.spec.binary in
    let precision = options.precision in
    let lossless : IsLossless options.form = subst IsLossless (sym exact) tt in
    let accepted = formatted_read options options size text below lossless no_width refl refl (λ yes. yes) formatted in
    let answer = accepted_or_refused options.spec (without_suffix options.suffix.now text) in
    let same : again ≡ size = answer.one_meaning again size read accepted in
    let form = formatted.0 in
    let is_form : IsExactText binary kind precision size form =
    subst (λ way. IsFormText binary kind way precision size form) exact formatted.1 in
    let is_form_again : IsExactText binary kind precision size form_again =
    subst (λ size. IsExactText binary kind precision size form_again) same
    (subst (λ way. IsFormText binary kind way precision again form_again) exact is_again) in
    let forms = one_exact one_form binary kind precision size form_again form is_form_again is_form in
    again_is ∙ ap (λ form. padded options.width options.align_left (form ++ options.suffix.now)) forms ∙ sym formatted.2
