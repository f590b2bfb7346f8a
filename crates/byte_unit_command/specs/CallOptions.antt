-- The options of a call, by the values of its options.
use Rattle.std.specs.Prelude.{◌≡◌, ℕ, ◌≤◌, ⊤, ◌⊎◌, Bool, true, false, if◌then◌else◌, List, [], Option, None, Some}
use Rattle.std.specs.Prelude.{MatchOption, option_map, unwrap_or, is_some, codes, not}
use Rattle.std.specs.Borrow.{Bor}
use Rattle.byte_unit.specs.Reading.ParseSpec.{parse_spec, with_words}
use Rattle.byte_unit.specs.declared.ParseSpec.{ParseSpec}
use Rattle.byte_unit.specs.declared.UnitType.TheVariants.{Binary}
use Rattle.byte_unit_command.specs.Meaning.{IsFrom, IsOutputForm, MeansNothing}
use Rattle.byte_unit_command.specs.Meaning.{IsForm, IsNoForm, IsDelimiter, IsPadding}
use Rattle.byte_unit_command.specs.Meaning.{IsMode, IsLimit, IsNoLimit}
use Rattle.byte_unit_command.specs.Values.{given_text}
use Rattle.byte_unit_command.specs.declared.options.FieldRange.{FieldRange}
use Rattle.byte_unit_command.specs.declared.options.Form.{Form}
use Rattle.byte_unit_command.specs.declared.options.Form.TheVariants.{Exact, Largest}
use Rattle.byte_unit_command.specs.declared.options.Options.{Options}
use Rattle.byte_unit_command.specs.declared.options.Separator.{Separator}
use Rattle.byte_unit_command.specs.declared.options.Separator.TheVariants.{Blanks}
use Rattle.byte_unit_command.specs.declared.values.Values.{Values}
use Rattle.byte_unit_command.specs.declared.wrong.ValueError.{ValueError}
use Rattle.byte_unit_command.specs.declared.wrong.ValueError.TheVariants.{Delimiter, From, Mode, NoUnit, Precision}
use Rattle.byte_unit_command.specs.declared.wrong.ValueError.TheVariants.{Fields, NoDelimiter, Padding}
use Rattle.byte_unit_command.specs.declared.wrong.Wrong.{Wrong}

-- the form without `--to`: `-H` means `--to=iec -p 1`, but for what `--to` and `-p` say
abbrev pub form_without : Bool → Form
form_without human_readable = if human_readable then Largest Binary else Exact

-- the precision: that of `-p`, or else 1 with `-H`
abbrev pub precision_of : Bool → Option ℕ → Option ℕ
precision_of human_readable None = if human_readable then Some 1 else None
precision_of human_readable (Some precision) = Some precision

-- the form that the values ask for
abbrev pub IsFormOf : Values → Form → Type 0
IsFormOf values form =
    IsForm (form_without values.human_readable) values.kind values.ignore_case (given_text values.to) form

-- what separates fields: blanks with `--blanks`, and else the delimiter that is given
abbrev pub IsSeparator : Values → Option Separator → Type 0
IsSeparator values separator =
    (delimiter : Option Separator) × IsDelimiter (given_text values.delimiter) delimiter
    × (separator ≡ (if values.blanks then Some Blanks else delimiter))

-- how sizes are read
abbrev pub spec_of : Values → Bool → ParseSpec
spec_of values binary = with_words values.words (parse_spec values.kind values.ignore_case binary)

-- the options of a call with these values and fields. Operands are records that end with a zero byte, and none of them
-- is a header
pub record AreOptions (values : Values) (ranges : List FieldRange) (options : Options) : Type 0 where
  pub kind : options.spec.kind ≡ values.kind
  pub ignore_case : options.spec.ignore_case ≡ values.ignore_case
  pub words : options.spec.words ≡ values.words
  pub binary : IsFrom (given_text values.from) options.spec.binary
  pub form : (given : Form) × IsFormOf values given × IsOutputForm values.no_unit given options.form
  pub suffix : options.suffix.now ≡ unwrap_or (given_text values.suffix) []
  pub precision : options.precision ≡ precision_of values.human_readable values.precision
  pub padding : IsPadding (given_text values.padding)
      (record { width = options.width; align_left = options.align_left })
  pub separator : IsSeparator values options.separator
  pub fields : options.fields.now ≡ ranges
  pub record_end : options.record_end ≡ (if values.has_operands then 0 else if values.zero_terminated then 0 else 10)
  pub output_end : options.output_end ≡ (if values.zero_terminated then 0 else 10)
  pub header : options.header ≡ (if values.has_operands then 0 else unwrap_or values.header 0)
  pub invalid : IsMode (given_text values.invalid) options.invalid
  pub total : options.total ≡ values.total
  pub max : IsLimit options.spec (given_text values.max) options.max
  pub min : IsLimit options.spec (given_text values.min) options.min
  pub hints : options.hints ≡ not values.no_hints

-- the option with this name has this value, which is wrong
abbrev pub IsWrongOf : List ℕ → Option (Bor (List ℕ)) → (List ℕ → ValueError → Type 0) → Wrong → Type 0
IsWrongOf name value IsWrongValue wrong =
    (wrong.option.now ≡ name) × (given_text value ≡ given_text wrong.value)
    × MatchOption (given_text wrong.value) ⊥ (λ text. IsWrongValue text wrong.reason)

-- in the exact form, no more than 28 digits after the point are asked for
abbrev pub IsWithinExact : Form → Option ℕ → Type 0
IsWithinExact form None = ⊤
IsWithinExact form (Some precision) = form ≡ Exact → precision ≤ 28

-- `--precision` is too large in the exact form
abbrev pub IsWrongPrecision : Form → Option ℕ → Wrong → Type 0
IsWrongPrecision form precision wrong =
    ¬ IsWithinExact form precision × (wrong.option.now ≡ codes "--precision") × (wrong.value ≡ None)
    × (wrong.reason ≡ Precision)

-- `--to` is neither a form nor a unit; or it means the exact form, and `--precision` is above 28
abbrev pub IsWrongForm : Values → Wrong → Type 0
IsWrongForm values wrong =
    IsWrongOf (codes "--to") values.to (IsNoForm values.kind values.ignore_case) wrong
    ⊎ (form : Form) × IsFormOf values form × IsWrongPrecision form values.precision wrong

-- `--no-unit` in a form without one unit for all sizes
abbrev pub IsWrongNoUnit : Bool → Form → Wrong → Type 0
IsWrongNoUnit no_unit given wrong =
    ((form : Form) → ¬ IsOutputForm no_unit given form) × (wrong.option.now ≡ codes "--no-unit") × (wrong.value ≡ None)
    × (wrong.reason ≡ NoUnit)

-- there is something that separates fields, if `--field` names some
abbrev pub AreFieldsSeparated : Values → Type 0
AreFieldsSeparated values =
    (is_some values.field ≡ false) ⊎ ((is_some values.delimiter ≡ true) ⊎ (values.blanks ≡ true))

-- `--field` without that
abbrev pub IsWrongField : Values → Wrong → Type 0
IsWrongField values wrong =
    ¬ AreFieldsSeparated values
    × IsWrongOf (codes "--field") values.field (λ text reason. reason ≡ NoDelimiter) wrong

-- `--delimiter` is not one byte; or it is right, and nothing separates the fields that `--field` names
abbrev pub IsWrongSeparator : Values → Wrong → Type 0
IsWrongSeparator values wrong =
    IsWrongOf (codes "--delimiter") values.delimiter (MeansNothing IsDelimiter Delimiter) wrong
    ⊎ (delimiter : Option Separator) × IsDelimiter (given_text values.delimiter) delimiter × IsWrongField values wrong

-- the ranges of a list of fields
abbrev pub ranges_of : Option (Bor (List FieldRange)) → Option (List FieldRange)
ranges_of fields = option_map (λ list. list.now) fields

-- `--field` is not a list of fields
abbrev pub IsWrongList : Values → Option (Bor (List FieldRange)) → Wrong → Type 0
IsWrongList values fields wrong =
    (ranges_of fields ≡ None) × (wrong.option.now ≡ codes "--field")
    × (given_text wrong.value ≡ given_text values.field)
    × (wrong.reason ≡ Fields)

-- an option is wrong; or it is right, and with what it means this holds of the later ones
abbrev pub OrLater : {M : Type 0} → Type 0 → (M → Type 0) → (M → Type 0) → Type 0
OrLater {M} is_wrong IsRight Later = is_wrong ⊎ (meaning : M) × IsRight meaning × Later meaning

-- this is the first option that is wrong, in this order; `fields` is the list that `--field` is, if it is one
abbrev pub IsFirstWrong : Values → Option (Bor (List FieldRange)) → Wrong → Type 0
IsFirstWrong values fields wrong =
    OrLater (IsWrongOf (codes "--from") values.from (MeansNothing IsFrom From) wrong) (IsFrom (given_text values.from))
    (λ binary. OrLater (IsWrongForm values wrong)
    (λ given. IsFormOf values given × IsWithinExact given values.precision)
    (λ given. OrLater (IsWrongNoUnit values.no_unit given wrong) (IsOutputForm values.no_unit given)
    (λ _. OrLater (IsWrongSeparator values wrong)
    (λ (separator : Option Separator). IsSeparator values separator × AreFieldsSeparated values)
    (λ _. OrLater (IsWrongList values fields wrong) (λ (ranges : List FieldRange). ranges_of fields ≡ Some ranges)
    (λ _. OrLater (IsWrongOf (codes "--padding") values.padding (MeansNothing IsPadding Padding) wrong)
    (IsPadding (given_text values.padding))
    (λ _. OrLater (IsWrongOf (codes "--invalid") values.invalid (MeansNothing IsMode Mode) wrong)
    (IsMode (given_text values.invalid))
    (λ _. OrLater
    (IsWrongOf (codes "--max") values.max (IsNoLimit (spec_of values binary)) wrong)
    (IsLimit (spec_of values binary) (given_text values.max))
    (λ _. IsWrongOf (codes "--min") values.min (IsNoLimit (spec_of values binary)) wrong))))))))
