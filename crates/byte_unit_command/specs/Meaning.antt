-- What the value of an option means, and which values are wrong. A value is a text, or `None` if the option is not
-- given.
use Rattle.std.specs.Prelude.{◌≡◌, ◌≢◌, ℕ, ◌<◌, ◌^◌, ◌⊎◌, Bool, true, false, List, [], ◌∷◌, Option, None, Some, codes}
use Rattle.std.specs.Str.{trim}
use Rattle.byte_unit.specs.Sizes.Accepted.{IsAcceptedAs}
use Rattle.byte_unit.specs.Errors.Meaning.{unit_fault}
use Rattle.byte_unit.specs.Errors.Fault.{IsUnitFault}
use Rattle.byte_unit.specs.Sizes.Kinds.{flags_for}
use Rattle.byte_unit.specs.Grammar.SizeText.{trim_of}
use Rattle.byte_unit.specs.Grammar.Spelling.{Spells}
use Rattle.byte_unit.specs.Grammar.Units.{shape_of}
use Rattle.byte_unit.specs.Grammar.Version.{current}
use Rattle.byte_unit.specs.declared.Kind.{Kind}
use Rattle.byte_unit.specs.declared.ParseSpec.{ParseSpec}
use Rattle.byte_unit.specs.declared.Unit.{Unit as UnitName}
use Rattle.byte_unit.specs.declared.UnitType.TheVariants.{Decimal, Binary, Both}
use Rattle.byte_unit_command.specs.Positive.{IsPositive}
use Rattle.byte_unit_command.specs.Field.{IsSizeError}
use Rattle.byte_unit_command.specs.declared.meaning.Padding.{Padding}
use Rattle.byte_unit_command.specs.declared.options.Form.{Form}
use Rattle.byte_unit_command.specs.declared.options.Form.TheVariants.{Exact, Plain, InUnit, NumberOf, Largest}
use Rattle.byte_unit_command.specs.declared.options.Invalid.{Invalid}
use Rattle.byte_unit_command.specs.declared.options.Invalid.TheVariants.{Abort, Fail, Warn, Ignore}
use Rattle.byte_unit_command.specs.declared.options.Separator.{Separator}
use Rattle.byte_unit_command.specs.declared.options.Separator.TheVariants.{Byte}
use Rattle.byte_unit_command.specs.declared.wrong.ValueError.{ValueError}
use Rattle.byte_unit_command.specs.declared.wrong.ValueError.TheVariants.{Unit as UnitFault, Blank}
use Rattle.byte_unit_command.specs.declared.wrong.ValueError.TheVariants.{Size}

-- the text has no meaning as a value of the option, and `only` is the error
abbrev pub MeansNothing : {V : Type 0} → (Option (List ℕ) → V → Type 0) → ValueError → List ℕ → ValueError → Type 0
MeansNothing {V} Means only text reason = ((value : V) → ¬ Means (Some text) value) × (reason ≡ only)

-- `--from`: whether a decimal prefix means the binary one, so that `K` is 1024
abbrev pub IsFrom : Option (List ℕ) → Bool → Type 0
IsFrom None binary = binary ≡ false
IsFrom (Some text) binary =
    (text ≡ codes "iec") × (binary ≡ true) ⊎ ((text ≡ codes "auto") × (binary ≡ false)
    ⊎ ((text ≡ codes "si") × (binary ≡ false) ⊎ (text ≡ codes "iec-i") × (binary ≡ false)))

-- the text is the word for this form
abbrev pub IsFormWord : List ℕ → Form → Type 0
IsFormWord text form =
    (text ≡ codes "exact") × (form ≡ Exact) ⊎ ((text ≡ codes "plain") × (form ≡ Plain)
    ⊎ ((text ≡ codes "si") × (form ≡ Largest Decimal) ⊎ ((text ≡ codes "iec") × (form ≡ Largest Binary)
    ⊎ (text ≡ codes "auto") × (form ≡ Largest Both))))

-- the text spells this unit, as in a size of this kind, and is not white space alone
pub record IsUnitName (kind : Kind) (ignore_case : Bool) (text : List ℕ) (unit : UnitName) : Type 0 where
  pub not_blank : trim text ≢ []
  pub spells : Spells current (flags_for kind ignore_case) (trim_of text) (shape_of unit)

-- `--to`, with the form that is meant without it
abbrev pub IsForm : Form → Kind → Bool → Option (List ℕ) → Form → Type 0
IsForm without kind ignore_case None form = form ≡ without
IsForm without kind ignore_case (Some text) form =
    IsFormWord text form ⊎ (unit : UnitName) × IsUnitName kind ignore_case text unit × (form ≡ InUnit unit)

-- the text spells no unit: it is white space, or has this error
abbrev pub IsNoUnitName : Kind → Bool → List ℕ → ValueError → Type 0
IsNoUnitName kind ignore_case text Blank = trim text ≡ []
IsNoUnitName kind ignore_case text (UnitFault error) =
    (trim text ≢ []) × IsUnitFault current (flags_for kind ignore_case) (trim_of text) (unit_fault error)
IsNoUnitName kind ignore_case text _ = ⊥

-- the text is no value of `--to`, for this reason
abbrev pub IsNoForm : Kind → Bool → List ℕ → ValueError → Type 0
IsNoForm kind ignore_case text reason =
    ((form : Form) → ¬ IsFormWord text form) × IsNoUnitName kind ignore_case text reason

-- `--no-unit`: the number alone, in the unit of `--to`; digits have no unit. No other form has one unit for all sizes
abbrev pub IsOutputForm : Bool → Form → Form → Type 0
IsOutputForm false given form = form ≡ given
IsOutputForm true (InUnit unit) form = form ≡ NumberOf unit
IsOutputForm true Plain form = form ≡ Plain
IsOutputForm true given form = ⊥

-- `--delimiter`: one byte, or `\t` (92, 116) for a tab (9); nothing for none
abbrev pub IsDelimiter : Option (List ℕ) → Option Separator → Type 0
IsDelimiter None delimiter = delimiter ≡ None
IsDelimiter (Some text) delimiter =
    (text ≡ []) × (delimiter ≡ None)
    ⊎ (((byte : ℕ) × (text ≡ byte ∷ []) × (delimiter ≡ Some (Byte byte)))
    ⊎ (text ≡ 92 ∷ 116 ∷ []) × (delimiter ≡ Some (Byte 9)))

-- the text is a number from 1 to 65535
abbrev pub IsWidth : List ℕ → ℕ → Type 0
IsWidth text width = IsPositive text width × (width < 2 ^ 16)

-- `--padding`: a width, and whether sizes are aligned to the left, which a hyphen (45) before it says
abbrev pub IsPadding : Option (List ℕ) → Padding → Type 0
IsPadding None padding = (padding.width ≡ 0) × (padding.align_left ≡ false)
IsPadding (Some text) padding =
    IsWidth text padding.width × (padding.align_left ≡ false)
    ⊎ (digits : List ℕ) × (text ≡ 45 ∷ digits) × IsWidth digits padding.width × (padding.align_left ≡ true)

-- the value of `--invalid` is the word for this mode; without the option the mode is `abort`
abbrev pub IsMode : Option (List ℕ) → Invalid → Type 0
IsMode None invalid = invalid ≡ Abort
IsMode (Some text) invalid =
    (text ≡ codes "abort") × (invalid ≡ Abort) ⊎ ((text ≡ codes "fail") × (invalid ≡ Fail)
    ⊎ ((text ≡ codes "warn") × (invalid ≡ Warn) ⊎ (text ≡ codes "ignore") × (invalid ≡ Ignore)))

-- `--max` and `--min`: a size, as in an input
abbrev pub IsLimit : ParseSpec → Option (List ℕ) → Option ℕ → Type 0
IsLimit spec None limit = limit ≡ None
IsLimit spec (Some text) limit =
    (size : ℕ) × IsAcceptedAs spec current text size × (limit ≡ Some size)

-- the text is no value of `--max` and `--min`, for this reason
abbrev pub IsNoLimit : ParseSpec → List ℕ → ValueError → Type 0
IsNoLimit spec text (Size error) = IsSizeError spec text error
IsNoLimit spec text _ = ⊥
