-- The text of a size in a given unit.
use Rattle.std.specs.Prelude.{◌≡◌, ℕ, ◌+◌, ◌*◌, min, max, Bool, true, false, List, ◌++◌, codes, Option, None, Some, ◌==◌}
use Rattle.std.specs.Prelude.{if◌then◌else◌}
use Rattle.byte_unit_math.specs.Bounds.{expansion_places}
use Rattle.byte_unit_math.specs.Finite.{Finite, IsExpansion}
use Rattle.byte_unit_math.specs.Nearest.{IsNearest}
use Rattle.byte_unit_math.specs.Digits.{expansion_of}
use Rattle.byte_unit_math.specs.Numeral.{text_of, numeral, short_numeral}
use Rattle.byte_unit_math.specs.declared.expansion.Ties.TheVariants.{Even, Up}
use Rattle.byte_unit_choice.specs.Choice.{IsAppropriate}
use Rattle.byte_unit_base.specs.Grammar.Shape.{Shape, bits}
use Rattle.byte_unit_base.specs.Grammar.Version.{Version, unit_name_in, current}
use Rattle.byte_unit_base.specs.declared.kind.Kind.{Kind}
use Rattle.byte_unit_format.specs.declared.spec.FormatSpec.{FormatSpec}
use Rattle.byte_unit_base.specs.Sizes.Kinds.{bits_in}
use Rattle.byte_unit_format.specs.Layout.{layout}
use Rattle.byte_unit_format.specs.Plain.{least_columns}
use Rattle.byte_unit_base.specs.Grammar.Units.{shape_of}
use Rattle.byte_unit_base.specs.declared.unit.Unit.{Unit as UnitName}
use Rattle.byte_unit_choice.specs.declared.unit_type.UnitType.{UnitType}

-- The text is num / den with all its digits after the point.
abbrev pub IsFullNumeral : ℕ → ℕ → List ℕ → Type 0
IsFullNumeral num den text = (e : Finite) × IsExpansion num den e × (text ≡ text_of e)

-- The text is num / den rounded to `places` digits after the point, ties to even, trailing zeros kept.
abbrev pub IsRoundNumeral : ℕ → ℕ → ℕ → List ℕ → Type 0
IsRoundNumeral num den places text = (q : ℕ) × IsNearest num den places Even q × (text ≡ numeral q places)

-- The text is num / den rounded to `places` digits after the point, ties up, without trailing zeros.
abbrev pub IsShortNumeral : ℕ → ℕ → ℕ → List ℕ → Type 0
IsShortNumeral num den places text = (q : ℕ) × IsNearest num den places Up q × (text ≡ short_numeral q places)

-- How a number is formatted: with all digits after the point, with exactly the given number, or with at most the given
-- number.
pub data Rule : Type 0 where
  full : Rule
  round_to : ℕ → Rule
  short_to : ℕ → Rule

-- The text is num / den, formatted by the rule.
abbrev pub IsNumeralBy : Rule → ℕ → ℕ → List ℕ → Type 0
IsNumeralBy full num den text = IsFullNumeral num den text
IsNumeralBy (round_to places) num den text = IsRoundNumeral num den places text
IsNumeralBy (short_to places) num den text = IsShortNumeral num den places text

-- The most digits after the point in the alternate form if a precision is set, as in the Rust crate.
abbrev pub alternate_places : ℕ
alternate_places = 16

-- Whether the unit has no prefix, as `Bit` and `B`.
abbrev pub has_no_prefix : Shape → Bool
has_no_prefix unit = unit.power == 0

-- The rule for a precision, the alternate flag and a unit. All digits are written if no precision is set, and for a
-- unit without a prefix outside the alternate form.
abbrev pub rule_of : Option ℕ → Bool → Shape → Rule
rule_of None alternate unit = full
rule_of (Some precision) true unit = short_to (min precision alternate_places)
rule_of (Some precision) false unit = if has_no_prefix unit then full else round_to precision

-- The text is the size in the unit, formatted by the precision, width, alignment and sign of the spec.
pub record IsAdjustedFormIn (version : Version) (kind : Kind) (size : ℕ) (unit : Shape) (spec : FormatSpec)
    (text : List ℕ) : Type 0 where
  pub number : List ℕ
  pub number_is : IsNumeralBy (rule_of spec.precision spec.alternate unit) (size * bits_in kind) (bits unit) number
  pub text_is : text ≡ layout number (unit_name_in version unit) spec

-- The size formatted in a unit, by its name in the current version.
abbrev pub IsAdjustedForm : Kind → ℕ → UnitName → FormatSpec → List ℕ → Type 0
IsAdjustedForm kind size unit spec text = IsAdjustedFormIn current kind size (shape_of unit) spec text

-- The most digits after the point of a size in a unit: 93 if no precision is set; otherwise the precision, or three if
-- that is less, which bits have in `B`.
abbrev pub most_shown_places : Option ℕ → ℕ
most_shown_places None = expansion_places
most_shown_places (Some precision) = max precision 3

-- The most bytes of the text of a size in a unit: the width, or if it is more, 31 digits, the point, the digits after
-- it, and the four columns of a space and a unit.
abbrev pub most_adjusted_text : FormatSpec → ℕ
most_adjusted_text spec = max (least_columns spec.width) (36 + most_shown_places spec.precision)

-- The size formatted in its appropriate unit of the type.
pub record IsApproximateForm (kind : Kind) (unit_type : UnitType) (size : ℕ) (spec : FormatSpec) (text : List ℕ)
    : Type 0 where
  pub unit : UnitName
  pub appropriate : IsAppropriate kind unit_type size unit
  pub form : IsAdjustedForm kind size unit spec text

-- What `Display` writes of a size in a unit: the number with all its digits, a space, and the unit's name.
abbrev pub adjusted_text_in : Version → Kind → ℕ → Shape → List ℕ
adjusted_text_in version kind size unit =
    text_of (expansion_of (size * bits_in kind) (bits unit)) ++ codes " " ++ unit_name_in version unit

-- What `Display` writes of the size in a unit of the crate.
abbrev pub adjusted_text : Kind → ℕ → UnitName → List ℕ
adjusted_text kind size unit = adjusted_text_in current kind size (shape_of unit)
