-- Strings of sizes for the binary reading.
use Rattle.std.specs.Prelude.{◌≡◌, ℕ, ◌<◌, Bool, false, if◌then◌else◌, nat_lt, List, Option, None}
use Rattle.byte_unit_base.specs.Grammar.Shape.{Shape}
use Rattle.byte_unit_base.specs.Grammar.Version.{current}
use Rattle.byte_unit_base.specs.Sizes.Accepted.{IsAccepted}
use Rattle.byte_unit_base.specs.Reading.Binary.{IsBinaryAccepted}
use Rattle.byte_unit_base.specs.Grammar.Units.{shape_of}
use Rattle.byte_unit_base.specs.declared.unit.Unit.{Unit as UnitName}
use Rattle.byte_unit_choice.specs.Choice.{IsRecovered, IsRecoveredIn}
use Rattle.byte_unit_base.specs.declared.kind.Kind.{Kind}
use Rattle.byte_unit_format.specs.Forms.{IsText, default_precision, places_of}
use Rattle.byte_unit_format.specs.NamedSpecs.{plain_spec, alternate_spec}
use Rattle.byte_unit_format.specs.declared.spec.FormatSpec.{FormatSpec}

-- Whether the unit has a binary prefix.
abbrev pub has_binary_prefix : Shape → Bool
has_binary_prefix unit = if nat_lt 0 unit.power then unit.binary else false

-- How a size is formatted whose text with a unit, within this precision, is in this one: with it if it has a binary
-- prefix, and else as digits.
abbrev pub binary_spec : Option ℕ → Shape → FormatSpec
binary_spec precision unit =
    if has_binary_prefix unit then record alternate_spec { precision = precision } else plain_spec

-- The spec is that for the recovered unit of the size within the precision.
abbrev pub IsBinarySpec : Kind → Option ℕ → ℕ → FormatSpec → Type 0
IsBinarySpec kind precision size spec =
    (unit : UnitName) × IsRecovered kind false size (places_of precision) unit
    × (spec ≡ binary_spec precision (shape_of unit))

-- The string is the text of the size with its unit, if that has a binary prefix, and else its digits, since the binary
-- reading takes a decimal prefix for the binary one.
abbrev pub IsBinaryString : Kind → ℕ → List ℕ → Type 0
IsBinaryString kind size text =
    (unit : Shape) × IsRecoveredIn current kind false size default_precision unit
    × IsText kind size (binary_spec None unit) text

-- This string of a size is parsed as that size by the binary reading and by the usual one, with and without case.
pub record BothReadingsAccept (kind : Kind) (ignore_case : Bool) (size : ℕ) (text : List ℕ) : Type 0 where
  pub binary : IsBinaryAccepted kind ignore_case text size
  pub usual : IsAccepted kind ignore_case text size

-- Each size is parsed from the string that it is stored as for the binary reading.
abbrev pub BinaryStringReadsBack : Type 0
BinaryStringReadsBack =
    (kind : Kind) (ignore_case : Bool) (size : ℕ) (text : List ℕ) → size < current.size_limit
    → IsBinaryString kind size text → BothReadingsAccept kind ignore_case size text
