-- What the parser of a size returns, by the result of parsing its number and unit, in each reading.
--
-- Here `found` is a number, `found.0`, and its unit, `found.1`. Of a size, `size.0` is that it is this number of the
-- unit that is meant, rounded up, and `size.1` that it is below the limit.
use Rattle.std.proofs.Common.{◌≡◌, ℕ, List, Some, None, Ok, Err, sym, refl, inl, inr, IsUtf8}
use Rattle.std.proofs.lemmas.Str.{IsUtf8-from_ascii}
use Rattle.byte_unit_base.specs.Grammar.Spelling.{Flags}
use Rattle.byte_unit_base.specs.Grammar.Version.{current}
use Rattle.byte_unit_base.specs.Grammar.Units.{shape_of}
use Rattle.byte_unit_base.specs.declared.unit.Unit.{Unit as UnitName}
use Rattle.byte_unit_base.specs.declared.errors.ParseError.{ParseError}
use Rattle.byte_unit_base.specs.declared.errors.ParseError.TheVariants.{Value}
use Rattle.byte_unit_base.specs.declared.errors.ValueParseError.TheVariants.{ExceededBounds}
use Rattle.byte_unit_base.specs.Sizes.Least.{IsLeastOf}
use Rattle.byte_unit_base.specs.Sizes.OrNone.{IsSizeOrNone}
use Rattle.byte_unit_base.specs.Sizes.Kinds.{flags_for}
use Rattle.byte_unit_base.specs.Reading.ParseSpec.{ParseSpec, unit_meant}
use Rattle.byte_unit_base.specs.Reading.Results.{IsNumberReading, IsReadingAs}
use Rattle.byte_unit_base.specs.Grammar.SizeText.{IsSizeText, trim_of}
use Rattle.byte_unit_base.specs.Reading.Words.{in_words}
use Rattle.byte_unit_base.specs.Errors.Meaning.{size_fault}
use Rattle.byte_unit_base.specs.Errors.Fault.{exceeded}
use Rattle.byte_unit_base.specs.Sizes.Accepted.{IsMeasureAs, IsAcceptedAs, IsRejectedAs}
use Rattle.byte_unit_base.specs.Laws.Parsed.{GivesAnswer}
use Rattle.byte_unit_base.specs.Reading.Parsed.{parsed_size_as, rounded_up}
use Rattle.byte_unit_base.proofs.Computed.{rounded_up_is_least}
use Rattle.byte_unit_base.proofs.SizeAscii.{trimmed_size, size_ascii}
use Rattle.byte_unit_base.proofs.SizeReads.{number_reading}
use Rattle.byte_unit_base.proofs.ParsedTexts.{size_given, size_reading}

-- an input, `bytes`, in one reading
module _ (spec : ParseSpec) (bytes : List ℕ) where
  -- what the parser as a function gives
  abbrev given : GivesAnswer ℕ (IsAcceptedAs spec current bytes)
      (IsRejectedAs spec current bytes) (parsed_size_as spec bytes)
  given = size_given spec bytes

  -- if the size of the number and unit is below the limit, it is the result
  pub reading_of_size : (found : ℕ × UnitName) (n : ℕ)
      → IsMeasureAs spec current bytes found.0 (shape_of found.1)
      → IsSizeOrNone (IsLeastOf spec.kind found.0 (unit_meant spec (shape_of found.1))) (Some n)
      → IsReadingAs spec bytes (Ok n)
  reading_of_size found n reading size =
      size_reading spec bytes (Ok n) (sym ((given.is_meaning n).1 record {
        number = found.0;
        is_read = record { unit = shape_of found.1; is_size = reading; is_least = size.0 };
        below = size.1;
      }))

  -- if the size of the number and unit reaches the limit, the result is the error with the number
  pub reading_of_excess : (found : ℕ × UnitName)
      → IsMeasureAs spec current bytes found.0 (shape_of found.1)
      → IsSizeOrNone (IsLeastOf spec.kind found.0 (unit_meant spec (shape_of found.1))) None
      → IsReadingAs spec bytes (Err (Value (ExceededBounds found.0)))
  reading_of_excess found reading none =
      let least = rounded_up_is_least spec.kind found.0 (unit_meant spec (shape_of found.1)) in
      size_reading spec bytes (Err (Value (ExceededBounds found.0)))
      (sym ((given.is_fault (exceeded found.0)).1 (inl (
        found.0,
        refl,
        record {
          size = rounded_up spec.kind found.0 (unit_meant spec (shape_of found.1));
          is_read = record { unit = shape_of found.1; is_size = reading; is_least = least };
          above = none _ least;
        },
      ))))

  -- the result if the input is not a number and a unit, nor so in words: its error
  pub reading_of_fault : (error : ParseError) → IsNumberReading (flags_for spec.kind spec.ignore_case) bytes (Err error)
      → in_words spec (trim_of bytes) ≡ None → IsReadingAs spec bytes (Err error)
  reading_of_fault error reading none = size_reading spec bytes (Err error)
      (sym ((given.is_fault (size_fault error)).1 (inr (reading.fault, none))))

-- bytes that are a number and a unit are UTF-8, and the same number and unit when trimmed
pub bytes_number : (flags : Flags) (bytes : List ℕ) (number : ℕ) (unit : UnitName)
    → IsSizeText current flags bytes number (shape_of unit)
    → IsUtf8 bytes × IsNumberReading flags bytes (Ok (number, unit))
bytes_number flags bytes number unit is = (
  IsUtf8-from_ascii bytes (size_ascii flags bytes number (shape_of unit) is),
  number_reading flags bytes (Ok (number, unit)) (trimmed_size flags bytes number (shape_of unit) is),
)
