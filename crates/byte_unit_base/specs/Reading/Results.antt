-- What the parsers return for an input: of a unit, and of a number and a unit, for UTF-8 bytes; of a size, for a string
-- and for bytes; and of a JSON value. Each record says both: `Ok` is returned if and only if the input is accepted, and
-- otherwise the error of the input.
use Rattle.std.specs.Prelude.{◌≡◌, ◌≢◌, ℕ, List, Result, IfOk, IfErr, IsOkAnd, Bool, false, Option, Some, None}
use Rattle.std.specs.Prelude.{MatchOption, Ok, Err, IsErrAnd}
use Rattle.std.specs.Result.{result_map_both}
use Rattle.byte_unit_base.specs.Grammar.Shape.{Shape}
use Rattle.byte_unit_base.specs.Grammar.Version.{current}
use Rattle.byte_unit_base.specs.Grammar.Units.{shape_of, unit_of_shape}
use Rattle.byte_unit_base.specs.Grammar.Spelling.{Flags, Spells}
use Rattle.byte_unit_base.specs.Grammar.SizeText.{trim_of, IsSizeText}
use Rattle.byte_unit_base.specs.Errors.Fault.{IsUnitFault, IsSizeFault, exceeded}
use Rattle.byte_unit_base.specs.Errors.Meaning.{unit_fault, size_fault}
use Rattle.byte_unit_base.specs.Reading.Parsed.{parsed_unit, parsed_number, number_and_unit_of_crate, parsed_size_as}
use Rattle.byte_unit_base.specs.declared.unit.Unit.{Unit as UnitName}
use Rattle.byte_unit_base.specs.declared.errors.UnitParseError.{UnitParseError}
use Rattle.byte_unit_base.specs.declared.errors.ParseError.{ParseError}
use Rattle.std.specs.Str.{IsUtf8, is_utf8}
use Rattle.byte_unit_base.specs.declared.errors.LocatedError.{LocatedError}
use Rattle.byte_unit_base.specs.declared.kind.Kind.{Kind}
use Rattle.byte_unit_base.specs.Reading.ParseSpec.{ParseSpec, parse_spec}
use Rattle.byte_unit_base.specs.Sizes.Accepted.{IsAcceptedAs, ExceedsAs, IsRejectedAs}
use Rattle.byte_unit_base.specs.declared.errors.JsonSizeError.{JsonSizeError}
use Rattle.byte_unit_base.specs.declared.errors.JsonSizeError.TheVariants.{NotString, Parse}

-- the result is the unit that the input spells, or the error of an input that spells none
pub record IsUnitReading (flags : Flags) (bytes : List ℕ) (result : Result UnitName UnitParseError) : Type 0 where
  -- the input spells the unit that is returned
  pub found : IfOk result (λ unit. Spells current flags (trim_of bytes) (shape_of unit))
  -- the unit that the input spells is returned
  pub reads : (unit : Shape) → Spells current flags (trim_of bytes) unit → IsOkAnd result (λ name. shape_of name ≡ unit)
  -- an error that is returned is that of the input
  pub fault : IfErr result (λ error. IsUnitFault current flags (trim_of bytes) (unit_fault error))
  -- the result as an equation, which a proof can compute for a literal; it follows from the fields above
  pub computed : result_map_both (λ unit. unit) unit_fault result
      ≡ result_map_both unit_of_shape (λ fault. fault) (parsed_unit flags bytes)

-- the result is the number (scaled by 10^28) and the unit of the input, or the error of an input that is none
pub record IsNumberReading (flags : Flags) (bytes : List ℕ) (result : Result (ℕ × UnitName) ParseError) : Type 0 where
  -- the input is the number and unit that are returned
  pub found : IfOk result (λ r. IsSizeText current flags (trim_of bytes) r.0 (shape_of r.1))
  -- the number and unit of the input are returned
  pub reads : (number : ℕ) (unit : Shape) → IsSizeText current flags (trim_of bytes) number unit
      → IsOkAnd result (λ r. (r.0 ≡ number) × (shape_of r.1 ≡ unit))
  -- an error that is returned is that of the input
  pub fault : IfErr result (λ error. IsSizeFault current flags (trim_of bytes) (size_fault error))
  -- the error is never that of a size which is too large
  pub no_bounds : IfErr result (λ error. (number : ℕ) → size_fault error ≢ exceeded number)
  -- the result as an equation, which a proof can compute for a literal; it follows from the fields above
  pub computed : result_map_both (λ r. r) size_fault result
      ≡ result_map_both number_and_unit_of_crate (λ fault. fault) (parsed_number flags bytes)

-- the result is exactly the size that the input is accepted as, or the error that it is rejected with
pub record IsReadingAs (spec : ParseSpec) (bytes : List ℕ) (result : Result ℕ ParseError) : Type 0 where
  pub found : IfOk result (IsAcceptedAs spec current bytes)
  pub reads : (n : ℕ) → IsAcceptedAs spec current bytes n → result ≡ Ok n
  pub exceeds : (number : ℕ) → ExceedsAs spec current bytes number
      → IsErrAnd result (λ error. size_fault error ≡ exceeded number)
  pub fault : IfErr result (λ error. IsRejectedAs spec current bytes (size_fault error))
  -- the result as an equation, which a proof can compute for a literal; it follows from the fields above
  pub computed : result_map_both (λ n. n) size_fault result ≡ parsed_size_as spec bytes

-- the result is exactly the size that the input is accepted as, or the error that it is rejected with, by the unit that
-- is written
abbrev pub IsSizeReading : Kind → Bool → List ℕ → Result ℕ ParseError → Type 0
IsSizeReading kind ignore_case = IsReadingAs (parse_spec kind ignore_case false)

-- the bytes are not UTF-8; the second part says it as an equation, which a proof can compute for a literal
abbrev pub IsNotUtf8 : List ℕ → Type 0
IsNotUtf8 bytes = ¬ IsUtf8 bytes × (is_utf8 bytes ≡ false)

-- `None` if the bytes are not UTF-8, and otherwise a reading as a string
abbrev pub IsBytesReadingAs : ParseSpec → List ℕ → Option (Result ℕ ParseError) → Type 0
IsBytesReadingAs spec bytes result =
    MatchOption result (IsNotUtf8 bytes) (λ answer. IsUtf8 bytes × IsReadingAs spec bytes answer)

-- `None` if the bytes are not UTF-8, and otherwise the result of parsing them as a string, by the unit that is written
abbrev pub IsBytesReading : Kind → Bool → List ℕ → Option (Result ℕ ParseError) → Type 0
IsBytesReading kind ignore_case = IsBytesReadingAs (parse_spec kind ignore_case false)

-- a result without the location of its error
abbrev pub without_location : Option (Result ℕ LocatedError) → Option (Result ℕ ParseError)
without_location None = None
without_location (Some (Ok n)) = Some (Ok n)
without_location (Some (Err e)) = Some (Err e.error)

-- the errors of a parser of JSON values: that of a value which is not a string, and that of a string which the parser
-- of strings rejects with this error
pub record JsonErrors (TextError JsonError : Type 0) : Type 0 where
  pub not_string : JsonError
  pub of_text : TextError → JsonError

-- the errors of a parser of sizes from JSON values
abbrev pub size_errors : JsonErrors ParseError JsonSizeError
size_errors = record { not_string = NotString; of_text = Parse }

-- the result for a JSON string, by the result of parsing its text
abbrev pub string_answer :
    {A TextError JsonError : Type 0} → JsonErrors TextError JsonError → Result A TextError → Result A JsonError
string_answer errors (Ok value) = Ok value
string_answer errors (Err error) = Err (errors.of_text error)

-- a JSON string has the result of parsing its text; any other value (`None`) gives the error of a value that is not a
-- string
abbrev pub ReadsString :
    {A TextError JsonError : Type 0} → JsonErrors TextError JsonError → (List ℕ → Result A TextError → Type 0)
    → Option (List ℕ) → Result A JsonError → Type 0
ReadsString errors Reads None result = result ≡ Err errors.not_string
ReadsString {A} {TextError} errors Reads (Some text) result =
    (answer : Result A TextError) × Reads text answer × (result ≡ string_answer errors answer)
