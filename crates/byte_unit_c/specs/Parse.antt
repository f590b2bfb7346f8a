-- What the parsing calls of the C API return and write.
use Rattle.std.specs.Prelude.{◌≡◌, ℕ, ◌<◌, Bool, List, Option, Some, None, MatchOption, Result, Ok, Err, IfSome}
use Rattle.std.specs.Prelude.{◌∷◌, ◌++◌, codes}
use Rattle.std.specs.Fmt.Cut.{IsTextOrCut}
use Rattle.std.specs.Str.{IsUtf8}
use Rattle.byte_unit_base.specs.Errors.Position.{IsSizePosition, IsUnitPosition, IsLocationOf, IsSizeLocation}
use Rattle.byte_unit_base.specs.Errors.Position.{IsUnitLocation, location_words}
use Rattle.byte_unit_base.specs.Errors.Meaning.{size_fault, unit_fault}
use Rattle.byte_unit_base.specs.Errors.Text.{located_text}
use Rattle.byte_unit_base.specs.Reading.Results.{IsUnitReading, IsBytesReadingAs}
use Rattle.byte_unit_base.specs.Grammar.Spelling.{flags_of}
use Rattle.byte_unit_base.specs.declared.errors.Location.{Location}
use Rattle.byte_unit_base.specs.declared.errors.ParseError.{ParseError}
use Rattle.byte_unit_base.specs.declared.errors.ParseError.TheVariants.{Unit as UnitError}
use Rattle.byte_unit_base.specs.declared.errors.UnitParseError.{UnitParseError}
use Rattle.byte_unit_base.specs.declared.spec.ParseSpec.{ParseSpec}
use Rattle.byte_unit_base.specs.declared.unit.Unit.{Unit as UnitName}
use Rattle.byte_unit_format.specs.Written.{WritesForm}
use Rattle.byte_unit_c.specs.declared.values.Number.{Number}
use Rattle.byte_unit_c.specs.declared.error.Error.{Error}
use Rattle.byte_unit_c.specs.Values.{number_of}
use Rattle.byte_unit_c.specs.Codes.{unit_at}
use Rattle.byte_unit_c.specs.Error.{ok, code_of, not_utf8, IsErrorWritten}

-- 0 with the size, the code of the error with its details, or 6 if the bytes are not UTF-8; what is not written is
-- unchanged
abbrev pub IsReturned : List ℕ → Option (Result ℕ ParseError) → ℕ → Number → Number → List Error → List Error → Type 0
IsReturned bytes None code size size' errors errors' = (code ≡ not_utf8) × (size' ≡ size) × (errors' ≡ errors)
IsReturned bytes (Some (Ok n)) code size size' errors errors' = (code ≡ ok) × (number_of size' ≡ n) × (errors' ≡ errors)
IsReturned bytes (Some (Err e)) code size size' errors errors' =
    (code ≡ code_of (size_fault e)) × IsErrorWritten (IsSizePosition bytes) (size_fault e) errors errors'
    × (size' ≡ size)

-- what a parsing call returns and writes that reads the bytes so
abbrev pub Parses : ParseSpec → List ℕ → ℕ → Number → Number → List Error → List Error → Type 0
Parses spec bytes code size size' errors errors' =
    (answer : Option (Result ℕ ParseError)) × IsBytesReadingAs spec bytes answer
    × IsReturned bytes answer code size size' errors errors'

-- `None` if the bytes are not UTF-8, and otherwise the result of parsing them as a unit
abbrev pub IsUnitBytesReading : Bool → Bool → List ℕ → Option (Result UnitName UnitParseError) → Type 0
IsUnitBytesReading ignore_case prefer_byte bytes result =
    MatchOption result (¬ IsUtf8 bytes)
    (λ answer. IsUtf8 bytes × IsUnitReading (flags_of ignore_case prefer_byte) bytes answer)

-- 0 with the code of the unit, the code of the error with its details, or 6 if the bytes are not UTF-8; what is not
-- written is unchanged
abbrev pub IsUnitReturned : List ℕ → Option (Result UnitName UnitParseError) → ℕ → ℕ → ℕ → List Error → List Error
    → Type 0
IsUnitReturned bytes None code unit unit' errors errors' = (code ≡ not_utf8) × (unit' ≡ unit) × (errors' ≡ errors)
IsUnitReturned bytes (Some (Ok name)) code unit unit' errors errors' =
    (code ≡ ok) × (unit_at unit' ≡ Some name) × (errors' ≡ errors)
IsUnitReturned bytes (Some (Err e)) code unit unit' errors errors' =
    (code ≡ code_of (unit_fault e)) × IsErrorWritten (IsUnitPosition bytes) (unit_fault e) errors errors'
    × (unit' ≡ unit)

-- the message of the error with its location, or at most 256 bytes of it that end in dots; no claim if std specifies no
-- message
abbrev pub IsErrorText : ParseError → Location → List ℕ → Type 0
IsErrorText e location kept = IfSome (located_text e location) (λ words. IsTextOrCut 256 words kept)

-- Private: a message with a quoted character, what follows it, and the words for a location
abbrev pub quoting : ℕ → List ℕ → Location → List ℕ
quoting character rest location = codes "the character '" ++ character ∷ (rest ++ location_words location)

-- the message of the error with its location, of at least one byte, where `IsLocation` is that of an error of the
-- grammar
abbrev pub IsErrorExplained : (Location → Type 0) → ParseError → List ℕ → List ℕ → ℕ → Type 0
IsErrorExplained IsLocation e old new needed =
    (location : Location) × IsLocationOf IsLocation (size_fault e) location × (0 < needed)
    × WritesForm (IsErrorText e location) old new needed

-- the message of the error, or that the bytes are not UTF-8, of at least one byte; 0, and nothing is written, if the
-- string represents a size
abbrev pub IsExplanation : List ℕ → Option (Result ℕ ParseError) → List ℕ → List ℕ → ℕ → Type 0
IsExplanation bytes None old new needed =
    (0 < needed) × WritesForm (λ words. words ≡ codes "the text is not UTF-8") old new needed
IsExplanation bytes (Some (Ok n)) old new needed = (needed ≡ 0) × (new ≡ old)
IsExplanation bytes (Some (Err e)) old new needed = IsErrorExplained (IsSizeLocation bytes) e old new needed

-- what a call that explains returns and writes that reads the bytes so
abbrev pub Explains : ParseSpec → List ℕ → List ℕ → List ℕ → ℕ → Type 0
Explains spec bytes old new needed =
    (answer : Option (Result ℕ ParseError)) × IsBytesReadingAs spec bytes answer
    × IsExplanation bytes answer old new needed

-- the message of the error of a unit, or that the bytes are not UTF-8, of at least one byte; 0, and nothing is written,
-- if the string spells a unit
abbrev pub IsUnitExplanation : List ℕ → Option (Result UnitName UnitParseError) → List ℕ → List ℕ → ℕ → Type 0
IsUnitExplanation bytes None old new needed =
    (0 < needed) × WritesForm (λ words. words ≡ codes "the text is not UTF-8") old new needed
IsUnitExplanation bytes (Some (Ok name)) old new needed = (needed ≡ 0) × (new ≡ old)
IsUnitExplanation bytes (Some (Err e)) old new needed =
    IsErrorExplained (IsUnitLocation bytes) (UnitError e) old new needed
