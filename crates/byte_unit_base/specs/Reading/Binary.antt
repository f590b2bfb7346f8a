-- The binary reading: a decimal prefix means the binary one, so `10m` is by 1024. The grammar is the same. An input is
-- given by its UTF-8 bytes.
use Rattle.std.specs.Prelude.{ℕ, Bool, true, List, Option, Result}
use Rattle.byte_unit_base.specs.Grammar.Version.{current}
use Rattle.byte_unit_base.specs.Reading.ParseSpec.{parse_spec}
use Rattle.byte_unit_base.specs.Sizes.Accepted.{IsAcceptedAs}
use Rattle.byte_unit_base.specs.Reading.Results.{IsReadingAs, IsBytesReadingAs}
use Rattle.byte_unit_base.specs.declared.errors.ParseError.{ParseError}
use Rattle.byte_unit_base.specs.declared.kind.Kind.{Kind}

-- The string is accepted as the size n, if decimal prefixes mean binary ones.
abbrev pub IsBinaryAccepted : Kind → Bool → List ℕ → ℕ → Type 0
IsBinaryAccepted kind ignore_case = IsAcceptedAs (parse_spec kind ignore_case true) current

-- as `IsSizeReading`, by the binary reading
abbrev pub IsBinaryReading : Kind → Bool → List ℕ → Result ℕ ParseError → Type 0
IsBinaryReading kind ignore_case = IsReadingAs (parse_spec kind ignore_case true)

-- as `IsBytesReading`, by the binary reading
abbrev pub IsBinaryBytesReading : Kind → Bool → List ℕ → Option (Result ℕ ParseError) → Type 0
IsBinaryBytesReading kind ignore_case = IsBytesReadingAs (parse_spec kind ignore_case true)
