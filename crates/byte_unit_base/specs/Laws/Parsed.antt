-- The parsers as functions (`Parsed`) give for each input exactly its meaning or its error.
use Rattle.std.specs.Prelude.{◌≡◌, ◌↔◌, ℕ, Bool, List, Result, Ok, Err}
use Rattle.byte_unit_base.specs.Grammar.Shape.{Shape}
use Rattle.byte_unit_base.specs.Grammar.Version.{current}
use Rattle.byte_unit_base.specs.Grammar.Spelling.{Flags, Spells}
use Rattle.byte_unit_base.specs.Grammar.SizeText.{trim_of}
use Rattle.byte_unit_base.specs.Errors.Fault.{Fault, IsUnitFault, IsSizeFault}
use Rattle.byte_unit_base.specs.Sizes.Accepted.{IsAccepted, IsRejected}
use Rattle.byte_unit_base.specs.Laws.Readers.{Represents}
use Rattle.byte_unit_base.specs.Reading.Parsed.{parsed_unit, parsed_number, parsed_size}
use Rattle.byte_unit_base.specs.declared.kind.Kind.{Kind}

-- the result is `Ok` with exactly the meaning of the input, and an error with exactly the error of the input
pub record GivesAnswer
    (Meaning : Type 0) (Means : Meaning → Type 0) (Fails : Fault → Type 0)
    (result : Result Meaning Fault)
    : Type 0 where
  pub is_meaning : (meaning : Meaning) → (result ≡ Ok meaning) ↔ Means meaning
  pub is_fault : (fault : Fault) → (result ≡ Err fault) ↔ Fails fault

-- law: `parsed_unit` gives the unit that each input spells, or its error
abbrev pub ParsedUnitsAreSpelled : Type 0
ParsedUnitsAreSpelled =
    (flags : Flags) (bytes : List ℕ)
    → GivesAnswer Shape (Spells current flags (trim_of bytes)) (IsUnitFault current flags (trim_of bytes))
    (parsed_unit flags bytes)

-- law: `parsed_number` gives the number and the unit that each input represents, or its error
abbrev pub ParsedNumbersAreRepresented : Type 0
ParsedNumbersAreRepresented =
    (flags : Flags) (bytes : List ℕ)
    → GivesAnswer (ℕ × Shape) (Represents flags (trim_of bytes)) (IsSizeFault current flags (trim_of bytes))
    (parsed_number flags bytes)

-- law: `parsed_size` gives the size that each input is accepted as, or the error that it is rejected with
abbrev pub ParsedSizesAreAccepted : Type 0
ParsedSizesAreAccepted =
    (kind : Kind) (ignore_case : Bool) (bytes : List ℕ)
    → GivesAnswer ℕ (IsAccepted kind ignore_case bytes) (IsRejected kind ignore_case bytes)
    (parsed_size kind ignore_case bytes)
