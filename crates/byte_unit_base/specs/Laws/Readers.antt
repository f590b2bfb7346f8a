-- The laws of the parsers. An input is the list of its characters.
use Rattle.std.specs.Prelude.{◌≡◌, ◌↔◌, ℕ, Bool, false, ◌⊎◌, List, ◌++◌}
use Rattle.byte_unit_base.specs.Grammar.Shape.{Shape}
use Rattle.byte_unit_base.specs.Grammar.Version.{current, unit_name}
use Rattle.byte_unit_base.specs.Grammar.Units.{shape_of}
use Rattle.byte_unit_base.specs.Grammar.Spelling.{Flags, flags_of, Spells}
use Rattle.byte_unit_base.specs.Grammar.SizeText.{trim_of, IsSizeText}
use Rattle.byte_unit_base.specs.Errors.ViablePrefix.{ParserState, IsViableUnitPrefix, IsViableSizePrefix}
use Rattle.byte_unit_base.specs.Errors.Fault.{Fault, IsUnitFault, IsSizeFault}
use Rattle.byte_unit_base.specs.declared.unit.Unit.{Unit as UnitName}

-- an input has exactly one meaning, or exactly one error, and not both
pub record IsOneAnswer (Meaning : Type 0) (Means : Meaning → Type 0) (Fails : Fault → Type 0) : Type 0 where
  pub some : ((meaning : Meaning) × Means meaning) ⊎ ((fault : Fault) × Fails fault)
  pub one_meaning : (meaning other : Meaning) → Means meaning → Means other → meaning ≡ other
  pub one_fault : (fault other : Fault) → Fails fault → Fails other → fault ≡ other
  pub not_both : (meaning : Meaning) (fault : Fault) → Means meaning → ¬ (Fails fault)

-- law: each input spells exactly one unit, or has exactly one error, and not both
abbrev pub UnitTextsHaveOneAnswer : Type 0
UnitTextsHaveOneAnswer =
    (flags : Flags) (text : List ℕ) → IsOneAnswer Shape (Spells current flags text) (IsUnitFault current flags text)

-- the input is this number (scaled by 10^28) of this unit
abbrev pub Represents : Flags → List ℕ → ℕ × Shape → Type 0
Represents flags text stated = IsSizeText current flags text stated.0 stated.1

-- law: each input is exactly one number and unit, or has exactly one error, and not both
abbrev pub SizeTextsHaveOneAnswer : Type 0
SizeTextsHaveOneAnswer =
    (flags : Flags) (text : List ℕ) → IsOneAnswer (ℕ × Shape) (Represents flags text) (IsSizeFault current flags text)

-- the text can be completed: with some rest, or with nothing, it has a meaning
abbrev pub CanBecome : (Meaning : Type 0) → (List ℕ → Meaning → Type 0) → List ℕ → Type 0
CanBecome Meaning Means text = (rest : List ℕ) × (meaning : Meaning) × Means (text ++ rest) meaning

-- law: the viable prefixes of a unit are exactly the beginnings of the spellings of units
abbrev pub ViableUnitPrefixesAreBeginnings : Type 0
ViableUnitPrefixesAreBeginnings =
    (flags : Flags) (text : List ℕ)
    → ((parser_state : ParserState) × IsViableUnitPrefix current parser_state text)
    ↔ CanBecome Shape (Spells current flags) text

-- law: the viable prefixes of a number and a unit are exactly the beginnings of the inputs in the grammar
abbrev pub ViableSizePrefixesAreBeginnings : Type 0
ViableSizePrefixesAreBeginnings =
    (flags : Flags) (text : List ℕ)
    → ((parser_state : ParserState) × IsViableSizePrefix current parser_state text)
    ↔ CanBecome (ℕ × Shape) (Represents flags) text

-- the name of the unit spells it if case is significant, whether bytes or bits are preferred, and has no white space at
-- its ends
pub record IsSpelledByItsName (unit : UnitName) (prefer_byte : Bool) : Type 0 where
  pub spells : Spells current (flags_of false prefer_byte) (unit_name unit) (shape_of unit)
  pub trimmed_is : trim_of (unit_name unit) ≡ unit_name unit

-- law: the name of each unit is parsed as this unit
abbrev pub NamesSpellTheirUnits : Type 0
NamesSpellTheirUnits = (unit : UnitName) (prefer_byte : Bool) → IsSpelledByItsName unit prefer_byte
