-- Where an input is wrong: the byte index of its first wrong character, and its location, as messages have it: the
-- number of that character, or the end. An input is given by its UTF-8 bytes.
use Rattle.std.specs.Prelude.{◌≡◌, ℕ, ◌+◌, ◌-◌, Bool, ◌||◌, nat_lt, nat_le}
use Rattle.std.specs.Prelude.{List, [], ◌∷◌, ◌++◌, length, take, Option, Some, None, codes}
use Rattle.std.specs.Fmt.{decimal}
use Rattle.std.specs.List.{count_by}
use Rattle.std.specs.Str.{trim_start}
use Rattle.byte_unit_base.specs.Grammar.Version.{current}
use Rattle.byte_unit_base.specs.Grammar.Spelling.{Flags}
use Rattle.byte_unit_base.specs.Grammar.SizeText.{trim_of}
use Rattle.byte_unit_base.specs.Errors.ViablePrefix.{ParserState, IsViableUnitPrefix, IsViableSizePrefix}
use Rattle.byte_unit_base.specs.Errors.Fault.{Fault, IsFirstFault, exceeded}
use Rattle.byte_unit_base.specs.declared.errors.Location.{Location}
use Rattle.byte_unit_base.specs.declared.errors.Location.TheVariants.{Whole, Character, End}

-- the number of bytes of the white space at the start of an input
abbrev pub leading_white : List ℕ → ℕ
leading_white bytes = length bytes - length (trim_start bytes)

-- without the white space at its ends, the input has an error, and the position is the index in the input, in bytes, of
-- the end of its longest viable prefix. The characters of a viable prefix are ASCII, of one byte each
pub record IsErrorAt (IsViable : ParserState → List ℕ → Type 0) (flags : Flags) (bytes : List ℕ) (position : ℕ)
    : Type 0 where
  pub fault : Fault
  pub first : IsFirstFault IsViable current flags (trim_of bytes) fault
  pub position_is : position ≡ leading_white bytes + length first.front

-- the position of the error of the input, or `None` if it has no error
abbrev pub IsPositionFor : (ParserState → List ℕ → Type 0) → Flags → List ℕ → Option ℕ → Type 0
IsPositionFor IsViable flags bytes None =
    (fault : Fault) → ¬ (IsFirstFault IsViable current flags (trim_of bytes) fault)
IsPositionFor IsViable flags bytes (Some position) = IsErrorAt IsViable flags bytes position

-- the position of the error of a number and unit; `None` if the input is in the grammar
abbrev pub IsSizePosition : List ℕ → Option ℕ → Type 0
IsSizePosition bytes result = (flags : Flags) → IsPositionFor (IsViableSizePrefix current) flags bytes result

-- the position of the error of a unit; `None` if the input spells one
abbrev pub IsUnitPosition : List ℕ → Option ℕ → Type 0
IsUnitPosition bytes result = (flags : Flags) → IsPositionFor (IsViableUnitPrefix current) flags bytes result

-- whether a byte begins a character
abbrev pub begins_character : ℕ → Bool
begins_character byte = nat_lt byte 128 || nat_le 192 byte

-- the number, counted from 1, of the character at an index
abbrev pub character_number : List ℕ → ℕ → ℕ
character_number bytes index = count_by begins_character (take index bytes) + 1

-- the first character, or `None` if there is none
abbrev pub next_char : List ℕ → Option ℕ
next_char [] = None
next_char (c ∷ rest) = Some c

-- the location of an error at an index, by the character there: at the end if there is none
abbrev pub location_at : List ℕ → ℕ → Option ℕ → Location
location_at bytes index None = End
location_at bytes index (Some c) = Character (character_number bytes index)

-- the location of the error of the input: at the end if all of it, without the white space at its ends, is a viable
-- prefix
abbrev pub IsLocationFor : (ParserState → List ℕ → Type 0) → Flags → List ℕ → Location → Type 0
IsLocationFor IsViable flags bytes location =
    (position : ℕ) × (error : IsErrorAt IsViable flags bytes position)
    × (location ≡ location_at bytes position (next_char error.first.rest))

-- the location of the error of a number and unit
abbrev pub IsSizeLocation : List ℕ → Location → Type 0
IsSizeLocation bytes location = (flags : Flags) → IsLocationFor (IsViableSizePrefix current) flags bytes location

-- the location of the error of a unit
abbrev pub IsUnitLocation : List ℕ → Location → Type 0
IsUnitLocation bytes location = (flags : Flags) → IsLocationFor (IsViableUnitPrefix current) flags bytes location

-- the location of this error, where `IsLocation` is that of an error of the grammar; the whole input if only the size
-- is too large
abbrev pub IsLocationOf : (Location → Type 0) → Fault → Location → Type 0
IsLocationOf IsLocation (exceeded n) location = location ≡ Whole
IsLocationOf IsLocation _ location = IsLocation location

-- the words for a location in a message
abbrev pub location_words : Location → List ℕ
location_words Whole = []
location_words (Character number) = codes " (character " ++ (decimal number ++ codes ")")
location_words End = codes " (at the end of the text)"
