-- The errors of parsing as the C API reports them.
use Rattle.std.specs.Prelude.{◌≡◌, ℕ, ◌-◌, Bool, false, List, [], ◌++◌, length, map, take, replicate, nat_lt, slice_set}
use Rattle.std.specs.Prelude.{if◌then◌else◌, Option, Some}
use Rattle.byte_unit_base.specs.Errors.Fault.{Fault, bad_unit, not_number, no_value, too_long, exceeded}
use Rattle.byte_unit_base.specs.Errors.Meaning.{size_fault, unit_fault}
use Rattle.byte_unit_base.specs.Reading.Ends.{stop_fault, unit_stop_fault}
use Rattle.byte_unit_base.specs.declared.errors.ParseError.{ParseError}
use Rattle.byte_unit_base.specs.declared.stop.Reason.{Reason}
use Rattle.byte_unit_base.specs.declared.stop.Stop.{Stop}
use Rattle.byte_unit_base.specs.declared.spec.Flags.{Flags}
use Rattle.byte_unit_base.specs.declared.errors.UnitParseError.{UnitParseError}
use Rattle.byte_unit_base.specs.declared.stop.UnitStop.{UnitStop}
use Rattle.byte_unit_c.specs.declared.error.Error.{Error}
use Rattle.byte_unit_c.specs.Values.{AreDecimalParts}

-- the code if the string represents a size
abbrev pub ok : ℕ
ok = 0

-- the code of an error
abbrev pub code_of : Fault → ℕ
code_of no_value = 1
code_of (not_number c) = 2
code_of too_long = 3
code_of (exceeded number) = 4
code_of (bad_unit c expected may_end) = 5

-- the code if the bytes are not UTF-8
abbrev pub not_utf8 : ℕ
not_utf8 = 6

-- the code of a call that is rejected: a flag is unknown, or offsets and lengths do not fit each other
abbrev pub invalid_argument : ℕ
invalid_argument = 7

-- an ASCII character as its byte, and a question mark (63) for any other
abbrev pub as_byte : ℕ → ℕ
as_byte c = if nat_lt c 128 then c else 63

-- the first fifteen characters as bytes, padded with zeros to sixteen bytes
abbrev pub expected_bytes : List ℕ → List ℕ
expected_bytes characters =
    let kept = take 15 characters in
    map as_byte kept ++ replicate (16 - length kept) 0

-- the fields have these values
pub record HasFields (character : ℕ) (expected : List ℕ) (may_end : Bool) (number : ℕ) (error : Error) : Type 0 where
  pub character_is : error.character ≡ character
  pub expected_is : error.expected ≡ expected_bytes expected
  pub may_end_is : error.also_expect_no_character ≡ (if may_end then 1 else 0)
  pub number_is : AreDecimalParts error.number number

-- the fields of each error but its position; a field that it does not use is zero
abbrev pub IsErrorOf : Fault → Error → Type 0
IsErrorOf no_value = HasFields 0 [] false 0
IsErrorOf (not_number c) = HasFields c [] false 0
IsErrorOf too_long = HasFields 0 [] false 0
IsErrorOf (exceeded number) = HasFields 0 [] false number
IsErrorOf (bad_unit c expected may_end) = HasFields c expected may_end 0

-- the position of each error, where `IsPosition` is that of the string; 0 if only its size is too large
abbrev pub IsPositionOf : (Option ℕ → Type 0) → Fault → ℕ → Type 0
IsPositionOf IsPosition (exceeded number) position = position ≡ 0
IsPositionOf IsPosition _ position = IsPosition (Some position)

-- the details of the error, with this position, are written to the first element of the buffer, if it is not empty
abbrev pub IsWrittenAt : ℕ → Fault → List Error → List Error → Type 0
IsWrittenAt position fault old new =
    (error : Error) × IsErrorOf fault error × (error.position ≡ position) × (new ≡ slice_set old 0 error)

-- the details are written with the position of the error
abbrev pub IsErrorWritten : (Option ℕ → Type 0) → Fault → List Error → List Error → Type 0
IsErrorWritten IsPosition fault old new =
    (position : ℕ) × IsPositionOf IsPosition fault position × IsWrittenAt position fault old new

-- Private: the details of the error of a parser that stops here are written with its index, and this is its code
abbrev pub IsStopWritten : Flags → Stop Reason → ℕ → List Error → List Error → Type 0
IsStopWritten flags stop code old new =
    (error : ParseError) × (size_fault error ≡ stop_fault flags stop.reason stop.next)
    × (code ≡ code_of (size_fault error)) × IsWrittenAt stop.index (size_fault error) old new

-- Private: the details of the error of a unit in which a parser stops here are written with its index
abbrev pub IsUnitStopWritten : Flags → Stop UnitStop → List Error → List Error → Type 0
IsUnitStopWritten flags stop old new =
    (error : UnitParseError) × (unit_fault error ≡ unit_stop_fault flags stop.reason stop.next)
    × IsWrittenAt stop.index (unit_fault error) old new
