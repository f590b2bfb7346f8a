-- Private: where the parsers of a number, of a unit and of both end, and with which result; what the code keeps of a
-- state of the state machine; and what the parsers that leave the error to be made return. Contracts of this crate, and
-- of private functions of byte_unit_c, cite this file.
use Rattle.std.specs.Prelude.{ℕ, Bool, true, false, if◌then◌else◌, ◌==◌, List, Some, None, codes, ◌≡◌, ◌≢◌}
use Rattle.std.specs.Prelude.{⊤, ◌+◌, ◌-◌, ◌<◌, ◌≤◌, [], ◌∷◌, ◌++◌, length, take, replicate, drop, slice_index, Option}
use Rattle.std.specs.Prelude.{Result, Ok, Err}
use Rattle.std.specs.List.{common_prefix_len}
use Rattle.std.specs.Char.{to_ascii_lowercase, is_ascii_graphic}
use Rattle.byte_unit_base.specs.Reading.Machines.{Multiple, One, UnitScan, SuffixPart}
use Rattle.byte_unit_base.specs.Reading.Machines.{Empty, UpperB, LowerB, Bi, Bit, Bits, unit_of, unit_step, start, run}
use Rattle.byte_unit_base.specs.Reading.Machines.{SizeScan, Beginning, size_step, size_parser_state, after_number}
use Rattle.byte_unit_base.specs.Errors.ViablePrefix.{ParserState, before_unit, after_prefix, after_b, after_bi}
use Rattle.byte_unit_base.specs.Errors.ViablePrefix.{after_bit, after_bits}
use Rattle.byte_unit_base.specs.declared.stop.Word.{Word}
use Rattle.byte_unit_base.specs.declared.stop.Word.TheVariants.{Empty as NoLetter, B as LetterB, Bi as LettersBi}
use Rattle.byte_unit_base.specs.declared.stop.Word.TheVariants.{Bit as LettersBit, Bits as LettersBits}
use Rattle.byte_unit_base.specs.declared.stop.UnitStop.{UnitStop}
use Rattle.std.specs.Str.{IsUtf8, IsAscii, chars}
use Rattle.std.specs.Str.Parse.{digits_value}
use Rattle.byte_unit_math.specs.Bounds.{whole_limit}
use Rattle.byte_unit_base.specs.Grammar.Version.{current}
use Rattle.byte_unit_base.specs.Grammar.Units.{shape_of}
use Rattle.byte_unit_base.specs.Grammar.Spelling.{Flags, Spells}
use Rattle.byte_unit_base.specs.Grammar.Number.{point, IsNumberText}
use Rattle.byte_unit_base.specs.Grammar.SizeText.{space, IsSizeText}
use Rattle.byte_unit_base.specs.Errors.Fault.{Fault, IsFaultAfter, fault_at, no_unit, not_number, no_value, too_long}
use Rattle.byte_unit_base.specs.Errors.Fault.{stops_at_bi}
use Rattle.byte_unit_base.specs.Errors.Position.{next_char, IsSizePosition, IsUnitPosition, IsSizeLocation}
use Rattle.byte_unit_base.specs.Errors.Position.{IsUnitLocation, location_at}
use Rattle.byte_unit_base.specs.declared.unit.Unit.{Unit as UnitName}
use Rattle.byte_unit_base.specs.declared.stop.ByteStop.{ByteStop}
use Rattle.byte_unit_base.specs.declared.stop.NumberStop.{NumberStop}
use Rattle.byte_unit_base.specs.declared.stop.NumberStop.TheVariants.{NoWhole, NoFraction, TooLong}
use Rattle.byte_unit_base.specs.declared.stop.Reason.{Reason}
use Rattle.byte_unit_base.specs.declared.stop.Reason.TheVariants.{InNumber, InUnit}
use Rattle.byte_unit_base.specs.declared.read.Measure.{Measure}
use Rattle.byte_unit_base.specs.declared.read.digits.Whole.{Whole}
use Rattle.byte_unit_base.specs.declared.read.digits.Whole.TheVariants.{Value, TooLong as TooLongAt}
use Rattle.byte_unit_base.specs.Errors.Meaning.{size_fault, unit_fault}
use Rattle.byte_unit_base.specs.Reading.Results.{IsNumberReading, IsUnitReading}
use Rattle.byte_unit_base.specs.declared.errors.ParseError.{ParseError}
use Rattle.byte_unit_base.specs.declared.errors.UnitParseError.{UnitParseError}
use Rattle.byte_unit_base.specs.declared.stop.Stop.{Stop}

-- the suffix of the first `n` letters of `bits`, the first of which is a `B` or a `b`
abbrev pub word_of : ℕ → Bool → SuffixPart
word_of n upper = if n == 0 then Empty else (if n == 1 then (if upper then UpperB else LowerB)
    else (if n == 2 then Bi else (if n == 3 then Bit else Bits)))

-- how many of the bytes, from the first on, are the letters of `bits` in either case
abbrev pub bits_len : List ℕ → ℕ
bits_len bytes = common_prefix_len (λ letter byte. to_ascii_lowercase byte == letter) (codes "bits") bytes

-- whether there is a prefix
abbrev pub has_prefix : Multiple → Bool
has_prefix One = false
has_prefix _ = true

-- the letters of a suffix, in either case
abbrev pub letters_of : SuffixPart → Word
letters_of Empty = NoLetter
letters_of UpperB = LetterB
letters_of LowerB = LetterB
letters_of Bi = LettersBi
letters_of Bit = LettersBit
letters_of Bits = LettersBits

-- what the code keeps of a state
abbrev pub unit_stop : UnitScan → UnitStop
unit_stop s = record { has_prefix = has_prefix s.multiple; word = letters_of s.word }

-- the parser state after these letters
abbrev pub letters_parser_state : Bool → Word → ParserState
letters_parser_state prefix NoLetter = if prefix then after_prefix else before_unit
letters_parser_state prefix LetterB = after_b
letters_parser_state prefix LettersBi = after_bi
letters_parser_state prefix LettersBit = after_bit
letters_parser_state prefix LettersBits = after_bits

-- the parser state of what the code keeps
abbrev pub stop_parser_state : UnitStop → ParserState
stop_parser_state stop = letters_parser_state stop.has_prefix stop.word

-- the first and the last byte are visible characters of ASCII
pub record HasVisibleEnds (bytes : List ℕ) : Type 0 where
  pub some : 0 < length bytes
  pub start : is_ascii_graphic (slice_index bytes 0) ≡ true
  pub end : is_ascii_graphic (slice_index bytes (length bytes - 1)) ≡ true

-- the first character, if there is one, has the property
abbrev pub IsFirst : (ℕ → Type 0) → List ℕ → Type 0
IsFirst Has [] = ⊤
IsFirst Has (c ∷ rest) = Has c

-- what follows a line: a line feed (10), or nothing
abbrev pub IsAfterLine : List ℕ → Type 0
IsAfterLine = IsFirst (λ byte. byte ≡ 10)

-- the bytes begin with the line; `after` is what follows it
pub record IsLineOf (line bytes : List ℕ) : Type 0 where
  pub after : List ℕ
  pub bytes_are : bytes ≡ line ++ after
  pub ends : IsAfterLine after

-- the first eight bytes, and 0 in index of those after the end
abbrev pub first_eight : List ℕ → List ℕ
first_eight bytes = take 8 (bytes ++ replicate 8 0)

-- the character is no space
abbrev pub IsNoSpace : ℕ → Type 0
IsNoSpace c = c ≢ space

-- with the digit at this index the value of the digits reaches the limit of a whole part
pub record IsLimitAt (digits : List ℕ) (index : ℕ) : Type 0 where
  pub inside : index < length digits
  pub below : digits_value 10 (take index digits) < whole_limit
  pub above : whole_limit ≤ digits_value 10 (take (index + 1) digits)

-- the value of the digits, below the limit of a whole part, or the index of the digit with which it reaches the limit
abbrev pub IsWhole : List ℕ → Whole → Type 0
IsWhole digits (Value n) = (n < whole_limit) × (n ≡ digits_value 10 digits)
IsWhole digits (TooLongAt index) = IsLimitAt digits index

-- the bytes begin with a beginning of a unit, of this length, and with no longer one: the state machine has this state
-- after it, and no step at what follows
pub record IsLeadingUnit (bytes : List ℕ) (scan : UnitScan) (end : ℕ) : Type 0 where
  pub within : end ≤ length bytes
  pub run_is : run unit_step start (take end bytes) ≡ Some scan
  pub next : IsFirst (λ c. unit_step scan c ≡ None) (drop end bytes)

-- the parser of a unit stops in these bytes, which spell none, at this index; of its state is kept whether it has a
-- prefix, and the letters of the suffix after it
abbrev pub IsUnitStop : Flags → List ℕ → UnitStop → ℕ → Type 0
IsUnitStop flags bytes stop index =
    (scan : UnitScan) × IsLeadingUnit bytes scan index × (index ≡ length bytes → unit_of flags scan ≡ None)
    × (unit_stop scan ≡ stop)

-- the unit that the bytes spell, or where the parser of a unit stops in them
abbrev pub IsUnitEnd : Flags → List ℕ → Result UnitName (ByteStop UnitStop) → Type 0
IsUnitEnd flags bytes (Ok unit) = Spells current flags bytes (shape_of unit)
IsUnitEnd flags bytes (Err stop) = IsUnitStop flags bytes stop.reason stop.index

-- the error of an input in which the parser of a unit stops here, by the character there
abbrev pub unit_stop_fault : Flags → UnitStop → Option ℕ → Fault
unit_stop_fault flags stop (Some c) = fault_at current flags (stop_parser_state stop) c
unit_stop_fault flags stop None = stops_at_bi

-- the error of an input in which the parser of a number stops for this reason, by the character there
abbrev pub number_stop_fault : NumberStop → Option ℕ → Fault
number_stop_fault NoWhole (Some c) = not_number c
number_stop_fault NoWhole None = no_value
number_stop_fault NoFraction (Some c) = not_number c
number_stop_fault NoFraction None = not_number point
number_stop_fault TooLong next = too_long

-- the error of an input in which the parser stops for this reason, by the character there
abbrev pub stop_fault : Flags → Reason → Option ℕ → Fault
stop_fault flags (InNumber stop) next = number_stop_fault stop next
stop_fault flags (InUnit stop) next = unit_stop_fault flags stop next

-- in this state there is an error at what follows, the one of this reason: at the next character, for which the state
-- machine of sizes has no step, or at the end
abbrev pub IsStoppedBefore : Flags → SizeScan → Reason → List ℕ → Type 0
IsStoppedBefore flags state reason rest =
    IsFirst (λ c. size_step state c ≡ None) rest
    × IsFaultAfter current flags (size_parser_state state) rest (stop_fault flags reason (next_char rest))

-- the state machine of sizes has this state after the bytes before this index, and an error there
pub record IsStopped (flags : Flags) (bytes : List ℕ) (index : ℕ) (reason : Reason) : Type 0 where
  pub state : SizeScan
  pub run_is : run size_step Beginning (take index bytes) ≡ Some state
  pub before : IsStoppedBefore flags state reason (chars (drop index bytes))

-- the parser stops in this input at this index and for this reason
pub record IsStopAt (flags : Flags) (bytes : List ℕ) (index : ℕ) (reason : Reason) : Type 0 where
  pub within : index ≤ length bytes
  pub ascii : IsAscii (take index bytes)
  pub stopped : IsUtf8 bytes → IsStopped flags bytes index reason

-- the bytes have visible ends, they are ASCII from this index on, and this is the character there
pub record IsVisibleNext (bytes : List ℕ) (index : ℕ) (next : Option ℕ) : Type 0 where
  pub ends : HasVisibleEnds bytes
  pub ascii : IsAscii (drop index bytes)
  pub next_is : next ≡ next_char (chars (drop index bytes))

-- the character ends the number `n` of this state: it is a space, or begins a unit, or has the error of one that does
-- not
pub record EndsNumber (state : SizeScan) (n c : ℕ) : Type 0 where
  pub step_is : size_step state c ≡ after_number n c
  pub fault_is : (flags : Flags) → fault_at current flags (size_parser_state state) c ≡ no_unit current c

-- the bytes begin with the number `n`, of this length, and with no longer one
pub record IsLeadingNumber (bytes : List ℕ) (n end : ℕ) : Type 0 where
  pub within : end ≤ length bytes
  pub number_is : IsNumberText current (take end bytes) n
  -- the state machine has this state after the number, and goes on from there as after it
  pub state : SizeScan
  pub run_is : run size_step Beginning (take end bytes) ≡ Some state
  pub next : IsUtf8 bytes → IsFirst (EndsNumber state n) (chars (drop end bytes))

-- the number with which the bytes begin, or why and where the parser stops in it
abbrev pub IsNumberEnd : List ℕ → Result (ℕ × ℕ) (ByteStop NumberStop) → Type 0
IsNumberEnd bytes (Ok found) = IsLeadingNumber bytes found.1 found.0
IsNumberEnd bytes (Err stop) = (flags : Flags) → IsStopAt flags bytes stop.index (InNumber stop.reason)

-- the number and the unit that the bytes are, or where the parser stops in them
abbrev pub IsNumberAndUnitEnd : Flags → List ℕ → Result Measure (ByteStop Reason) → Type 0
IsNumberAndUnitEnd flags bytes (Ok found) = IsSizeText current flags bytes found.number (shape_of found.unit)
IsNumberAndUnitEnd flags bytes (Err stop) = IsStopAt flags bytes stop.index stop.reason

-- the parser stops in this string: the error by the reason and by the character, or the end, is that of the string, the
-- index is its position, and both give its location
pub record IsStop (flags : Flags) (bytes : List ℕ) (stop : Stop Reason) : Type 0 where
  pub utf8 : IsUtf8 bytes
  pub reading : (error : ParseError) → size_fault error ≡ stop_fault flags stop.reason stop.next
      → IsNumberReading flags bytes (Err error)
  pub position : IsSizePosition bytes (Some stop.index)
  pub location : IsSizeLocation bytes (location_at bytes stop.index stop.next)

-- the number and the unit of the string, or where the parser stops in it
abbrev pub IsNumberOrStop : Flags → List ℕ → Result Measure (Stop Reason) → Type 0
IsNumberOrStop flags bytes (Ok found) = IsNumberReading flags bytes (Ok (found.number, found.unit))
IsNumberOrStop flags bytes (Err stop) = IsStop flags bytes stop

-- the unit of the string; or what was read before the parser stops in it, and the character there, or `None` at the
-- end, by which the error is that of the string, and the position of this error; they give its location
abbrev pub IsUnitOrStop : Flags → List ℕ → Result UnitName (Stop UnitStop) → Type 0
IsUnitOrStop flags bytes (Ok unit) = IsUnitReading flags bytes (Ok unit)
IsUnitOrStop flags bytes (Err stop) =
    ((error : UnitParseError) → unit_fault error ≡ unit_stop_fault flags stop.reason stop.next
    → IsUnitReading flags bytes (Err error))
    × IsUnitPosition bytes (Some stop.index)
    × IsUnitLocation bytes (location_at bytes stop.index stop.next)
