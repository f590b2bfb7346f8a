-- The error of an input that is not in the grammar: that of the first wrong character, by the parser state after the
-- longest viable prefix.
use Rattle.std.specs.Prelude.{◌≡◌, ℕ, Bool, true, false, if◌then◌else◌, nat_lt, List, [], ◌∷◌, ◌++◌, Option, Some, None}
use Rattle.std.specs.Prelude.{codes}
use Rattle.std.specs.Char.{digit_value}
use Rattle.byte_unit_base.specs.Grammar.Version.{Version}
use Rattle.byte_unit_base.specs.Grammar.Spelling.{Flags}
use Rattle.byte_unit_base.specs.Grammar.Number.{point}
use Rattle.byte_unit_base.specs.Errors.ViablePrefix.{ParserState, beginning, in_whole, after_point, in_fraction}
use Rattle.byte_unit_base.specs.Errors.ViablePrefix.{before_unit, after_prefix, after_b, after_bi, after_bit}
use Rattle.byte_unit_base.specs.Errors.ViablePrefix.{after_bits, IsViableUnitPrefix, IsViableSizePrefix}
use Rattle.byte_unit_base.specs.Errors.ViablePrefix.{IsLongestViablePrefix}

-- the error of an input, as the specification has it
pub data Fault : Type 0 where
  -- the size is too large; its number, scaled by 10^28. A parser of a number and a unit does not return this error
  exceeded : ℕ → Fault
  -- a digit is missing: this character is in its place, or is the point in which the input ends
  not_number : ℕ → Fault
  -- the input ends before a number
  no_value : Fault
  -- a digit too many: with it the whole part reaches its limit, or it is the 29th after the point
  too_long : Fault
  -- this character cannot continue a unit; the characters that the message names as expected, in this order, and
  -- whether the input could end there. Other characters can be valid too: the other case of a letter, an `i` after a
  -- prefix
  bad_unit : ℕ → List ℕ → Bool → Fault

-- the error at a character that cannot begin a unit
abbrev pub no_unit : Version → ℕ → Fault
no_unit version c = bad_unit c (codes "B" ++ version.letters) true

-- the error at a character after a digit: a digit too many, or a character that cannot begin a unit
abbrev pub after_digit : Version → ℕ → Fault
after_digit version c = if nat_lt (digit_value c) 10 then too_long else no_unit version c

-- the characters that an error after a prefix names: both letters if case is significant, and otherwise `B` if bytes
-- are preferred, or `b` if bits are
abbrev pub expected_after_prefix : Flags → List ℕ
expected_after_prefix flags =
    if flags.ignore_case then (if flags.prefer_byte then codes "B" else codes "b") else codes "Bb"

-- the error at the character `c` that follows the longest viable prefix, by the parser state after that prefix
abbrev pub fault_at : Version → Flags → ParserState → ℕ → Fault
fault_at version flags beginning c = not_number c
fault_at version flags in_whole c = after_digit version c
fault_at version flags after_point c = not_number c
fault_at version flags in_fraction c = after_digit version c
fault_at version flags before_unit c = no_unit version c
fault_at version flags after_prefix c = bad_unit c (expected_after_prefix flags) true
fault_at version flags after_b c = bad_unit c (codes "i") true
fault_at version flags after_bi c = bad_unit c (codes "t") false
fault_at version flags after_bit c = bad_unit c (codes "s") true
fault_at version flags after_bits c = bad_unit c [] true

-- the character `i`
abbrev pub letter_i : ℕ
letter_i = 105

-- the error of an input that ends in `bi`: it could have ended before the `i`
abbrev pub stops_at_bi : Fault
stops_at_bi = bad_unit letter_i [] true

-- the error of an input that is a viable prefix as a whole, by the parser state at its end; `None` if it can end there
abbrev pub fault_at_end : ParserState → Option Fault
fault_at_end beginning = Some no_value
fault_at_end after_point = Some (not_number point)
fault_at_end after_bi = Some stops_at_bi
fault_at_end _ = None

-- the error by the parser state after the longest viable prefix, and by the rest of the input
abbrev pub IsFaultAfter : Version → Flags → ParserState → List ℕ → Fault → Type 0
IsFaultAfter version flags parser_state [] fault = fault_at_end parser_state ≡ Some fault
IsFaultAfter version flags parser_state (c ∷ rest) fault = fault ≡ fault_at version flags parser_state c

-- the error of an input is that after its longest viable prefix; `IsViable` says what a viable prefix is; `front`
-- is that prefix, and `parser_state` the parser state after it
pub record IsFirstFault
    (IsViable : ParserState → List ℕ → Type 0) (version : Version) (flags : Flags) (text : List ℕ) (fault : Fault)
    : Type 0 where
  pub parser_state : ParserState
  pub front : List ℕ
  pub rest : List ℕ
  pub longest : IsLongestViablePrefix IsViable text parser_state front rest
  pub fault_is : IsFaultAfter version flags parser_state rest fault

-- the error of an input that does not spell a unit
abbrev pub IsUnitFault : Version → Flags → List ℕ → Fault → Type 0
IsUnitFault version = IsFirstFault (IsViableUnitPrefix version) version

-- the error of an input that is not a number and a unit
abbrev pub IsSizeFault : Version → Flags → List ℕ → Fault → Type 0
IsSizeFault version = IsFirstFault (IsViableSizePrefix version) version
