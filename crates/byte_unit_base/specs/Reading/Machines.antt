-- The state machines that read a unit, and a number and a unit, character by character, so that a proof can compute
-- what a literal is read as. It is proved that they accept the inputs, and give the errors, of the other files
-- (`Laws.Parsed`).
use Rattle.std.specs.Prelude.{ℕ, List, [], ◌∷◌, Option, Some, None, Result, Err, option_and_then, ◌≡◌, suc, Bool, true, zero}
use Rattle.std.specs.Prelude.{false, not, if◌then◌else◌, ◌==◌, Ok, codes, ◌+◌, ◌-◌, ◌*◌, ◌^◌, nat_lt}
use Rattle.byte_unit_base.specs.Grammar.Version.{current}
use Rattle.byte_unit_base.specs.Grammar.Spelling.{Flags, SpellsPrefix}
use Rattle.byte_unit_base.specs.Errors.ViablePrefix.{ParserState, before_unit, after_prefix, after_b, after_bi}
use Rattle.byte_unit_base.specs.Errors.ViablePrefix.{after_bit, after_bits, beginning, in_whole, after_point}
use Rattle.byte_unit_base.specs.Errors.ViablePrefix.{in_fraction}
use Rattle.byte_unit_base.specs.Errors.Fault.{Fault, fault_at, stops_at_bi, not_number, no_value}
use Rattle.std.specs.Str.{str_to_ascii_lowercase}
use Rattle.std.specs.Option.{option_map}
use Rattle.std.specs.Char.{to_ascii_uppercase, to_ascii_lowercase, digit_value}
use Rattle.byte_unit_base.specs.Grammar.Shape.{Shape, shape}
use Rattle.byte_unit_math.specs.Bounds.{scale, places_of_decimal, whole_limit}
use Rattle.byte_unit_base.specs.Grammar.Number.{point}
use Rattle.byte_unit_base.specs.Grammar.SizeText.{space}

-- a state machine: its first state and its steps, the parser state of each state, and the result for an input that ends
-- there
pub record Scan (State Meaning : Type 0) : Type 0 where
  pub flags : Flags
  pub start : State
  pub step : State → ℕ → Option State
  pub parser_state : State → ParserState
  pub at_end : State → Result Meaning Fault

-- the state after a text, or `None` if a character of it has no step
abbrev pub run : {State : Type 0} → (State → ℕ → Option State) → State → List ℕ → Option State
run step s [] = Some s
run step s (c ∷ cs) = option_and_then (λ t. run step t cs) (step s c)

-- the result for the rest of an input, from this state
abbrev pub read : {State Meaning : Type 0} → Scan State Meaning → State → List ℕ → Result Meaning Fault
read scan s [] = scan.at_end s
read scan s (c ∷ cs) =
    elim (scan.step s c) [ Some t ↦ read scan t cs | None ↦ Err (fault_at current scan.flags (scan.parser_state s) c) ]

-- the prefix read so far: none, or that of a position, from 1 for K, as a decimal or, with its `i`, as a binary prefix
pub data Multiple : Type 0 where
  One : Multiple
  Decimal : ℕ → Multiple
  Binary : ℕ → Multiple

-- the part of a suffix (`B`, `b`, `bit`, `bits`) read so far
pub data SuffixPart : Type 0 where
  Empty : SuffixPart
  UpperB : SuffixPart
  LowerB : SuffixPart
  Bi : SuffixPart
  Bit : SuffixPart
  Bits : SuffixPart

-- a state of the machine
pub record UnitScan : Type 0 where
  pub multiple : Multiple
  pub word : SuffixPart

-- the position of a capital letter among the letters, the first of which has the position `first`
abbrev pub position_in : List ℕ → ℕ → ℕ → Option ℕ
position_in [] first u = None
position_in (letter ∷ letters) first u = if u == letter then Some first else position_in letters (suc first) u

-- the position of the prefix that has this letter, in either case
abbrev pub prefix_at : ℕ → Option ℕ
prefix_at c = position_in current.letters 1 (to_ascii_uppercase c)

-- whether the character is `i` (105) or `I`
abbrev pub is_i : ℕ → Bool
is_i c = to_ascii_lowercase c == 105

-- the position of the prefix of a letter, or 0 if it is no prefix letter
abbrev pub letter_power : ℕ → ℕ
letter_power c = elim (prefix_at c) [ Some p ↦ p | None ↦ 0 ]

-- the prefix of a position, binary or decimal, or none if it is 0
abbrev pub multiple_of : ℕ → Bool → Multiple
multiple_of zero binary = One
multiple_of (suc n) binary = if binary then Binary (suc n) else Decimal (suc n)

-- the prefix after one character more: a letter, and then an `i`; `None` if the character does not continue it
abbrev pub multiple_step : Multiple → ℕ → Option Multiple
multiple_step One c = option_map Decimal (prefix_at c)
multiple_step (Decimal p) c = if is_i c then Some (Binary p) else None
multiple_step (Binary p) c = None

-- the suffix after one character more: `B` (66), or a beginning of `bits` (98, 105, 116, 115); `None` if the character
-- does not continue it
abbrev pub word_step : SuffixPart → ℕ → Option SuffixPart
word_step Empty c = if c == 66 then Some UpperB else (if c == 98 then Some LowerB else None)
word_step UpperB c = if is_i c then Some Bi else None
word_step LowerB c = if is_i c then Some Bi else None
word_step Bi c = if to_ascii_lowercase c == 116 then Some Bit else None
word_step Bit c = if to_ascii_lowercase c == 115 then Some Bits else None
word_step Bits c = None

-- the state with this prefix and this suffix
abbrev pub scan_of : Multiple → SuffixPart → UnitScan
scan_of m w = record { multiple = m; word = w }

-- the state after a character that continues the prefix, or else the suffix
abbrev pub or_word : Multiple → Option Multiple → Option SuffixPart → Option UnitScan
or_word m (Some n) w = Some (scan_of n Empty)
or_word m None w = option_map (scan_of m) w

-- the prefix after one character more, if no suffix has begun
abbrev pub prefix_step : Multiple → SuffixPart → ℕ → Option Multiple
prefix_step m Empty c = multiple_step m c
prefix_step m _ c = None

-- the state after one character more, or `None` if it cannot follow
unfoldable pub unit_step : UnitScan → ℕ → Option UnitScan
unit_step s c = or_word s.multiple (prefix_step s.multiple s.word c) (word_step s.word c)

-- the state at the beginning
abbrev pub start : UnitScan
start = scan_of One Empty

-- the texts after which the state has this prefix
abbrev pub IsMultipleText : Multiple → List ℕ → Type 0
IsMultipleText One text = text ≡ []
IsMultipleText (Decimal p) text = SpellsPrefix current text p false
IsMultipleText (Binary p) text = SpellsPrefix current text p true

-- the texts after which the state has this suffix
abbrev pub IsWordText : SuffixPart → List ℕ → Type 0
IsWordText Empty text = text ≡ []
IsWordText UpperB text = text ≡ codes "B"
IsWordText LowerB text = text ≡ codes "b"
IsWordText Bi text = str_to_ascii_lowercase text ≡ codes "bi"
IsWordText Bit text = str_to_ascii_lowercase text ≡ codes "bit"
IsWordText Bits text = str_to_ascii_lowercase text ≡ codes "bits"

-- whether the suffix means bits, or `None` for `bi`, which is no suffix
abbrev pub count_of : Flags → SuffixPart → Option Bool
count_of flags Empty = Some (not flags.prefer_byte)
count_of flags UpperB = Some false
count_of flags LowerB = Some (not flags.ignore_case)
count_of flags Bi = None
count_of flags Bit = Some true
count_of flags Bits = Some true

-- the unit with this prefix that counts bits, or bytes if `bit` is false
abbrev pub multiple_shape : Multiple → Bool → Shape
multiple_shape One bit = shape 0 (not bit) bit
multiple_shape (Decimal p) bit = shape p false bit
multiple_shape (Binary p) bit = shape p true bit

-- the unit of an input that ends in this state, or `None` if it cannot end there
abbrev pub unit_of : Flags → UnitScan → Option Shape
unit_of flags s = option_map (multiple_shape s.multiple) (count_of flags s.word)

-- the parser state after this prefix, before a suffix
abbrev pub multiple_parser_state : Multiple → ParserState
multiple_parser_state One = before_unit
multiple_parser_state _ = after_prefix

-- the parser state after this prefix and this suffix
abbrev pub word_parser_state : Multiple → SuffixPart → ParserState
word_parser_state m Empty = multiple_parser_state m
word_parser_state m UpperB = after_b
word_parser_state m LowerB = after_b
word_parser_state m Bi = after_bi
word_parser_state m Bit = after_bit
word_parser_state m Bits = after_bits

-- the parser state that belongs to a state of the machine
abbrev pub unit_parser_state : UnitScan → ParserState
unit_parser_state s = word_parser_state s.multiple s.word

-- the result for an input that ends after this unit, or (`None`) in `bi`
abbrev pub unit_at_end : Option Shape → Result Shape Fault
unit_at_end (Some s) = Ok s
unit_at_end None = Err stops_at_bi

-- the state machine of a unit
abbrev pub unit_scan : Flags → Scan UnitScan Shape
unit_scan flags = record {
  flags = flags;
  start = start;
  step = unit_step;
  parser_state = unit_parser_state;
  at_end = λ s. unit_at_end (unit_of flags s);
}

-- a state of the machine
pub data SizeScan : Type 0 where
  -- nothing is read
  Beginning : SizeScan
  -- the whole part so far
  Whole : ℕ → SizeScan
  -- the whole part, and the point after it
  Point : ℕ → SizeScan
  -- the whole part, the value of the digits after the point, and their number
  Fraction : ℕ → ℕ → ℕ → SizeScan
  -- the number, scaled by 10^28, and spaces after it
  Gap : ℕ → SizeScan
  -- the number, scaled by 10^28, and the state of the unit, of which at least one character is read
  UnitAt : ℕ → UnitScan → SizeScan

-- whether the character is a decimal digit
abbrev pub is_digit : ℕ → Bool
is_digit c = nat_lt (digit_value c) 10

-- the state after a space, or after the first character of a unit, that follows the number `n`, scaled by 10^28
abbrev pub after_number : ℕ → ℕ → Option SizeScan
after_number n c = if c == space then Some (Gap n) else option_map (UnitAt n) (unit_step start c)

-- the number with the whole part `w` and with `f` as the `j` digits after the point, scaled by 10^28
abbrev pub fixed_point : ℕ → ℕ → ℕ → ℕ
fixed_point w f j = w * scale + f * 10 ^ (places_of_decimal - j)

-- the state after one character more, or `None` if it cannot follow
unfoldable pub size_step : SizeScan → ℕ → Option SizeScan
size_step Beginning c = if is_digit c then Some (Whole (digit_value c)) else None
size_step (Whole w) c =
    if is_digit c
    then (if nat_lt (w * 10 + digit_value c) whole_limit then Some (Whole (w * 10 + digit_value c)) else None)
    else (if c == point then Some (Point w) else after_number (w * scale) c)
size_step (Point w) c = if is_digit c then Some (Fraction w (digit_value c) 1) else None
size_step (Fraction w f j) c =
    if is_digit c then (if nat_lt j places_of_decimal then Some (Fraction w (f * 10 + digit_value c) (j + 1)) else None)
    else after_number (fixed_point w f j) c
size_step (Gap n) c = after_number n c
size_step (UnitAt n s) c = option_map (UnitAt n) (unit_step s c)

-- the parser state that belongs to a state of the machine
abbrev pub size_parser_state : SizeScan → ParserState
size_parser_state Beginning = beginning
size_parser_state (Whole w) = in_whole
size_parser_state (Point w) = after_point
size_parser_state (Fraction w f j) = in_fraction
size_parser_state (Gap n) = before_unit
size_parser_state (UnitAt n s) = unit_parser_state s

-- the result for an input that ends after this number and this unit, or (`None`) within a unit, in `bi`
abbrev pub size_or_fault : ℕ → Option Shape → Result (ℕ × Shape) Fault
size_or_fault n (Some s) = Ok (n, s)
size_or_fault n None = Err stops_at_bi

-- the result for an input that ends in this state
abbrev pub size_at_end : Flags → SizeScan → Result (ℕ × Shape) Fault
size_at_end flags Beginning = Err no_value
size_at_end flags (Whole w) = size_or_fault (w * scale) (unit_of flags start)
size_at_end flags (Point w) = Err (not_number point)
size_at_end flags (Fraction w f j) = size_or_fault (fixed_point w f j) (unit_of flags start)
size_at_end flags (Gap n) = size_or_fault n (unit_of flags start)
size_at_end flags (UnitAt n s) = size_or_fault n (unit_of flags s)

-- the state machine of a number and a unit
abbrev pub size_scan : Flags → Scan SizeScan (ℕ × Shape)
size_scan flags = record {
  flags = flags;
  start = Beginning;
  step = size_step;
  parser_state = size_parser_state;
  at_end = size_at_end flags;
}
