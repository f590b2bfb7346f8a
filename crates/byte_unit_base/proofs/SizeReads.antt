-- The parser of a number and a unit: its state machine accepts exactly the inputs of the grammar, so it returns the
-- number and unit of an input, or its error.
--
-- Here `found` is a number and its unit. Of a state within a unit, `r.0` is what is known of the text that led to
-- it, and `r.1` that a unit has begun. Of the end of an input, `e.0` is the unit, `e.1` that it is spelled, and `e.2`
-- an equation of the result.
use Rattle.std.proofs.Common.{◌≡◌, ◌≢◌, ℕ, ◌<◌, ◌*◌, inl, inr, List, [], ◌∷◌, Option, Some, None, Result, Ok, Err}
use Rattle.std.proofs.Common.{length, sym, refl, ap, ◌∙◌, arith}
use Rattle.std.specs.Result.{result_map_both}
use Rattle.byte_unit_math.specs.Bounds.{scale}
use Rattle.byte_unit_base.specs.Grammar.Shape.{Shape}
use Rattle.byte_unit_base.specs.Grammar.Version.{current}
use Rattle.byte_unit_base.specs.Grammar.Units.{shape_of}
use Rattle.byte_unit_base.specs.Reading.Parsed.{parsed_number, number_and_unit_of_crate}
use Rattle.byte_unit_base.specs.Grammar.Spelling.{Flags, Spells}
use Rattle.byte_unit_base.specs.Grammar.SizeText.{trim_of, IsSizeText}
use Rattle.byte_unit_base.specs.Reading.Results.{IsNumberReading}
use Rattle.byte_unit_base.specs.Errors.ViablePrefix.{ParserState, beginning, in_whole, before_unit, IsViableUnitPrefix}
use Rattle.byte_unit_base.specs.Errors.ViablePrefix.{IsNumberAndUnitPrefix, IsViableSizePrefix, after_bi}
use Rattle.byte_unit_base.specs.Errors.Fault.{Fault, IsFaultAfter, IsSizeFault, fault_at_end, exceeded}
use Rattle.byte_unit_base.specs.Errors.Meaning.{size_fault}
use Rattle.byte_unit_base.specs.Laws.Readers.{Represents}
use Rattle.byte_unit_base.specs.Reading.Machines.{read, unit_step, unit_of, unit_at_end, word_parser_state, scan_of}
use Rattle.byte_unit_base.specs.Reading.Machines.{start as unit_start, UnitScan, Multiple, One, SuffixPart, Empty, Bi}
use Rattle.byte_unit_base.specs.Reading.Machines.{size_step, size_scan, size_at_end, size_parser_state, size_or_fault}
use Rattle.byte_unit_base.specs.Reading.Machines.{fixed_point, SizeScan, Beginning, Whole, Point, Fraction, Gap, UnitAt}
use Rattle.byte_unit_base.specs.declared.unit.Unit.{Unit as UnitName}
use Rattle.byte_unit_base.specs.declared.errors.ParseError.{ParseError}
use Rattle.byte_unit_base.proofs.Computed.{unit_of_its_shape}
use Rattle.byte_unit_base.proofs.Scans.{EndsIn, IsScanOf, IsAnswer, one_answer, reads_meaning, reads_fault}
use Rattle.byte_unit_base.proofs.UnitReads.{unit_front, unit_ends}
use Rattle.byte_unit_base.proofs.SizeSteps.{step_cases}
use Rattle.byte_unit_base.proofs.SizeReached.{SizeReached, SizeReached-step, UnitReached, fraction_number}
use Rattle.byte_unit_base.proofs.SizeReached.{alone, nothing_reached}
use Rattle.byte_unit_base.proofs.SizeRuns.{size_text_runs, size_front_runs}

-- the text that led to a state is a viable prefix

-- a number and a viable prefix of a unit are a viable prefix of both
front_in_unit : (n : ℕ) (s : UnitScan) (parser_state : ParserState) (text : List ℕ) (r : UnitReached n s text)
    → IsViableUnitPrefix current parser_state r.unit_part → IsNumberAndUnitPrefix current parser_state text
front_in_unit n s parser_state text r h = record {
  number_part = r.number_part;
  number = n;
  spaces = r.spaces;
  unit_part = r.unit_part;
  text_is = r.text_is;
  number_is = r.number_is;
  unit_is = h;
}

-- the text that led to a state within a unit is a viable prefix of a size
size_front_in_unit : (n : ℕ) (m : Multiple) (w : SuffixPart) (text : List ℕ) (r : UnitReached n (scan_of m w) text)
    → 0 < length r.unit_part → IsViableSizePrefix current (word_parser_state m w) text
size_front_in_unit n m Bi text r some = front_in_unit n _ after_bi text r (unit_front m Bi r.unit_part r.reached)
size_front_in_unit n One Empty text r some =
    absurd (omega (arith, some, ap length (nothing_reached r.unit_part r.reached)))
size_front_in_unit n m w text r some = front_in_unit n _ (word_parser_state m w) text r (unit_front m w r.unit_part r.reached)

-- the text that led to any state is a viable prefix of a size, with the parser state of the state
size_front : (s : SizeScan) (text : List ℕ) → SizeReached s text → IsViableSizePrefix current (size_parser_state s) text
unfolding front_in_unit
size_front Beginning text r = r
size_front (Whole w) text r = (w, r)
size_front (Point w) text r = (w, r)
size_front (Fraction w f j) text r = (fixed_point w f j, fraction_number w f j text r)
size_front (Gap n) text r =
    (front_in_unit n unit_start before_unit text r.0 (nothing_reached r.0.unit_part r.0.reached), r.1)
size_front (UnitAt n s) text r = size_front_in_unit n s.multiple s.word text r.0 r.1

-- the result for an input that ends in a state

-- an input that ends after a number and a unit has the result that the unit has alone, with the number
unit_at_end_of : (flags : Flags) (n : ℕ) (text unit_part : List ℕ)
    → ((unit : Shape) → Spells current flags unit_part unit → IsSizeText current flags text n unit)
    → (fault : Option Fault) (unit : Option Shape) → EndsIn (Spells current flags unit_part) fault (unit_at_end unit)
    → EndsIn (Represents flags text) fault (size_or_fault n unit)
unit_at_end_of flags n text unit_part states (Some fault) None e = cc
unit_at_end_of flags n text unit_part states (Some fault) (Some unit) e = absurd (let k : ⊥ = cc in k)
unit_at_end_of flags n text unit_part states None None e = absurd (let k : ⊥ = cc (e.2) in k)
unit_at_end_of flags n text unit_part states None (Some unit) e =
    let same : unit ≡ e.0 = cc (e.2) in ((n, e.0), states e.0 e.1, ap (λ x. Ok (n, x)) same)

-- so an input that ends after a number, spaces and what led to a state of units has the result of this state
ends_in_unit : (flags : Flags) (n : ℕ) (s : UnitScan) (text : List ℕ) → UnitReached n s text
    → EndsIn (Represents flags text) (fault_at_end (word_parser_state s.multiple s.word)) (size_or_fault n (unit_of flags s))
ends_in_unit flags n s text r =
    unit_at_end_of flags n text r.unit_part
    (λ unit h. record {
      number_part = r.number_part;
      spaces = r.spaces;
      unit_part = r.unit_part;
      text_is = r.text_is;
      number_is = r.number_is;
      unit_is = h;
    })
    (fault_at_end (word_parser_state s.multiple s.word)) (unit_of flags s)
    (unit_ends flags s.multiple s.word r.unit_part r.reached)

-- an input that ends in a state has the error of its parser state, or is a number and a unit
size_ends : (flags : Flags) (s : SizeScan) (text : List ℕ) → SizeReached s text
    → EndsIn (Represents flags text) (fault_at_end (size_parser_state s)) (size_at_end flags s)
size_ends flags Beginning text r = refl
size_ends flags (Whole w) text r =
    ends_in_unit flags (w * scale) unit_start text (alone (w * scale) text (inl (w, r, refl)))
size_ends flags (Point w) text r = refl
size_ends flags (Fraction w f j) text r =
    let number = inr (fraction_number w f j text r) in
    ends_in_unit flags (fixed_point w f j) unit_start text (alone (fixed_point w f j) text number)
size_ends flags (Gap n) text r = ends_in_unit flags n unit_start text r.0
size_ends flags (UnitAt n s) text r = ends_in_unit flags n s text r.0

-- a digit completes a number at the beginning and after the point, a `t` completes `bi`, and nothing is missing
-- elsewhere

-- the input can be completed: from this state some rest, or none, gives a number and a unit. That viable prefixes are
-- exactly the beginnings of valid inputs rests on it
abbrev GoesOn : Flags → SizeScan → Type 0
GoesOn flags s = (rest : List ℕ) × (found : ℕ × Shape) × (read (size_scan flags) s rest ≡ Ok found)

-- within a unit, only `bi` must be completed: by a `t` (116)
goes_on_in_unit : (flags : Flags) (n : ℕ) (m : Multiple) (w : SuffixPart) → GoesOn flags (UnitAt n (scan_of m w))
unfolding size_step unit_step
goes_on_in_unit flags n m Bi = (116 ∷ [], (n, _), refl)
goes_on_in_unit flags n m w = ([], (n, _), refl)

-- each state can be completed, at the beginning and after the point by a `0` (48)
size_goes_on : (flags : Flags) (s : SizeScan) → GoesOn flags s
unfolding size_step
size_goes_on flags Beginning = (48 ∷ [], (_, _), refl)
size_goes_on flags (Whole w) = ([], (_, _), refl)
size_goes_on flags (Point w) = (48 ∷ [], (_, _), refl)
size_goes_on flags (Fraction w f j) = ([], (_, _), refl)
size_goes_on flags (Gap n) = ([], (n, _), refl)
size_goes_on flags (UnitAt n s) = goes_on_in_unit flags n s.multiple s.word

-- the state machine of sizes accepts exactly the numbers and units of the grammar, and its states are those after the
-- viable prefixes
pub size_scan_is : (flags : Flags) → IsScanOf (size_scan flags) SizeReached (IsViableSizePrefix current) (Represents flags)
size_scan_is flags = record {
  starts = refl;
  steps = λ s t c text e r. SizeReached-step s t c text (step_cases s t c e) r;
  front = size_front;
  front_read = size_front_runs flags;
  ends = size_ends flags;
  meaning_read = λ text found h. size_text_runs flags text found.0 found.1 h;
  goes_on = size_goes_on flags;
}

-- no parser state gives the error of a size that is too large
pub no_bounds_after : (flags : Flags) (rest : List ℕ) (parser_state : ParserState) (fault : Fault) (n : ℕ)
    → IsFaultAfter current flags parser_state rest fault → fault ≢ exceeded n
no_bounds_after flags [] beginning fault n h = λ e. grind (arith, h, e)
no_bounds_after flags (c ∷ cs) in_whole fault n h = λ e. grind (arith, h, e)
no_bounds_after flags _ _ fault n h = λ e. grind (arith, h, e)

-- what the contracts of the parsers say

-- the number and unit that the code returns, with the unit as a `Shape`
abbrev pub with_shape : ℕ × UnitName → ℕ × Shape
with_shape found = (found.0, shape_of found.1)

-- a parser that returns the number and unit of the input, or its error, is right, however it found them
pub number_reading : (flags : Flags) (bytes : List ℕ) (r : Result (ℕ × UnitName) ParseError)
    → IsAnswer (Represents flags (trim_of bytes)) (IsSizeFault current flags (trim_of bytes))
    (result_map_both with_shape size_fault r) → IsNumberReading flags bytes r
unfolding parsed_number
number_reading flags bytes (Ok found) h = record {
  found = h;
  reads = λ n unit k.
      let same = (one_answer (size_scan_is flags) (trim_of bytes)).one_meaning (with_shape found) (n, unit) h k in
      (ap (λ x. x.0) same, ap (λ x. x.1) same);
  fault = tt;
  no_bounds = tt;
  computed = ap (λ unit. Ok (found.0, unit)) (sym (unit_of_its_shape found.1))
      ∙ ap (result_map_both number_and_unit_of_crate (λ fault. fault))
      (sym (reads_meaning (size_scan_is flags) (trim_of bytes) (with_shape found) h));
}
number_reading flags bytes (Err error) h = record {
  found = tt;
  reads = λ n unit k.
      (one_answer (size_scan_is flags) (trim_of bytes)).not_both (n, unit) (size_fault error) k h;
  fault = h;
  no_bounds = λ n. no_bounds_after flags h.rest h.parser_state (size_fault error) n h.fault_is;
  computed = ap (result_map_both number_and_unit_of_crate (λ fault. fault))
      (sym (reads_fault (size_scan_is flags) (trim_of bytes) (size_fault error) h));
}
