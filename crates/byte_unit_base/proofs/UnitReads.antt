-- The parser of a unit: its state machine accepts exactly the spellings of units, so it returns the unit of an input,
-- or its error.
use Rattle.std.proofs.Common.{◌≡◌, ℕ, ◌⊎◌, inl, inr, List, [], ◌∷◌, ◌++◌, Result, Ok, Err, ap, subst, sym, refl, ◌∙◌}
use Rattle.std.proofs.Common.{append-nil, false, true}
use Rattle.std.specs.Str.{str_to_ascii_lowercase}
use Rattle.std.specs.Result.{result_map_both}
use Rattle.byte_unit_base.specs.Grammar.Shape.{Shape}
use Rattle.byte_unit_base.specs.Grammar.Version.{current}
use Rattle.byte_unit_base.specs.Grammar.Units.{shape_of, unit_of_shape}
use Rattle.byte_unit_base.specs.Reading.Parsed.{parsed_unit}
use Rattle.byte_unit_base.specs.Errors.Meaning.{unit_fault}
use Rattle.byte_unit_base.specs.Grammar.Spelling.{Flags, Spells}
use Rattle.byte_unit_base.specs.Grammar.SizeText.{trim_of}
use Rattle.byte_unit_base.specs.Errors.ViablePrefix.{ParserState, after_b, after_bi, after_bit, after_bits, IsWord}
use Rattle.byte_unit_base.specs.Errors.ViablePrefix.{IsPrefix, IsViableWordPrefix, IsViableUnitPrefix}
use Rattle.byte_unit_base.specs.Errors.Fault.{IsUnitFault, fault_at_end}
use Rattle.byte_unit_base.specs.Reading.Results.{IsUnitReading}
use Rattle.byte_unit_base.specs.Reading.Machines.{read, unit_step, unit_scan, unit_of, unit_at_end, scan_of}
use Rattle.byte_unit_base.specs.Reading.Machines.{word_parser_state, multiple_parser_state, IsMultipleText, SuffixPart}
use Rattle.byte_unit_base.specs.Reading.Machines.{Empty, UpperB, LowerB, Bi, Bit, Bits, Multiple, One, Decimal, Binary}
use Rattle.byte_unit_base.specs.declared.unit.Unit.{Unit as UnitName}
use Rattle.byte_unit_base.specs.declared.errors.UnitParseError.{UnitParseError}
use Rattle.byte_unit_base.proofs.Scans.{EndsIn, IsScanOf, IsAnswer, one_answer, reads_meaning, reads_fault}
use Rattle.byte_unit_base.proofs.Computed.{unit_of_its_shape}
use Rattle.byte_unit_base.proofs.UnitReached.{Reached, Reached-step, Reached-start, Spells-reached}
use Rattle.byte_unit_base.proofs.UnitRuns.{spelling_runs, unit_front_runs}

-- the text of a prefix, or of none, is a viable prefix of a unit
empty_front : (m : Multiple) (text : List ℕ) → IsMultipleText m text → IsViableUnitPrefix current (multiple_parser_state m) text
empty_front One text h = h
empty_front (Decimal p) text h = (p, false, h)
empty_front (Binary p) text h = (p, true, h)

-- the text of the prefix of a state is empty or a prefix
some_prefix : (m : Multiple) (text : List ℕ) → IsMultipleText m text → (text ≡ []) ⊎ IsPrefix current text
some_prefix One text h = inl h
some_prefix (Decimal p) text h = inr (p, false, h)
some_prefix (Binary p) text h = inr (p, true, h)

-- a prefix, or none, and a beginning of a suffix are a viable prefix of a unit
word_front : (parser_state : ParserState) (m : Multiple) (w : SuffixPart) (text : List ℕ) (r : Reached (scan_of m w) text)
    → IsWord parser_state r.word → IsViableWordPrefix current parser_state text
word_front parser_state m w text r h = record {
  prefix_part = r.front;
  word_part = r.word;
  text_is = r.text_is;
  prefix_is = some_prefix m r.front r.front_is;
  word_is = h;
}

-- the text that led to a state is a viable prefix of a unit, with the parser state of the state
pub unit_front : (m : Multiple) (w : SuffixPart) (text : List ℕ) → Reached (scan_of m w) text
    → IsViableUnitPrefix current (word_parser_state m w) text
unit_front m Empty text r =
    let e : text ≡ r.front = r.text_is ∙ (ap (λ w. r.front ++ w) r.word_is ∙ append-nil r.front) in
    subst (IsViableUnitPrefix current (multiple_parser_state m)) (sym e) (empty_front m r.front r.front_is)
unit_front m UpperB text r = word_front after_b m UpperB text r (ap str_to_ascii_lowercase r.word_is)
unit_front m LowerB text r = word_front after_b m LowerB text r (ap str_to_ascii_lowercase r.word_is)
unit_front m Bi text r = word_front after_bi m Bi text r r.word_is
unit_front m Bit text r = word_front after_bit m Bit text r r.word_is
unit_front m Bits text r = word_front after_bits m Bits text r r.word_is

-- the result for an input that ends in a state

-- an input that ends in a state spells the unit of the state, or has the error of its parser state
pub unit_ends : (flags : Flags) (m : Multiple) (w : SuffixPart) (text : List ℕ) → Reached (scan_of m w) text
    → EndsIn (Spells current flags text) (fault_at_end (word_parser_state m w)) (unit_at_end (unit_of flags (scan_of m w)))
unit_ends flags One Empty text r = (_, Spells-reached flags One Empty text _ refl r, refl)
unit_ends flags m Bi text r = refl
unit_ends flags m w text r = (_, Spells-reached flags m w text _ refl r, refl)

-- each state can be completed: a `t` makes a unit after `bi`, and elsewhere nothing is missing
unit_goes_on : (flags : Flags) (m : Multiple) (w : SuffixPart)
    → (rest : List ℕ) × (unit : Shape) × (read (unit_scan flags) (scan_of m w) rest ≡ Ok unit)
unfolding unit_step
unit_goes_on flags m Bi = (116 ∷ [], _, refl)
unit_goes_on flags m w = ([], _, refl)

-- the state machine of units accepts exactly the spellings of units, and its states are those after the viable prefixes
pub unit_scan_is : (flags : Flags) → IsScanOf (unit_scan flags) Reached (IsViableUnitPrefix current) (Spells current flags)
unit_scan_is flags = record {
  starts = Reached-start;
  steps = λ s t c text e r. Reached-step s.multiple s.word t c text e r;
  front = λ s text r. unit_front s.multiple s.word text r;
  front_read = unit_front_runs flags;
  ends = λ s text r. unit_ends flags s.multiple s.word text r;
  meaning_read = λ text unit h.
      let r = spelling_runs flags text unit h in
      record { state = r.state; run_is = r.run_is; holds = ap unit_at_end r.holds };
  goes_on = λ s. unit_goes_on flags s.multiple s.word;
}

-- a parser that returns the unit that the input spells, or its error, is right, however it found them
pub unit_reading : (flags : Flags) (bytes : List ℕ) (r : Result UnitName UnitParseError)
    → IsAnswer (Spells current flags (trim_of bytes)) (IsUnitFault current flags (trim_of bytes))
    (result_map_both shape_of unit_fault r) → IsUnitReading flags bytes r
unfolding parsed_unit
unit_reading flags bytes (Ok name) h = record {
  found = h;
  reads = λ unit k. (one_answer (unit_scan_is flags) (trim_of bytes)).one_meaning (shape_of name) unit h k;
  fault = tt;
  computed = ap Ok (sym (unit_of_its_shape name)) ∙ ap (result_map_both unit_of_shape (λ fault. fault))
      (sym (reads_meaning (unit_scan_is flags) (trim_of bytes) (shape_of name) h));
}
unit_reading flags bytes (Err error) h = record {
  found = tt;
  reads = λ unit k. (one_answer (unit_scan_is flags) (trim_of bytes)).not_both unit (unit_fault error) k h;
  fault = h;
  computed = ap (result_map_both unit_of_shape (λ fault. fault))
      (sym (reads_fault (unit_scan_is flags) (trim_of bytes) (unit_fault error) h));
}
