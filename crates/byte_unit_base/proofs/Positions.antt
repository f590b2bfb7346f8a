-- Where a parser stops in a string, at the end of the longest viable prefix: the error there is that of the string, and
-- the index is its position.
--
-- Here `found` is a number and its unit, and `stop` is a state of the unit, that the text leads to it and no unit ends
-- there, and what the code keeps of it. Of an error `of`, the parts are the error, and that it is one.
use Rattle.std.proofs.Common.{◌≡◌, ◌≢◌, ℕ, ◌+◌, inr, List, [], ◌∷◌, Option, Some, None, Ok, Err, length}
use Rattle.std.proofs.Common.{take, drop, refl, sym, ap, ◌∙◌, arith, chars, IsUtf8, length-take-le, ◌≤◌, IsAscii, subst}
use Rattle.std.proofs.Common.{take-append-drop}
use Rattle.std.proofs.lemmas.Str.{IsAscii-append, IsUtf8-from_ascii}
use Rattle.byte_unit_base.specs.Grammar.Version.{current}
use Rattle.byte_unit_base.specs.Grammar.Units.{shape_of}
use Rattle.byte_unit_base.specs.Grammar.Spelling.{Flags}
use Rattle.byte_unit_base.specs.Grammar.SizeText.{trim_of}
use Rattle.byte_unit_base.specs.Errors.ViablePrefix.{ParserState}
use Rattle.byte_unit_base.specs.Errors.Fault.{Fault, fault_at, IsFaultAfter, IsFirstFault, IsSizeFault, IsUnitFault}
use Rattle.byte_unit_base.specs.Errors.Fault.{exceeded, not_number, no_value, too_long, bad_unit}
use Rattle.byte_unit_base.specs.Reading.Machines.{Scan, run, unit_step, unit_parser_state, start as unit_start}
use Rattle.byte_unit_base.specs.Reading.Machines.{size_parser_state}
use Rattle.byte_unit_base.specs.Reading.Ends.{unit_stop, IsStop, IsUnitOrStop, IsVisibleNext, IsFirst, IsStopAt}
use Rattle.byte_unit_base.specs.Reading.Ends.{IsUnitStop, stop_fault, unit_stop_fault}
use Rattle.byte_unit_base.specs.Reading.Results.{IsNumberReading, IsUnitReading}
use Rattle.byte_unit_base.specs.Errors.Position.{leading_white, IsErrorAt, IsSizePosition, IsUnitPosition, next_char}
use Rattle.byte_unit_base.specs.Errors.Position.{location_at, IsLocationOf}
use Rattle.byte_unit_base.specs.declared.errors.Location.{Location}
use Rattle.byte_unit_base.specs.declared.stop.Reason.{Reason}
use Rattle.byte_unit_base.specs.declared.unit.Unit.{Unit as UnitName}
use Rattle.byte_unit_base.specs.declared.stop.UnitStop.{UnitStop}
use Rattle.byte_unit_base.proofs.Scans.{IsScanOf, first_fault, one_answer}
use Rattle.byte_unit_base.proofs.UnitReads.{unit_scan_is, unit_reading}
use Rattle.byte_unit_base.proofs.UnitStops.{run_ascii, none_left, unit_fault_after}
use Rattle.byte_unit_base.proofs.UnitRuns.{no_other_step}
use Rattle.byte_unit_base.proofs.SizeReads.{size_scan_is, number_reading, with_shape}
use Rattle.byte_unit_base.proofs.SizeRest.{first_char, text_from, utf8_from}
use Rattle.byte_unit_base.proofs.Trim.{trim_visible, no_leading_white}

-- an error by the parser state is one under any flags, perhaps with other characters expected
any_fault : (flags other : Flags) (parser_state : ParserState) (rest : List ℕ) (fault : Fault)
    → IsFaultAfter current flags parser_state rest fault → (of : Fault) × IsFaultAfter current other parser_state rest of
any_fault flags other parser_state [] fault h = (fault, h)
any_fault flags other parser_state (c ∷ cs) fault h = (fault_at current other parser_state c, refl)

-- an input that has an error under some flags has one under any
first_fault_any : {IsViable : ParserState → List ℕ → Type 0} {text : List ℕ} {fault : Fault} (flags other : Flags)
    → IsFirstFault IsViable current flags text fault → (of : Fault) × IsFirstFault IsViable current other text of
first_fault_any flags other h =
    let of = any_fault flags other h.parser_state h.rest _ h.fault_is in
    (of.0, record { parser_state = h.parser_state; front = h.front; rest = h.rest; longest = h.longest; fault_is = of.1 })

-- if a string is a number and a unit, it has no position of an error
pub no_size_position : (flags : Flags) (bytes : List ℕ) (found : ℕ × UnitName)
    → IsNumberReading flags bytes (Ok found) → IsSizePosition bytes None
no_size_position flags bytes found reading other fault first =
    let of = first_fault_any other flags first in
    (one_answer (size_scan_is flags) (trim_of bytes)).not_both (with_shape found) of.0 reading.found of.1

-- if a string is a unit, it has no position of an error
pub no_unit_position : (flags : Flags) (bytes : List ℕ) (unit : UnitName) → IsUnitReading flags bytes (Ok unit)
    → IsUnitPosition bytes None
no_unit_position flags bytes unit reading other fault first =
    let of = first_fault_any other flags first in
    (one_answer (unit_scan_is flags) (trim_of bytes)).not_both (shape_of unit) of.0 reading.found of.1

-- `bytes` is a string, and `text` it without the white space at its ends; a state machine has a state after the text up
-- to this index, and no step for what follows
module _ {S Meaning : Type 0} {scan : Scan S Meaning} {Reached : S → List ℕ → Type 0}
    {IsViable : ParserState → List ℕ → Type 0} {Means : List ℕ → Meaning → Type 0}
    (is : IsScanOf scan Reached IsViable Means) (bytes text : List ℕ) (trimmed : chars text ≡ trim_of bytes) (index : ℕ)
    (within : index ≤ length text) (ascii : IsAscii (take index text)) (state : S)
    (run_is : run scan.step scan.start (take index text) ≡ Some state)
    (next : IsFirst (λ c. scan.step state c ≡ None) (chars (drop index text))) where
  -- the error there is that of the string
  abbrev fault_here : (fault : Fault)
      → IsFaultAfter current scan.flags (scan.parser_state state) (chars (drop index text)) fault
      → IsFirstFault IsViable current scan.flags (trim_of bytes) fault
  fault_here fault after = first_fault is state (trim_of bytes) (take index text) (chars (drop index text)) fault
      (sym trimmed ∙ text_from text index ascii) run_is next after

  -- its position is the index in the text, after the leading white space
  abbrev error_here : (position : ℕ) → position ≡ leading_white bytes + index
      → (fault : Fault) × IsFaultAfter current scan.flags (scan.parser_state state) (chars (drop index text)) fault
      → IsErrorAt IsViable scan.flags bytes position
  error_here position index_is found = record {
    fault = found.0;
    first = fault_here found.0 found.1;
    position_is = index_is ∙ ap (λ n. leading_white bytes + n) (sym (length-take-le index text within));
  }

-- where the parser of a number and a unit is stopped

-- where the parser stops in the trimmed string, it stops in the string
pub stop_in_string : (flags : Flags) (bytes text : List ℕ) (index position : ℕ) (reason : Reason) (next : Option ℕ)
    → IsUtf8 bytes → chars text ≡ trim_of bytes → IsUtf8 text → IsStopAt flags text index reason
    → next ≡ next_char (chars (drop index text)) → position ≡ leading_white bytes + index
    → IsStop flags bytes record { reason = reason; next = next; index = position }
stop_in_string flags bytes text index position reason next utf8 trimmed utf8_text stop next_is index_is =
    let at = stop.stopped utf8_text in
    let rest = chars (drop index text) in
    let error = λ (other : Flags). error_here (size_scan_is other) bytes text trimmed index stop.within stop.ascii at.state
    at.run_is at.before.0 position index_is (any_fault flags other (size_parser_state at.state) rest
    (stop_fault flags reason (next_char rest)) at.before.1) in
    record {
      utf8 = utf8;
      reading = λ error error_is.
          let first = fault_here (size_scan_is flags) bytes text trimmed index stop.within stop.ascii at.state at.run_is
          at.before.0 (stop_fault flags reason (next_char rest)) at.before.1 in
          number_reading flags bytes (Err error) (subst (IsSizeFault current flags (trim_of bytes))
          (sym (error_is ∙ ap (stop_fault flags reason) next_is)) first);
      position = error;
      location = λ other. (position, error other, ap (location_at bytes position) next_is);
    }

-- ASCII with visible ends is trimmed, so the parser stops in the string where it stops in the bytes
pub stop_in_visible : (flags : Flags) (bytes : List ℕ) (index : ℕ) (reason : Reason) (next : Option ℕ)
    → IsVisibleNext bytes index next → IsStopAt flags bytes index reason
    → IsStop flags bytes record { reason = reason; next = next; index = index }
stop_in_visible flags bytes index reason next seen stop =
    let utf8 = IsUtf8-from_ascii bytes (subst IsAscii (take-append-drop index bytes)
    (IsAscii-append (take index bytes) (drop index bytes) stop.ascii seen.ascii)) in
    stop_in_string flags bytes bytes index index reason next utf8 (sym (trim_visible bytes utf8 seen.ends)) utf8 stop
    seen.next_is (omega (arith, no_leading_white bytes utf8 seen.ends))

-- the location of each error but that of a size which is too large
pub location_of : (IsLocation : Location → Type 0) (fault : Fault) (location : Location) → ((n : ℕ) → fault ≢ exceeded n)
    → IsLocation location → IsLocationOf IsLocation fault location
location_of IsLocation (exceeded n) location within is = absurd (within n refl)
location_of IsLocation (not_number c) location within is = is
location_of IsLocation no_value location within is = is
location_of IsLocation too_long location within is = is
location_of IsLocation (bad_unit c expected may_end) location within is = is

-- where the parser of a unit stops

-- where the parser of a unit stops in the trimmed string, it stops in the string
pub unit_stop_in_string : (flags : Flags) (bytes text : List ℕ) (index position : ℕ) (kept : UnitStop) (next : Option ℕ)
    → chars text ≡ trim_of bytes → IsUtf8 text → IsUnitStop flags text kept index
    → next ≡ next_char (chars (drop index text)) → position ≡ leading_white bytes + index
    → IsUnitOrStop flags bytes (Err (record { reason = kept; next = next; index = position }))
unit_stop_in_string flags bytes text index position kept next trimmed utf8 stop next_is index_is =
    let scan = stop.0 in
    let leads = stop.1 in
    let rest = chars (drop index text) in
    let ascii = run_ascii (take index text) unit_start scan leads.run_is in
    let cannot = first_char (λ c. unit_step scan c ≡ None)
    (λ c wide. no_other_step scan.multiple scan.word c (inr (omega (arith, wide)))) (drop index text)
    (utf8_from text index utf8 leads.within ascii) leads.next in
    let ends = λ (none : rest ≡ []). stop.2 (none_left text index utf8 leads.within ascii none) in
    let fault = unit_stop_fault flags (unit_stop scan) (next_char rest) in
    let error = λ (other : Flags). error_here (unit_scan_is other) bytes text trimmed index leads.within ascii scan leads.run_is
    cannot position index_is (any_fault flags other (unit_parser_state scan) rest fault
    (unit_fault_after flags scan rest ends)) in (
      (λ error error_is.
          let first = fault_here (unit_scan_is flags) bytes text trimmed index leads.within ascii scan leads.run_is cannot
          fault (unit_fault_after flags scan rest ends) in
          let same = ap (λ kept. unit_stop_fault flags kept (next_char rest)) (sym stop.3) in
          unit_reading flags bytes (Err error) (subst (IsUnitFault current flags (trim_of bytes))
          (sym (error_is ∙ (ap (unit_stop_fault flags kept) next_is ∙ same))) first)),
      error,
      (λ other. (position, error other, ap (location_at bytes position) next_is)),
    )
