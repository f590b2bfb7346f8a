-- The parser of a unit stops after the longest beginning of a unit, in the state that the state machine has there.
--
-- Of a walk `w`, `w.0` is the state where it ends, and `w.1` its length. Of a step `u`, `u.0` is the state after it.
-- What is known of a walk, as `h`, is that its length is within the text, its run, and that no step follows.
use Rattle.std.proofs.Common.{◌≡◌, ℕ, ◌+◌, ◌≤◌, List, [], ◌∷◌, ◌++◌, Some, None, length, take, drop, refl}
use Rattle.std.proofs.Common.{sym, ap, ◌∙◌, arith, inl, inr, length-drop, replicate, one-add, chars}
use Rattle.std.proofs.Common.{encode_utf8_all, IsUtf8, IsAscii, take_all}
use Rattle.std.proofs.lemmas.Str.{encodes-chars, chars-IsAscii}
use Rattle.byte_unit_base.specs.Grammar.Shape.{Shape}
use Rattle.byte_unit_base.specs.Grammar.Version.{current}
use Rattle.byte_unit_base.specs.Grammar.Spelling.{Flags, Spells}
use Rattle.byte_unit_base.specs.Reading.Machines.{run, unit_step, unit_of, unit_parser_state, word_parser_state}
use Rattle.byte_unit_base.specs.Reading.Machines.{scan_of, start, UnitScan, Multiple, One, SuffixPart, Empty, Bi}
use Rattle.byte_unit_base.specs.Reading.Ends.{unit_stop, stop_parser_state, IsAfterLine, IsFirst, IsLeadingUnit}
use Rattle.byte_unit_base.specs.Reading.Ends.{unit_stop_fault}
use Rattle.byte_unit_base.specs.Errors.Fault.{fault_at, fault_at_end, stops_at_bi, IsFaultAfter}
use Rattle.byte_unit_base.specs.Errors.Position.{next_char}
use Rattle.byte_unit_base.proofs.Options.{none_or_some}
use Rattle.byte_unit_base.proofs.Scans.{reached}
use Rattle.byte_unit_base.proofs.UnitReached.{Spells-reached}
use Rattle.byte_unit_base.proofs.UnitRuns.{spelling_runs, no_other_step}
use Rattle.byte_unit_base.proofs.UnitReads.{unit_scan_is}
use Rattle.byte_unit_base.proofs.SizeAscii.{run_visible, visible_ascii}
use Rattle.byte_unit_base.proofs.SizeRest.{utf8_from}

-- beginnings of units are ASCII

-- what the state machine reads is ASCII
pub run_ascii : (text : List ℕ) (s t : UnitScan) → run unit_step s text ≡ Some t → IsAscii text
run_ascii text s t e = visible_ascii text (run_visible text s t e)

-- the text of a unit is ASCII, so its bytes are its characters
pub spelled_chars : (flags : Flags) (bytes : List ℕ) (unit : Shape) → Spells current flags bytes unit
    → chars bytes ≡ bytes
spelled_chars flags bytes unit h = chars-IsAscii bytes (run_ascii bytes start _ (spelling_runs flags bytes unit h).run_is)

-- if the beginning of a unit is all that there is, it spells the unit of its state
pub spelled : (flags : Flags) (bytes : List ℕ) (scan : UnitScan) (unit : Shape) (index : ℕ)
    → IsLeadingUnit bytes scan index → index ≡ length bytes → unit_of flags scan ≡ Some unit
    → Spells current flags bytes unit
spelled flags bytes scan unit index leads all e =
    let whole : take index bytes ≡ bytes = take_all index bytes (omega (arith, all)) in
    Spells-reached flags scan.multiple scan.word bytes unit e
    (reached (unit_scan_is flags) bytes scan (ap (run unit_step start) (sym whole) ∙ leads.run_is))

-- where the parser stops

-- what the code keeps of a state has its parser state
kept_state : (m : Multiple) (w : SuffixPart)
    → unit_parser_state (scan_of m w) ≡ stop_parser_state (unit_stop (scan_of m w))
kept_state One Empty = refl
kept_state m Empty = refl
kept_state m _ = refl

-- if no unit ends in a state, an input that ends there has the error of one that ends in `bi`
no_unit : (flags : Flags) (m : Multiple) (w : SuffixPart) → unit_of flags (scan_of m w) ≡ None
    → fault_at_end (word_parser_state m w) ≡ Some stops_at_bi
no_unit flags m Bi none = refl
no_unit flags m w none = absurd (let z : ⊥ = cc in z)

-- the error of the state at what follows is that of what is kept of it
pub unit_fault_after : (flags : Flags) (scan : UnitScan) (rest : List ℕ) → (rest ≡ [] → unit_of flags scan ≡ None)
    → IsFaultAfter current flags (unit_parser_state scan) rest (unit_stop_fault flags (unit_stop scan) (next_char rest))
unit_fault_after flags scan [] ends = no_unit flags scan.multiple scan.word (ends refl)
unit_fault_after flags scan (c ∷ cs) ends =
    ap (λ state. fault_at current flags state c) (sym (kept_state scan.multiple scan.word))

-- if no character is left after the first bytes, which are ASCII, these are all of the bytes
pub none_left : (bytes : List ℕ) (index : ℕ) → IsUtf8 bytes → index ≤ length bytes → IsAscii (take index bytes)
    → chars (drop index bytes) ≡ [] → index ≡ length bytes
none_left bytes index utf8 within ascii none =
    let rest = drop index bytes in
    let empty : rest ≡ [] =
    sym (encodes-chars rest (utf8_from bytes index utf8 within ascii)) ∙ ap encode_utf8_all none in
    omega (arith, within, length-drop index bytes, ap length empty)

-- the longest beginning of a unit

-- the state after the longest beginning of a unit that is read from this state, and its length
abbrev pub walk : UnitScan → List ℕ → UnitScan × ℕ
walk s [] = (s, 0)
walk s (c ∷ cs) = elim (unit_step s c) [ Some t ↦ (let w = walk t cs in (w.0, 1 + w.1)) | None ↦ (s, 0) ]

-- no letter follows a line, so as much is read of the line alone
pub walk_line : (line after : List ℕ) (s : UnitScan) → IsAfterLine after
    → walk s (line ++ (after ++ replicate 8 0)) ≡ walk s line
walk_line [] [] s ends = rw (no_other_step s.multiple s.word 0 (inl (omega arith)), walk) refl
walk_line [] (c ∷ after) s ends = rw (no_other_step s.multiple s.word c (inl (omega (arith, ends))), walk) refl
walk_line (c ∷ line) after s ends = λ i.
    elim (unit_step s c) [ Some t ↦ (let w = walk_line line after t ends i in (w.0, 1 + w.1)) | None ↦ (s, 0) ]

-- as much is read, and no step follows
walk_is : (text : List ℕ) (s : UnitScan) → let w = walk s text in (w.1 ≤ length text)
    × (run unit_step s (take w.1 text) ≡ Some w.0) × IsFirst (λ c. unit_step w.0 c ≡ None) (drop w.1 text)
walk_is [] s = (omega arith, refl, tt)
walk_is (c ∷ cs) s = elim (none_or_some (unit_step s c)) [
  | inl e ↦ rw (e, walk) (omega arith, refl, e)
  | inr u ↦ let h = walk_is cs u.0 in rw (u.1, walk, one-add) (omega (arith, h.0), rw u.1 h.1, h.2)
]

-- what is read from the start is the longest beginning of a unit
pub walk_leads : (text : List ℕ) (scan : UnitScan) (end : ℕ) → walk start text ≡ (scan, end)
    → IsLeadingUnit text scan end
walk_leads text scan end e =
    let h = rw e at (walk_is text start) in record { within = h.0; run_is = h.1; next = h.2 }
