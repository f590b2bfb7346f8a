-- Sizes in words: the text is ASCII, so that its bytes are its characters, and the parser of a number and a unit reads
-- what is before the word.
use Rattle.std.proofs.Common.{◌≡◌, ℕ, suc, ◌<◌, List, [], ◌∷◌, true, false, refl, sym, ap, ap₂, ◌∙◌, subst, length, take}
use Rattle.std.proofs.Common.{drop, Option, Some, None, Ok, Err, IsUtf8, IsAscii, chars, arith, ⊎_elim, option_and_then, if◌then◌else◌}
use Rattle.std.proofs.lemmas.Bool.{and_from, and_parts, cond-true, cond-false, ltb-true, lt-ltb, cases_Bool}
use Rattle.std.proofs.lemmas.Str.{chars-IsAscii, encodes-IsAscii, encodes-chars, IsUtf8-from_ascii}
use Rattle.std.proofs.lemmas.Str.Ascii.{IsAscii-nil, IsAscii-cons}
use Rattle.std.specs.List.{list_all}
use Rattle.std.specs.Char.{is_ascii}
use Rattle.std.specs.Str.{IsNotAscii}
use Rattle.byte_unit_base.specs.Grammar.Shape.{Shape}
use Rattle.byte_unit_base.specs.Grammar.Spelling.{Flags}
use Rattle.byte_unit_base.specs.Grammar.Version.{current}
use Rattle.byte_unit_base.specs.Grammar.SizeText.{IsSizeText}
use Rattle.byte_unit_base.specs.Reading.Words.{unit_of_word, word_start, of_unit, measure_of, measure_of_text}
use Rattle.byte_unit_base.specs.Reading.Machines.{read, size_scan, Beginning}
use Rattle.byte_unit_base.specs.Reading.Ends.{IsStopAt, stop_fault}
use Rattle.byte_unit_base.specs.Errors.Position.{next_char}
use Rattle.byte_unit_base.specs.declared.stop.Reason.{Reason}
use Rattle.byte_unit_base.proofs.Scans.{reads_meaning, reads_fault, first_fault}
use Rattle.byte_unit_base.proofs.SizeReads.{size_scan_is}
use Rattle.byte_unit_base.proofs.SizeRest.{text_from}

-- each byte of ASCII passes the test
ascii_passes : (text : List ℕ) → IsAscii text → list_all is_ascii text ≡ true
ascii_passes [] ascii = refl
ascii_passes (c ∷ cs) ascii = and_from _ _ (lt-ltb c 128 (ascii 0)) (ascii_passes cs (λ i. ascii (suc i)))

-- characters that all pass the test are ASCII
passes_ascii : (text : List ℕ) → list_all is_ascii text ≡ true → IsAscii text
passes_ascii [] all = IsAscii-nil
passes_ascii (c ∷ cs) all =
    let both = and_parts _ _ all in IsAscii-cons c cs (ltb-true c 128 both.0) (passes_ascii cs both.1)

-- a string that is not ASCII has a character that does not pass
other_fails : (bytes : List ℕ) → IsUtf8 bytes → IsNotAscii bytes → list_all is_ascii (chars bytes) ≡ false
other_fails bytes utf8 other = ⊎_elim
    (λ all.
    let ascii = passes_ascii (chars bytes) all in
    let same : chars bytes ≡ bytes = sym (encodes-IsAscii (chars bytes) ascii) ∙ encodes-chars bytes utf8 in
    let bound = subst IsAscii same ascii other.0 in absurd (omega (arith, other.1, bound)))
    (λ some. some)
    (cases_Bool (list_all is_ascii (chars bytes)))

-- what is said of a string of ASCII alone, by its bytes
pub of_ascii : {A : Type 0} (of : List ℕ → Option A) (bytes text : List ℕ) → bytes ≡ text → IsAscii text
    → of bytes ≡ (if list_all is_ascii (chars text) then of (chars text) else None)
of_ascii of bytes text same ascii =
    ap of (same ∙ sym (chars-IsAscii text ascii))
    ∙ sym (cond-true _ _ None (ap (list_all is_ascii) (chars-IsAscii text ascii) ∙ ascii_passes text ascii))

-- it is not said of any other
pub of_other : {A : Type 0} (of : List ℕ → Option A) (text : List ℕ) → IsUtf8 text → IsNotAscii text
    → None ≡ (if list_all is_ascii (chars text) then of (chars text) else None)
of_other of text utf8 other = sym (cond-false _ _ None (other_fails text utf8 other))

-- the number of what is before the word, a size by itself, with the unit of the word
pub number_before : (flags : Flags) (before : List ℕ) (number : ℕ) (own unit : Shape)
    → IsSizeText current flags before number own
    → of_unit unit (read (size_scan flags) Beginning before) ≡ Some (number, unit)
number_before flags before number own unit is =
    ap (of_unit unit) (reads_meaning (size_scan_is flags) before (number, own) is)

-- a text of ASCII in which the parser stops has the error there
pub stopped : (flags : Flags) (text : List ℕ) (index : ℕ) (reason : Reason) → IsAscii text
    → IsStopAt flags text index reason
    → read (size_scan flags) Beginning text ≡ Err (stop_fault flags reason (next_char (chars (drop index text))))
stopped flags text index reason ascii stop =
    let at = stop.stopped (IsUtf8-from_ascii text ascii) in
    let fault = stop_fault flags reason (next_char (chars (drop index text))) in
    reads_fault (size_scan_is flags) text fault
    (first_fault (size_scan_is flags) at.state text (take index text) (chars (drop index text)) fault
    (sym (chars-IsAscii text ascii) ∙ text_from text index stop.ascii) at.run_is at.before.0 at.before.1)

-- the number and the unit of a text, by its parts and its word
pub measured : (flags : Flags) (text : List ℕ) (start : ℕ) (before word : List ℕ) (unit : Option Shape)
    (found : Option (ℕ × Shape)) → start ≡ word_start text → before ≡ take start text → word ≡ drop start text
    → unit_of_word word ≡ unit
    → option_and_then (λ unit. of_unit unit (read (size_scan flags) Beginning before)) unit ≡ found
    → found ≡ measure_of_text flags text
measured flags text start before word unit found start_is before_is word_is unit_is same =
    let number = λ (unit : Option Shape).
    option_and_then (λ unit. of_unit unit (read (size_scan flags) Beginning before)) unit in
    sym same ∙ ap number (sym unit_is) ∙ ap₂ (measure_of flags) before_is word_is
    ∙ ap (λ start. measure_of flags (take start text) (drop start text)) start_is
