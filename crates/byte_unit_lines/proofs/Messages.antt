-- Lemmas: the bytes that are appended for a line are its answer.
use Rattle.std.proofs.Common.{◌≡◌, ℕ, ◌+◌, List, [], ◌∷◌, ◌++◌, false, if◌then◌else◌, codes, refl, sym, ap, ◌∙◌, ◌<◌}
use Rattle.std.proofs.Common.{append_assoc, append-nil, set, Result, Ok, Err, OnOk, is_ok, length, take}
use Rattle.std.specs.Prelude.{⊤, Some, None}
use Rattle.std.specs.Fmt.{decimal}
use Rattle.std.proofs.lemmas.List.{take_more_set}
use Rattle.byte_unit.specs.Errors.Meaning.{size_fault}
use Rattle.byte_unit.specs.Reading.Results.{IsBytesReading}
use Rattle.byte_unit.specs.declared.ParseError.{ParseError}
use Rattle.byte_unit.specs.WithDigits.{IsTextWithDigits}
use Rattle.byte_unit_lines.specs.Answer.{Kind, IsAnswer, ShowsSize, words_of, not_text, size, rejected}
use Rattle.byte_unit_lines.specs.Answered.{AddsAnswer}

-- a call that appends an answer if it succeeds has appended it on `Ok`
adds_answer : {E : Type 0} {kind : Kind} {line added new : List ℕ} (result : Result ⊤ E) (old : List ℕ)
    → IsAnswer kind line added → new ≡ (if is_ok result then old ++ added else old)
    → OnOk result (AddsAnswer kind line old new)
adds_answer {added = added} (Ok _) old is_answer is_added = (added, is_answer, is_added)
adds_answer (Err _) old is_answer is_added = tt

module _ {E : Type 0} {new : List ℕ} (kind : Kind) (line : List ℕ) (result : Result ⊤ E) (old : List ℕ) where
  -- the bytes that are appended for a line that is a size are its answer: the digits, ` = `, the size with a unit, and
  -- a line end (10)
  pub adds_size : {number count : ℕ} (bytes : List ℕ) → IsBytesReading kind false line (Some (Ok number))
      → IsTextWithDigits kind number (codes " = ") (take count bytes) → count < length bytes
      → new ≡ (if is_ok result then old ++ take (count + 1) (set bytes count 10) else old)
      → OnOk result (AddsAnswer kind line old new)
  adds_size {number} {count} bytes reading written room =
      let digits = decimal number in
      let message = digits ++ codes " = " ++ written.form in
      let message_is = written.text_is ∙ sym (append_assoc digits (codes " = ") written.form) in
      let shows : ShowsSize kind number message = record {
        digits = digits;
        with_unit = written.form;
        is_digits = sym (append-nil digits);
        is_with_unit = written.is_form;
        message_is = refl;
      } in
      adds_answer result old (record {
        message = message;
        is_message = size number reading.0 reading.1.found shows;
        ended = take_more_set bytes count 10 room ∙ ap (λ message. message ++ 10 ∷ []) message_is;
      })

  -- the bytes that are appended for a line with a parse error are its answer: the words for the error and a line end
  -- (10)
  pub adds_error : {error : ParseError} {all : List ℕ} → IsBytesReading kind false line (Some (Err error))
      → all ≡ words_of (size_fault error) ++ 10 ∷ [] → new ≡ (if is_ok result then old ++ all else old)
      → OnOk result (AddsAnswer kind line old new)
  adds_error {error} reading ended =
      let is_message = rejected (size_fault error) reading.0 reading.1.fault refl in
      adds_answer result old (record { message = words_of (size_fault error); is_message = is_message; ended = ended })

  -- the bytes that are appended for a line that is not UTF-8 are its answer: `not text` and a line end (10)
  pub adds_not_text : IsBytesReading kind false line None
      → new ≡ (if is_ok result then old ++ (codes "not text" ++ 10 ∷ []) else old)
      → OnOk result (AddsAnswer kind line old new)
  adds_not_text reading =
      adds_answer result old (record { message = codes "not text"; is_message = not_text reading.0 refl; ended = refl })
