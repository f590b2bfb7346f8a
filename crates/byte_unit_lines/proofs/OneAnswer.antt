-- Lemmas: each line has exactly one answer, and each input exactly one report.
use Rattle.std.proofs.Common.{◌≡◌, ℕ, ◌++◌, ◌∷◌, List, [], true, false, true≢false, inl, inr, ◌⊎◌, refl, sym, ap, subst}
use Rattle.std.proofs.Common.{◌∙◌, codes}
use Rattle.std.specs.Str.{IsUtf8, is_utf8}
use Rattle.std.proofs.lemmas.Str.{IsUtf8-from_is_utf8, is_utf8-from_IsUtf8}
use Rattle.byte_unit_lines.specs.Answer.{Kind, ShowsSize, IsMessageFor, IsAnswer, not_text, size, rejected, words_of}
use Rattle.byte_unit_lines.specs.Laws.{EachLineHasAnAnswer, HasOneReport}
use Rattle.byte_unit_lines.specs.Lines.{lines_of}
use Rattle.byte_unit_lines.specs.Report.{AreAnswers}
use Rattle.byte_unit.specs.Sizes.Accepted.{IsAccepted, IsRejected}
use Rattle.byte_unit.specs.Grammar.Version.{current}
use Rattle.byte_unit.specs.Errors.Fault.{Fault}
use Rattle.byte_unit.specs.FormLaws.{SizeHasOneForm}
use Rattle.byte_unit.specs.NamedSpecs.{plain_spec, alternate_spec}
use Rattle.byte_unit.specs.Plain.{plain}
use Rattle.byte_unit.specs.Laws.Sizes.{TextsAreAcceptedOrRejected}
use Rattle.byte_unit_lines.proofs.Answering.{lines_have_answers}

module _ (texts : TextsAreAcceptedOrRejected) (forms : SizeHasOneForm) (kind : Kind) where
  -- each size has a message
  size_has_message : (number : ℕ) → (said : List ℕ) × ShowsSize kind number said
  size_has_message number =
      let alternate = forms current kind number alternate_spec in
      let digits = plain number plain_spec in (
        digits ++ codes " = " ++ alternate.form,
        record {
          digits = digits;
          with_unit = alternate.form;
          is_digits = refl;
          is_with_unit = alternate.is_form;
          message_is = refl;
        },
      )

  -- a size has at most one message
  size_has_one_message : (number : ℕ) (said other : List ℕ) → ShowsSize kind number said → ShowsSize kind number other → said ≡ other
  size_has_one_message number said other says also =
      let alternate = forms current kind number alternate_spec in
      let this = alternate.one says.with_unit says.is_with_unit in
      let that = alternate.one also.with_unit also.is_with_unit in
      rw (says.message_is, also.message_is, says.is_digits, also.is_digits, this, that) refl

  -- each string that is accepted or rejected has a message
  text_has_message : (text : List ℕ) → IsUtf8 text
      → ((number : ℕ) × IsAccepted kind false text number) ⊎ ((fault : Fault) × IsRejected kind false text fault)
      → (said : List ℕ) × IsMessageFor kind text said
  text_has_message text is_text (inl (number, is_accepted)) =
      let says = size_has_message number in (says.0, size number is_text is_accepted says.1)
  text_has_message text is_text (inr (fault, is_rejected)) = (words_of fault, rejected fault is_text is_rejected refl)

  -- each line has a message
  line_has_message : (line : List ℕ) → (said : List ℕ) × IsMessageFor kind line said
  line_has_message line =
      elim (is_utf8 line) as (λ text. is_utf8 line ≡ text → (said : List ℕ) × IsMessageFor kind line said) [
        | true ↦ λ is_so. text_has_message line (IsUtf8-from_is_utf8 line is_so) (texts kind false line).some
        | false ↦ λ is_not. (codes "not text", not_text (λ is_text. true≢false (sym (is_utf8-from_IsUtf8 line is_text) ∙ is_not)) refl)
      ] refl

  -- each line has an answer
  pub line_has_answer : (line : List ℕ) → (answer : List ℕ) × IsAnswer kind line answer
  line_has_answer line =
      let said = line_has_message line in
      (said.0 ++ 10 ∷ [], record { message = said.0; is_message = said.1; ended = refl })

  -- a line has at most one message
  line_has_one_message : (line said other : List ℕ) → IsMessageFor kind line said → IsMessageFor kind line other → said ≡ other
  line_has_one_message line said other (not_text _ is_said) (not_text _ also) = is_said ∙ sym also
  line_has_one_message line said other (not_text not _) (size _ is_text _ _) = absurd (not is_text)
  line_has_one_message line said other (not_text not _) (rejected _ is_text _ _) = absurd (not is_text)
  line_has_one_message line said other (size _ is_text _ _) (not_text not _) = absurd (not is_text)
  line_has_one_message line said other (size number _ is_accepted says) (size other_number _ other_accepted also) =
      let same = (texts kind false line).one_meaning number other_number is_accepted other_accepted in
      size_has_one_message other_number said other (subst (λ meant. ShowsSize kind meant said) same says) also
  line_has_one_message line said other (size number _ is_accepted _) (rejected fault _ is_rejected _) =
      absurd ((texts kind false line).not_both number fault is_accepted is_rejected)
  line_has_one_message line said other (rejected _ is_text _ _) (not_text not _) = absurd (not is_text)
  line_has_one_message line said other (rejected fault _ is_rejected _) (size number _ is_accepted _) =
      absurd ((texts kind false line).not_both number fault is_accepted is_rejected)
  line_has_one_message line said other (rejected fault _ is_rejected is_said) (rejected other_fault _ other_rejected also) =
      is_said ∙ ap words_of ((texts kind false line).one_fault fault other_fault is_rejected other_rejected) ∙ sym also

  -- a line has at most one answer
  line_has_one_answer : (line answer other : List ℕ) → IsAnswer kind line answer → IsAnswer kind line other → answer ≡ other
  line_has_one_answer line answer other answers also =
      rw (answers.ended, also.ended, line_has_one_message line _ _ answers.is_message also.is_message) refl

  -- lines have at most one list of answers
  AreAnswers-unique : (lines : List (List ℕ)) (out other : List ℕ)
      → AreAnswers kind lines out → AreAnswers kind lines other → out ≡ other
  AreAnswers-unique [] out other none also = none ∙ sym also
  AreAnswers-unique (line ∷ lines) out other answers also =
      -- five parts: the first answer, the others, that the first is one, that the others are, and that the output is
      -- all
      let first = line_has_one_answer line answers.0 also.0 answers.2 also.2 in
      rw (answers.4, also.4, first, AreAnswers-unique lines answers.1 also.1 answers.3 also.3) refl

  -- each input has exactly one report
  pub input_has_one_report : EachLineHasAnAnswer → (bytes : List ℕ) → HasOneReport kind bytes
  input_has_one_report each bytes =
      let lines = lines_of bytes in
      let answers = lines_have_answers kind (each kind) lines in record {
        report = answers.0;
        is_report = answers.1;
        is_unique = λ other also. AreAnswers-unique lines other answers.0 also answers.1;
      }
