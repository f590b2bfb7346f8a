-- Lemmas: what a run leaves, whose step is the answer to a line, is the report on what it has read.
use Rattle.std.proofs.Common.{◌≡◌, ℕ, List, [], ◌∷◌, ◌++◌, Result, Ok, Err, OnOk, refl, sym, ap, subst, ◌∙◌}
use Rattle.std.proofs.Common.{append_assoc, append-nil, inl, inr}
use Rattle.std.specs.Prelude.{⊤}
use Rattle.std.specs.declared.convert.Infallible.{Infallible}
use Rattle.byte_unit_lines.specs.Answer.{Kind}
use Rattle.byte_unit_lines.specs.Answered.{answering}
use Rattle.byte_unit_lines.specs.Laws.{EachLineHasAnAnswer}
use Rattle.byte_unit_lines.specs.Lines.{finished_lines, lines_of, line_end}
use Rattle.byte_unit_lines.specs.Report.{AreAnswers}
use Rattle.byte_unit_lines.specs.RunOutput.{AnswerFirst, IsWritten}
use Rattle.byte_unit_lines.proofs.Answering.{AreAnswers-append, lines_have_answers}
use Rattle.byte_unit_stream.specs.Beginnings.{IsBeginningOf}
use Rattle.byte_unit_stream.specs.Chunks.{begun_record, nonempty_record}
use Rattle.byte_unit_stream.specs.Runs.{IsLeft}
use Rattle.byte_unit_stream.specs.RecordSteps.{AreSteps, IsAll, IsSomeFirst, Progress, start_at}
use Rattle.byte_unit_stream.specs.declared.run.RunError.{RunError}
use Rattle.byte_unit_stream.specs.declared.run.RunError.TheVariants.{Memory, Read, Write, Ended}
use Rattle.byte_unit_stream.proofs.ChunkRecords.{records_of-begun}
use Rattle.byte_unit_stream.proofs.Beginnings.{IsBeginningOf-longer, IsBeginningOf-self}

-- what steps have appended is the answers to their lines
AreAnswers-steps : (lines : List (List ℕ)) (old new : Progress Kind) → AreSteps answering lines old new
    → (text : List ℕ) × AreAnswers old.state lines text × (new.out ≡ old.out ++ text)
AreAnswers-steps [] old new same = ([], refl, ap (λ now. now.out) same ∙ sym (append-nil old.out))
AreAnswers-steps (line ∷ lines) old new (between, adds, rest) =
    let others = AreAnswers-steps lines between new rest in (
      adds.out ++ others.0,
      (
        adds.out,
        others.0,
        adds.step.1,
        subst (λ kind. AreAnswers kind lines others.0) adds.step.0 others.1,
        refl,
      ),
      others.2 ∙ ap (λ out. out ++ others.0) adds.out_is ∙ append_assoc old.out adds.out others.0,
    )

module _ (kind : Kind) where
  -- from the start of a run on, the output is the answers
  AreAnswers-start : (lines : List (List ℕ)) (new : Progress Kind) → AreSteps answering lines (start_at kind) new
      → AreAnswers kind lines new.out
  AreAnswers-start lines new steps =
      let answers = AreAnswers-steps lines (start_at kind) new steps in
      subst (AreAnswers kind lines) (sym answers.2) answers.1

  -- the output of all these lines is their answers
  AreAnswers-all : (lines : List (List ℕ)) (out messages : List ℕ)
      → IsAll answering lines (start_at kind) out messages → AreAnswers kind lines out
  AreAnswers-all lines out messages all =
      subst (AreAnswers kind lines) (sym all.out_is) (AreAnswers-start lines all.new all.steps)

  -- the output of the first of these lines is their answers
  AnswerFirst-first : (lines : List (List ℕ)) (out messages : List ℕ)
      → IsSomeFirst answering lines (start_at kind) out messages → AnswerFirst kind lines out
  AnswerFirst-first lines out messages at =
      (at.first, at.is_beginning, AreAnswers-all at.first out messages at.all)

  -- a beginning of the answers to first lines is a beginning of a report, since each of the other lines has an answer
  -- too
  beginning_of_report : EachLineHasAnAnswer → (read whole written : List ℕ)
      → AnswerFirst kind (finished_lines read) whole → IsBeginningOf written whole
      → IsWritten kind read (Err Write) written
  beginning_of_report each read whole written (answered, (unanswered, finished_is), are_answers) is_beginning =
      let last = nonempty_record (begun_record line_end [] read) in
      let others = unanswered ++ last in
      let rest = lines_have_answers kind (each kind) others in
      let lines : answered ++ others ≡ lines_of read =
      rw (← records_of-begun line_end read refl, finished_is, append_assoc answered unanswered last) refl in (
        whole ++ rest.0,
        subst (λ lines. AreAnswers kind lines (whole ++ rest.0)) lines
            (AreAnswers-append kind answered others whole rest.0 are_answers rest.1),
        IsBeginningOf-longer written whole rest.0 is_beginning,
      )

  -- what a run leaves whose step is the answer to a line
  pub IsWritten-left : EachLineHasAnAnswer → (read : List ℕ) (complete : Type 0)
      (result : Result ⊤ (RunError Infallible)) (state : Kind) (written messages : List ℕ)
      → IsLeft answering line_end kind read complete result state written messages
      → IsWritten kind read result written
  IsWritten-left each read complete (Ok _) state written messages (_, now, last, steps, none, written_is, _, _) =
      let same = written_is ∙ ap (λ last. now.out ++ last) none ∙ append-nil now.out in
      subst (AreAnswers kind (lines_of read)) (sym same) (AreAnswers-start (lines_of read) now steps)
  IsWritten-left each read complete (Err Read) state written messages all =
      AreAnswers-all (finished_lines read) written messages all
  IsWritten-left each read complete (Err Memory) state written messages (inl first) =
      AnswerFirst-first (finished_lines read) written messages first
  IsWritten-left each read complete (Err Memory) state written messages (inr (_, (others, all), _)) = (
    finished_lines read,
    IsBeginningOf-self (finished_lines read),
    AreAnswers-all (finished_lines read) written others all,
  )
  IsWritten-left each read complete (Err Write) state written messages (inl ((out, others, first, begins), _)) =
      beginning_of_report each read out written (AnswerFirst-first (finished_lines read) out others first) begins
  IsWritten-left each read complete (Err Write) state written messages
      (inr (_, now, last, steps, either, begins, _)) =
      let none : last ≡ [] = elim either [ inl none ↦ none | inr none ↦ none ] in (
        now.out,
        AreAnswers-start (lines_of read) now steps,
        subst (IsBeginningOf written) (ap (λ last. now.out ++ last) none ∙ append-nil now.out) begins,
      )
  IsWritten-left each read complete (Err (Ended _)) state written messages (inl stopped) = absurd stopped.ends
  IsWritten-left each read complete (Err (Ended _)) state written messages (inr (_, inl stopped)) =
      absurd stopped.ends
  IsWritten-left each read complete (Err (Ended _)) state written messages (inr (_, inr (_, _, fails, _, _))) =
      absurd fails

-- a run that succeeds has read the whole input
pub complete-left : (kind : Kind) (read : List ℕ) (complete : Type 0) (result : Result ⊤ (RunError Infallible))
    (state : Kind) (written messages : List ℕ)
    → IsLeft answering line_end kind read complete result state written messages → OnOk result complete
complete-left kind read complete (Ok _) state written messages left = left.0
complete-left kind read complete (Err _) state written messages left = tt
