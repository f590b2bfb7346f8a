-- What a run has written, by what it has read and how it ended; and empty buffers.
use Rattle.std.specs.Prelude.{◌≡◌, ℕ, List, [], Result, Ok, Err, ⊤}
use Rattle.std.specs.declared.convert.Infallible.{Infallible}
use Rattle.byte_unit_lines.specs.Answer.{Kind}
use Rattle.byte_unit_lines.specs.Lines.{finished_lines}
use Rattle.byte_unit_lines.specs.Report.{AreAnswers, IsReport}
use Rattle.byte_unit_lines.specs.declared.report.Buffers.{Buffers}
use Rattle.byte_unit_stream.specs.declared.run.RunError.{RunError}
use Rattle.byte_unit_stream.specs.declared.run.RunError.TheVariants.{Memory, Read, Write, Ended}
use Rattle.byte_unit_stream.specs.Beginnings.{IsBeginningOf}

-- no line has begun, and no answer waits
abbrev pub AreEmpty : {Z : Type 0} → Buffers Z → Type 0
AreEmpty buffers = (buffers.line.items ≡ []) × (buffers.answers.waiting.items ≡ [])

-- the answers to the first of these lines, for some number of them, each answer whole
abbrev pub AnswerFirst : Kind → List (List ℕ) → List ℕ → Type 0
AnswerFirst kind lines written =
    (answered : List (List ℕ)) × IsBeginningOf answered lines × AreAnswers kind answered written

-- what a run has written that has read these bytes and returns this result: the whole report on `Ok`; the answers to
-- all finished lines if a read failed; the answers to some first ones of them if it was out of memory; and a beginning
-- of the report if a write failed. No line ends a run
abbrev pub IsWritten : Kind → List ℕ → Result ⊤ (RunError Infallible) → List ℕ → Type 0
IsWritten kind read (Ok _) written = IsReport kind read written
IsWritten kind read (Err Read) written = AreAnswers kind (finished_lines read) written
IsWritten kind read (Err Memory) written = AnswerFirst kind (finished_lines read) written
IsWritten kind read (Err Write) written = (report : List ℕ) × IsReport kind read report × IsBeginningOf written report
IsWritten kind read (Err (Ended _)) written = ⊥
