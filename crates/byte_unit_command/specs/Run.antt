-- What a run has done with its streams; and empty buffers.
use Rattle.std.specs.Prelude.{◌≡◌, ⊤, ℕ, List, [], Option, Result, Ok, Err, IfOk}
use Rattle.byte_unit_command.specs.Converted.{converting}
use Rattle.byte_unit_command.specs.State.{RunState, start_of}
use Rattle.byte_unit_command.specs.declared.error.EndReason.{EndReason}
use Rattle.byte_unit_command.specs.declared.options.Options.{Options}
use Rattle.byte_unit_command.specs.declared.run.RunBuffers.{RunBuffers}
use Rattle.byte_unit_command.specs.declared.streams.Streams.{Streams}
use Rattle.byte_unit_command.specs.declared.tally.Tally.{Tally}
use Rattle.byte_unit_stream.specs.Runs.{Course, IsLeft}
use Rattle.byte_unit_stream.specs.Streams.{HasReadAll}
use Rattle.byte_unit_stream.specs.declared.run.RunError.{RunError}

-- the buffers of a run are empty
abbrev pub AreEmptyRunBuffers : {A : Type 0} → RunBuffers A → Type 0
AreEmptyRunBuffers buffers =
    (buffers.part.items ≡ []) × (buffers.converter.waiting.items ≡ [])
    × (buffers.converter.notices.messages.items ≡ [])

-- how a run has ended, without what it has counted
abbrev pub ending_of : Result Tally (RunError EndReason) → Result ⊤ (RunError EndReason)
ending_of (Ok tally) = Ok tt
ending_of (Err error) = Err error

-- a run with these options ends with this result: what it has written and told is right for what it has read, and the
-- tally is what it has counted
abbrev pub IsRunOf : {R W E : Type 0} → (R → Option (List ℕ)) → (W → Option (List ℕ)) → (E → Option (List ℕ))
    → Options → Streams R W E → Streams R W E → Result Tally (RunError EndReason) → Type 0
IsRunOf remaining contents tells options old new result =
    (course : Course remaining contents tells old.reader new.reader old.writer new.writer old.errors new.errors)
    × (state : RunState)
    × IsLeft converting options.record_end (start_of options old.word.now) course.read
    (HasReadAll remaining new.reader) (ending_of result) state course.written course.messages
    × IfOk result (λ tally. tally ≡ state.tally)
