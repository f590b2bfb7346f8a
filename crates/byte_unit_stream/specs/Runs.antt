-- What a run leaves in its streams, by the records that it has read and how it ended.
use Rattle.std.specs.Prelude.{◌≡◌, ◌⊎◌, ⊤, IsTrue, Bool, false, ℕ, List, [], ◌++◌, Option, Result, Ok, Err}
use Rattle.byte_unit_stream.specs.Beginnings.{IsBeginningOf}
use Rattle.byte_unit_stream.specs.Records.{records_of, finished_records}
use Rattle.byte_unit_stream.specs.RecordSteps.{AreSteps, IsAll, IsSomeFirst, IsEndedEarly, Progress, Relation, start_at}
use Rattle.byte_unit_stream.specs.Streams.{HasRead, HasWritten, writing_failed}
use Rattle.byte_unit_stream.specs.declared.reader.Reading.{Reading}
use Rattle.byte_unit_stream.specs.declared.run.RunError.{RunError}
use Rattle.byte_unit_stream.specs.declared.run.RunError.TheVariants.{Memory, Read, Write, Ended}
use Rattle.byte_unit_stream.specs.declared.writer.Writing.{Writing}

-- of these messages, what was told: all of them, or a beginning if a write to standard error failed
pub record IsTold (failed : Bool) (messages told : List ℕ) : Type 0 where
  pub begins : IsBeginningOf told messages
  pub all : failed ≡ false → told ≡ messages

-- from one state of standard error to another one, something was told of these messages: nothing if a write had failed
-- before
abbrev pub HasTold : {E : Type 0} → (E → Option (List ℕ)) → Writing E → Writing E → List ℕ → Type 0
HasTold tells old new messages =
    (told : List ℕ) × HasWritten tells old new told × IsTold (writing_failed new) messages told
    × (IsTrue (writing_failed old) → (told ≡ []) × IsTrue (writing_failed new))

-- from the old streams to the new ones, exactly these bytes were read and written, and this was told of these messages.
-- `remaining`, `contents` and `tells` are those of the reader, the writer and standard error
pub record Course {R W E : Type 0} (remaining : R → Option (List ℕ)) (contents : W → Option (List ℕ))
    (tells : E → Option (List ℕ)) (old_reader reader : Reading R) (old_writer writer : Writing W)
    (old_errors errors : Writing E) : Type 0 where
  pub read : List ℕ
  pub written : List ℕ
  pub messages : List ℕ
  pub told : List ℕ
  pub has_read : HasRead remaining old_reader reader read
  pub has_written : HasWritten contents old_writer writer written
  pub has_told : HasWritten tells old_errors errors told
  pub is_told : IsTold (writing_failed errors) messages told

-- what a call has written that appends what follows the last record, and writes all that waits: nothing if it is out of
-- memory; a beginning if a write fails; and all but what follows the last record if there is a reason not to write that
abbrev pub IsEnd : {S E : Type 0} → Relation S E → Progress S → S → Result ⊤ (RunError E) → List ℕ → Type 0
IsEnd relation old state (Ok _) written =
    (last : List ℕ) × relation.closes old.state last × (written ≡ old.out ++ last) × (state ≡ old.state)
IsEnd relation old state (Err Memory) written = written ≡ []
IsEnd relation old state (Err (Ended reason)) written = relation.fails old.state reason × (written ≡ old.out)
IsEnd relation old state (Err Write) written =
    (last : List ℕ) × ((last ≡ []) ⊎ relation.closes old.state last) × IsBeginningOf written (old.out ++ last)
IsEnd relation old state (Err Read) written = ⊥

-- what a run has written and told that has read these bytes and ends with this result: the output of all records, and
-- what follows the last one; that of all finished records if a read failed; that of some first ones of them if it was
-- out of memory; a beginning if a write failed; that of the records before the one that ended the run; or that of all
-- records, if the end of the input did. So for the messages; those about the last record are told before it is written.
-- A last record without its end byte is converted, and something follows it, only if `complete`: the input was read to
-- its end
abbrev pub IsLeft : {S E : Type 0} → Relation S E → ℕ → S → List ℕ → Type 0 → Result ⊤ (RunError E) → S → List ℕ
    → List ℕ → Type 0
IsLeft {S} relation end start read complete (Ok _) state written messages =
    complete × (now : Progress S) × (last : List ℕ) × AreSteps relation (records_of end read) (start_at start) now
    × relation.closes now.state last × (written ≡ now.out ++ last) × (messages ≡ now.messages) × (state ≡ now.state)
IsLeft relation end start read complete (Err Read) state written messages =
    IsAll relation (finished_records end read) (start_at start) written messages
IsLeft relation end start read complete (Err Memory) state written messages =
    IsSomeFirst relation (finished_records end read) (start_at start) written messages
    ⊎ complete × ((others : List ℕ) × IsAll relation (finished_records end read) (start_at start) written others)
    × ((out : List ℕ) × IsAll relation (records_of end read) (start_at start) out messages)
IsLeft {S} relation end start read complete (Err Write) state written messages =
    ((out others : List ℕ) × IsSomeFirst relation (finished_records end read) (start_at start) out others
    × IsBeginningOf written out)
    × ((out : List ℕ) × IsSomeFirst relation (finished_records end read) (start_at start) out messages)
    ⊎ complete × (now : Progress S) × (last : List ℕ)
    × AreSteps relation (records_of end read) (start_at start) now
    × ((last ≡ []) ⊎ relation.closes now.state last) × IsBeginningOf written (now.out ++ last)
    × (messages ≡ now.messages)
IsLeft {S} relation end start read complete (Err (Ended reason)) state written messages =
    IsEndedEarly relation (finished_records end read) (start_at start) reason written messages
    ⊎ complete × (IsEndedEarly relation (records_of end read) (start_at start) reason written messages
    ⊎ (now : Progress S) × AreSteps relation (records_of end read) (start_at start) now
    × relation.fails now.state reason × (written ≡ now.out) × (messages ≡ now.messages))
