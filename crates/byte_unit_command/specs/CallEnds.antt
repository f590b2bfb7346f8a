-- Private: how far a converter has come, and how the calls end that convert fields.
use Rattle.std.specs.Prelude.{◌≡◌, ◌⊎◌, ⊤, ℕ, List, [], ◌∷◌, ◌++◌, Some, Result, MatchResult}
use Rattle.byte_unit_command.specs.Converted.{IsRejectedRecord}
use Rattle.byte_unit_command.specs.Fields.{between_of}
use Rattle.byte_unit_command.specs.Messages.{AreLimitMessages}
use Rattle.byte_unit_command.specs.Output.{AreFieldOutputs, AreMessagesToRejected, Output, Passes, together}
use Rattle.byte_unit_command.specs.State.{Context as ContextOfRecord, RunState}
use Rattle.byte_unit_command.specs.Sums.{Counts}
use Rattle.byte_unit_command.specs.declared.converter.Converter.{Converter}
use Rattle.byte_unit_command.specs.declared.error.EndReason.{EndReason}
use Rattle.byte_unit_command.specs.declared.error.EndReason.TheVariants.{Rejected}
use Rattle.byte_unit_command.specs.declared.notice.Notices.{Notices}
use Rattle.byte_unit_command.specs.declared.notice.Context.{Context}
use Rattle.byte_unit_command.specs.declared.options.Invalid.TheVariants.{Abort}
use Rattle.byte_unit_stream.specs.Beginnings.{IsBeginningOf}
use Rattle.byte_unit_stream.specs.RecordSteps.{Progress}
use Rattle.byte_unit_stream.specs.declared.run.RunError.{RunError}
use Rattle.byte_unit_stream.specs.declared.run.RunError.TheVariants.{Memory, Ended}

-- the messages that are not written yet
abbrev pub messages_of : {A : Type 0} → Notices A → List ℕ
messages_of notices = notices.messages.items

-- the context of a record, as the definitions say it
abbrev pub context_of : Context → ContextOfRecord
context_of context = record { options = context.options.now; word = context.word.now; number = context.number }

-- how far a converter has come
abbrev pub state_of : {A : Type 0} → Converter A → Progress RunState
state_of converter = record {
  state = record { context = context_of converter.context; header = converter.header; tally = converter.tally };
  out = converter.waiting.items;
  messages = messages_of converter.notices;
}

-- an output was appended, and what is found in it was counted
pub record Appends (output : Output) (old new : Progress RunState) : Type 0 where
  pub state_is : new.state ≡ record old.state { tally = new.state.tally }
  pub counts : Counts old.state.context.options old.state.tally output.found new.state.tally
  pub out_is : new.out ≡ old.out ++ output.text
  pub messages_are : new.messages ≡ old.messages ++ output.messages

-- what these fields give was appended, the first of which has this number
pub record AddsFields (number : ℕ) (fields : List (List ℕ)) (old new : Progress RunState) : Type 0 where
  pub outputs : List Output
  pub are_fields : AreFieldOutputs old.state.context number fields outputs
  pub passes : Passes old.state.context.options (together (between_of old.state.context.options) outputs).found
  pub appends : Appends (together (between_of old.state.context.options) outputs) old new

-- in the mode `abort`, one of these fields is rejected, and the messages up to that on it were appended
pub record Aborts (number : ℕ) (fields : List (List ℕ)) (old new : Progress RunState) : Type 0 where
  pub mode : old.state.context.options.invalid ≡ Abort
  pub messages : List ℕ
  pub are_messages : AreMessagesToRejected old.state.context number fields messages
  pub messages_are : new.messages ≡ old.messages ++ messages

-- the size of this field was counted, and the messages about it were appended
pub record TellsLimits (number : ℕ) (field : List ℕ) (size : ℕ) (old new : Progress RunState) : Type 0 where
  pub messages : List ℕ
  pub are_messages : AreLimitMessages old.state.context number field size messages
  pub appends : Appends (record { text = []; found = Some size ∷ []; messages = messages }) old new

-- output and messages were appended, or none, with the same options
abbrev pub Keeps : Progress RunState → Progress RunState → Type 0
Keeps old new =
    IsBeginningOf old.out new.out × IsBeginningOf old.messages new.messages
    × (new.state.context.options ≡ old.state.context.options)

-- a call ends early that converts these fields: it is out of memory, or one of them is rejected
pub record IsEarly (number : ℕ) (fields : List (List ℕ)) (old new : Progress RunState) (error : RunError EndReason)
    : Type 0 where
  pub keeps : Keeps old new
  pub why : (error ≡ Memory) ⊎ ((error ≡ Ended Rejected) × Aborts number fields old new)

-- a call converts these fields, or ends early
abbrev pub Ends : ℕ → List (List ℕ) → Progress RunState → Progress RunState → Result ⊤ (RunError EndReason) → Type 0
Ends number fields old new result =
    MatchResult result (λ _. AddsFields number fields old new) (IsEarly number fields old new)

-- a call ends early that converts a record: it is out of memory, or a field of the record is rejected
pub record IsEarlyAt (bytes : List ℕ) (old new : Progress RunState) (error : RunError EndReason) : Type 0 where
  pub keeps : Keeps old new
  pub why : (error ≡ Memory) ⊎ ((error ≡ Ended Rejected)
      × ((own : List ℕ) × IsRejectedRecord old.state bytes Rejected own × (new.messages ≡ old.messages ++ own)))
