-- The steps of a run: a record is converted, or it ends the run; and the total follows the last one.
use Rattle.std.specs.Prelude.{◌≡◌, ◌≤◌, ◌<◌, ◌-◌, ℕ, true, MatchBool, List, [], ◌∷◌, ◌++◌}
use Rattle.byte_unit.specs.Bounds.{size_limit}
use Rattle.byte_unit_command.specs.Fields.{fields_of}
use Rattle.byte_unit_command.specs.Formatted.{IsFormatted}
use Rattle.byte_unit_command.specs.Output.{AreMessagesToRejected, IsRecord, Output, Passes}
use Rattle.byte_unit_command.specs.State.{RunState, next_context}
use Rattle.byte_unit_command.specs.Sums.{Counts}
use Rattle.byte_unit_command.specs.declared.error.EndReason.{EndReason}
use Rattle.byte_unit_command.specs.declared.error.EndReason.TheVariants.{Rejected, Total}
use Rattle.byte_unit_command.specs.declared.options.Invalid.TheVariants.{Abort}
use Rattle.byte_unit_stream.specs.RecordSteps.{Relation}

-- what is written for a record, with the end byte of the output after it; the messages about its fields; and the state
-- after it, with what is found in the fields counted
pub record IsConverted (old : RunState) (bytes : List ℕ) (new : RunState) (out messages : List ℕ) : Type 0 where
  pub output : Output
  pub is_record : IsRecord (next_context old.context) old.header bytes output
  pub passes : Passes old.context.options output.found
  pub counts : Counts old.context.options old.tally output.found new.tally
  pub out_is : out ≡ output.text ++ old.context.options.output_end ∷ []
  pub messages_are : messages ≡ output.messages
  pub new_is : new ≡ record { context = next_context old.context; header = old.header - 1; tally = new.tally }

-- in the mode `abort`, a record that is no header record has a rejected field; the messages are those up to it
pub record IsRejectedRecord (old : RunState) (bytes : List ℕ) (reason : EndReason) (messages : List ℕ) : Type 0 where
  pub reason_is : reason ≡ Rejected
  pub mode : old.context.options.invalid ≡ Abort
  pub no_header : old.header ≡ 0
  pub are_messages : AreMessagesToRejected (next_context old.context) 1 (fields_of old.context.options bytes) messages

-- the line of the total, if it is asked for: the text of the total, which is below 10^30, and the end byte
abbrev pub IsTotalLine : RunState → List ℕ → Type 0
IsTotalLine state line =
    let options = state.context.options in
    MatchBool options.total ((text : List ℕ) × (state.tally.total < size_limit)
    × IsFormatted options state.tally.total text × (line ≡ text ++ options.output_end ∷ [])) (line ≡ [])

-- the total is asked for, and reaches 10^30
abbrev pub IsTooLarge : RunState → EndReason → Type 0
IsTooLarge state reason =
    (reason ≡ Total) × (state.context.options.total ≡ true) × (size_limit ≤ state.tally.total)

-- the steps of a run
abbrev pub converting : Relation RunState EndReason
converting = record { step = IsConverted; ends = IsRejectedRecord; closes = IsTotalLine; fails = IsTooLarge }
