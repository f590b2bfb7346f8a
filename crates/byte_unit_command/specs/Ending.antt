-- The exit status of a run, and its message.
use Rattle.std.specs.Prelude.{ℕ, List, Bool, ◌&&◌, true, false, if◌then◌else◌, Option, Some, None, Result, Ok, Err}
use Rattle.std.specs.Prelude.{codes}
use Rattle.byte_unit_command.specs.declared.options.Invalid.{Invalid}
use Rattle.byte_unit_command.specs.declared.options.Invalid.TheVariants.{Abort, Fail, Warn, Ignore}
use Rattle.byte_unit_command.specs.declared.error.EndReason.{EndReason}
use Rattle.byte_unit_command.specs.declared.error.EndReason.TheVariants.{Rejected, Total}
use Rattle.byte_unit_command.specs.declared.tally.Tally.{Tally}
use Rattle.byte_unit_stream.specs.declared.run.RunError.{RunError}
use Rattle.byte_unit_stream.specs.declared.run.RunError.TheVariants.{Memory, Read, Write, Ended}

-- whether a rejected field, in a run that goes on, makes the exit status 2
abbrev pub fails : Invalid → Bool
fails Abort = false
fails Fail = true
fails Warn = false
fails Ignore = false

-- the exit status of a run that went to the end: 2 for a rejected field in the mode `fail`, 3 for a size beyond a limit
abbrev pub status_of_tally : Invalid → Tally → ℕ
status_of_tally invalid tally =
    if tally.rejected && fails invalid then 2 else (if tally.beyond then 3 else 0)

-- the exit status of a run
abbrev pub status_of : Invalid → Result Tally (RunError EndReason) → ℕ
status_of invalid (Ok tally) = status_of_tally invalid tally
status_of invalid (Err (Ended reason)) = 2
status_of invalid (Err Memory) = 1
status_of invalid (Err Read) = 1
status_of invalid (Err Write) = 1

-- the message of a run that ended early, without its line end; in the mode `abort` it is the one about the field
abbrev pub message_of : RunError EndReason → Option (List ℕ)
message_of Memory = Some (codes "out of memory")
message_of Read = Some (codes "read failed")
message_of Write = Some (codes "write failed")
message_of (Ended Rejected) = None
message_of (Ended Total) = Some (codes "the total is 10^30 or more")
