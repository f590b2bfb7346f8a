-- No field ends before the index, which is within the bytes.
use Rattle.std.proofs.Common.{◌≡◌, ◌-◌, ◌<◌, ◌≤◌, ℕ, false, length}
use Rattle.byte_unit_command.proofs.BlankFields.{ends_there}
use Rattle.byte_unit_command.proofs.blanks.end_of_field.Given as goal

-- no field ends before the index `i`, which is within the bytes
abbrev pub invariant-loop-i : goal.invariant-loop-i
invariant-loop-i l = ((k : ℕ) → k < l.i → ends_there l.bytes k ≡ false) × (l.i ≤ length l.bytes)

-- the number of bytes from `i` on falls
abbrev pub decreases-loop-i : goal.decreases-loop-i
decreases-loop-i l = length l.bytes - l.i
