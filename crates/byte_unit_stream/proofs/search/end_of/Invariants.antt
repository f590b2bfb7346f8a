-- The two loops: over chunks of 16 bytes, and over the bytes after them.
use Rattle.std.proofs.Common.{length, take, ◌-◌, ◌≤◌}
use Rattle.byte_unit_stream.specs.Chunks.{IsUnbroken}
use Rattle.byte_unit_stream.proofs.search.end_of.Given as goal

-- `i` is the index of the next chunk: no record ends before it
abbrev pub invariant-loop-i : goal.invariant-loop-i
invariant-loop-i l = IsUnbroken l.end (take l.i l.bytes) × (l.i ≤ length l.bytes)

-- the number of bytes from `i` on falls, here by 16
abbrev pub decreases-loop-i : goal.decreases-loop-i
decreases-loop-i l = length l.bytes - l.i

-- `i` is the index of the next byte: no record ends before it
abbrev pub invariant-loop-i-2 : goal.invariant-loop-i-2
invariant-loop-i-2 l = IsUnbroken l.end (take l.i l.bytes) × (l.i ≤ length l.bytes)

-- the number of bytes from `i` on falls, here by 1
abbrev pub decreases-loop-i-2 : goal.decreases-loop-i-2
decreases-loop-i-2 l = length l.bytes - l.i
