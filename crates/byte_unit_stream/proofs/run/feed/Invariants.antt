-- The records before the rest were converted; the rest gets shorter.
use Rattle.std.proofs.Common.{◌≡◌, length}
use Rattle.byte_unit_stream.specs.Chunks.{ended_records, begun_record}
use Rattle.byte_unit_stream.proofs.RecordSteps.{Continues}
use Rattle.byte_unit_stream.proofs.run.feed.Given as goal

-- the records of the rest are left to be converted, and the unfinished record is that of the rest
abbrev pub invariant-loop-n : goal.invariant-loop-n
invariant-loop-n g l =
    Continues g.S.RecordSteps.relation (ended_records l.end l.initial.part.items l.bytes)
    (g.S.RecordSteps.at l.initial.steps) (ended_records l.end l.part.items l.rest) (g.S.RecordSteps.at l.steps)
    × (begun_record l.end l.initial.part.items l.bytes ≡ begun_record l.end l.part.items l.rest)
    × (g.S.RecordSteps.end_byte l.steps ≡ l.end)

-- the rest gets shorter with each record
abbrev pub decreases-loop-n : goal.decreases-loop-n
decreases-loop-n g l = length l.rest
