-- What was read so far is served, and nothing waits; each read leaves fewer reads.
use Rattle.std.proofs.Common.{◌≡◌}
use Rattle.byte_unit_stream.specs.Streams.{reads_left}
use Rattle.byte_unit_stream.proofs.Courses.{HasServed}
use Rattle.byte_unit_stream.proofs.run.run_steps.Given as goal

-- against the state at the start: what was read is served
abbrev pub invariant-reads : goal.invariant-reads
invariant-reads g l =
    HasServed g.R.Read.remaining g.W.Write.contents g.E.Write.contents g.S.RecordSteps.relation l.end
    (g.S.RecordSteps.at l.fn.steps).state l.initial.reader l.reader l.initial.writer l.writer l.initial.errors l.errors
    (g.S.RecordSteps.at l.steps) l.part.items
    × (g.S.RecordSteps.end_byte l.steps ≡ l.end)

-- each read that gives bytes leaves fewer reads
abbrev pub decreases-reads : goal.decreases-reads
decreases-reads g l = reads_left l.reader
