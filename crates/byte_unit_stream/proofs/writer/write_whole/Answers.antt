-- After each write, the bytes that were taken are written, and the rest is left.
use Rattle.byte_unit_stream.proofs.Bytes.{IsWrittenTo-step}
use Rattle.byte_unit_stream.proofs.writer.write_whole.Goals as goal

-- the invariant holds after a write of the first `n` bytes of the rest
pub loop-rest-preserved : goal.loop-rest-preserved
loop-rest-preserved g c =
    IsWrittenTo-step _ _ _ _ c.loop-rest.rest.now c.in-Some.n c.loop-rest.invariant c.in-Some.ensures.took
