-- What was written so far and the rest are all bytes; the rest gets shorter.
use Rattle.std.proofs.Common.{length}
use Rattle.byte_unit_stream.specs.Streams.{writer_of}
use Rattle.byte_unit_stream.proofs.Bytes.{IsWrittenTo}
use Rattle.byte_unit_stream.proofs.writer.write_whole.Given as goal

-- the bytes that were written since the start, and the rest, are all bytes
abbrev pub invariant-loop-rest : goal.invariant-loop-rest
invariant-loop-rest g l =
    let contents = g.W.Write.contents in
    IsWrittenTo (contents (writer_of l.initial.writer)) (contents (writer_of l.writer)) l.bytes l.rest

-- each write accepts at least one byte, so the rest gets shorter
abbrev pub decreases-loop-rest : goal.decreases-loop-rest
decreases-loop-rest g l = length l.rest
