-- The part is a record if it is not empty.
use Rattle.std.proofs.Common.{length, take, arith, refl}
use Rattle.std.proofs.lemmas.List.{take_all}
use Rattle.byte_unit_stream.specs.Chunks.{nonempty_record}
use Rattle.byte_unit_stream.proofs.ChunkRecords.{nonempty_from_length, nonempty_record-nonempty}
use Rattle.byte_unit_stream.proofs.RecordSteps.{AreSteps-one}
use Rattle.byte_unit_stream.proofs.run.convert_last.Goals as goal

-- the one record was converted
pub returns-clause-ok : goal.returns-clause-ok
returns-clause-ok g c =
    let part = c.args.part.now in
    AreSteps-one g.S.RecordSteps.relation (nonempty_record part) part (take (length part) part) _ _ c.step.result
    c.step.ensures.step (take_all (length part) part (omega arith))
    (nonempty_record-nonempty part (nonempty_from_length part (length part) refl c.if-is_empty.ensures))
