-- The values before the index were written, and the others are left.
use Rattle.std.proofs.Common.{take, drop}
use Rattle.serde.specs.Event.{WritesEach}
use Rattle.byte_unit_serde.proofs.WrittenSequences.{Continues}
use Rattle.byte_unit_serde.proofs.lists.Lists.serialize.Given as goal

-- A pair: the values before the index were written, and what is returned for the others is returned for all.
abbrev pub invariant-loop-item : goal.invariant-loop-item
invariant-loop-item g l =
    WritesEach g.W.SerializeString.writes (take l.item-index l.item-items) (g.S.Serializer.written l.initial.out)
    (g.S.Serializer.written l.out)
    × Continues (g.W.SerializeString.writing g.S.Sink.str_returns) g.S.Sink.end_returns l.item-items
    (drop l.item-index l.item-items) l.initial.out l.out
