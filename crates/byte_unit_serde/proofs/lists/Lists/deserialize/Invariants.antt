-- The items so far are the values that were read since the sequence began.
use Rattle.std.proofs.Common.{◌-◌, ◌^◌, length}
use Rattle.byte_unit_serde.specs.Serialized.{ReadsEach}
use Rattle.byte_unit_serde.proofs.lists.Lists.deserialize.Given as goal

-- From the start of the sequence to here, the format gave the items, one by one.
abbrev pub invariant-loop-items : goal.invariant-loop-items
invariant-loop-items g l =
    ReadsEach g.R.DeserializeString.means g.F.Format.gives g.F.Format.stays l.initial.from l.from l.items.items

-- The number of items grows with each iteration, and a vector has fewer than 2^64.
abbrev pub decreases-loop-items : goal.decreases-loop-items
decreases-loop-items g l = 2 ^ 64 - length l.items.items
