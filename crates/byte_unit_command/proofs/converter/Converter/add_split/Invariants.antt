-- The fields before the rest were added, and the ranges that are left choose the same of the others; the rest gets
-- shorter.
use Rattle.std.proofs.Common.{length}
use Rattle.byte_unit_command.specs.CallEnds.{state_of}
use Rattle.byte_unit_command.specs.Ranges.{AreRangesFrom}
use Rattle.byte_unit_command.proofs.Splitting.{IsSplitting}
use Rattle.byte_unit_command.proofs.converter.Converter.add_split.Given as goal

-- the fields before the rest are added, and the ranges that are left are those from the next field on
abbrev pub invariant-loop-n : goal.invariant-loop-n
invariant-loop-n g l =
    let fields = l.initial.self.context.options.now.fields.now in
    IsSplitting l.bytes (state_of l.initial.self) l.number l.rest (state_of l.self)
    × AreRangesFrom fields l.number l.ranges

-- the rest gets shorter with each field
abbrev pub decreases-loop-n : goal.decreases-loop-n
decreases-loop-n g l = length l.rest
