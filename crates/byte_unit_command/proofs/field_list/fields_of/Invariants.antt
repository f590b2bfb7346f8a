use Rattle.std.proofs.Common.{map}
use Rattle.byte_unit_command.specs.FieldList.{AreRanges}
use Rattle.byte_unit_command.proofs.field_list.fields_of.Given as goal

-- the items so far are the ranges so far
abbrev pub invariant-loop-item : goal.invariant-loop-item
invariant-loop-item l = AreRanges (map (λ item. item.now) l.yielded) l.ranges.items
