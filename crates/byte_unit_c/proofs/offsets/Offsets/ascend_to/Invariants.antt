-- Before offset i: the offsets ascend if and only if those from i on ascend from the one before.
use Rattle.std.proofs.Common.{◌↔◌, pos, drop, ◌≤ℤ◌}
use Rattle.byte_unit_c.specs.Many.{offsets_of, Ascends}
use Rattle.byte_unit_c.proofs.offsets.Offsets.ascend_to.Given as goal

-- `low` is the offset before offset i, or 0
abbrev pub invariant-loop-i : goal.invariant-loop-i
invariant-loop-i l = record {
  from_zero : pos 0 ≤ℤ l.low;
  left : Ascends (pos 0) (pos l.len) (offsets_of l.self) ↔ Ascends l.low (pos l.len) (drop l.i (offsets_of l.self));
}
