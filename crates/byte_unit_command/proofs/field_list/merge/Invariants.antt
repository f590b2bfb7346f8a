-- The merged ranges are those of the ranges so far.
use Rattle.std.proofs.Common.{ℕ, ◌<◌, ◌≤◌, length, slice_index_or, take}
use Rattle.std.specs.List.{All}
use Rattle.byte_unit_command.specs.Ranges.{AreApart, ChooseSame}
use Rattle.byte_unit_command.proofs.Ranges.{default_range}
use Rattle.byte_unit_command.proofs.field_list.merge.Given as goal

-- the merged ranges are apart, choose the fields of the ranges so far, and begin no later than any range that is left
abbrev pub invariant-loop-range : goal.invariant-loop-range
invariant-loop-range l = record {
  apart : AreApart l.merged.items;
  same : ChooseSame (take l.range-index l.ranges) l.merged.items;
  begun : (k : ℕ) → l.range-index ≤ k → k < length l.ranges
      → All (λ each. each.first ≤ (slice_index_or l.ranges k default_range).first) l.merged.items;
}
