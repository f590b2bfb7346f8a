-- The digits from `kept` up to the places are all the same digit, that which is trimmed.
use Rattle.std.proofs.Common.{◌≡◌, ◌-◌, ◌≤◌, ◌++◌, take, replicate}
use Rattle.byte_unit_math.proofs.expansion.Expansion.trim_end_len.Given as goal

abbrev pub invariant-loop-kept : goal.invariant-loop-kept
invariant-loop-kept l = record {
  few : l.kept ≤ l.fn.places;
  same : take l.fn.places l.self.digits ≡ take l.kept l.self.digits ++ replicate (l.fn.places - l.kept) l.fn.last;
}

-- The number of digits that may still be trimmed.
abbrev pub decreases-loop-kept : goal.decreases-loop-kept
decreases-loop-kept l = l.kept
