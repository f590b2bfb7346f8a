-- The loop that adds up the sizes of the entries.
use Rattle.std.proofs.Common.{◌≡◌, ◌<◌, sum_by, take}
use Rattle.byte_unit.specs.Grammar.Version.{current}
use Rattle.byte_unit_uses.proofs.entry.total.Given as goal

-- `sum` is the total of the entries before this one, and is below the limit
abbrev pub invariant-loop-entry : goal.invariant-loop-entry
invariant-loop-entry l =
    (l.sum ≡ sum_by (λ entry. entry.size) (take l.entry-index l.report)) × (l.sum < current.size_limit)
