-- There is no `/` before the index.
use Rattle.std.proofs.Common.{◌≡◌, ◌≤◌, ◌<◌, ◌-◌, ℕ, true, not, length, nat_eq, slice_index}
use Rattle.byte_unit_base.proofs.hint.slash_index.Given as goal

abbrev pub invariant-bytes : goal.invariant-bytes
invariant-bytes l =
    (l.index ≤ length l.text) × ((i : ℕ) → i < l.index → not (nat_eq (slice_index l.text i) 47) ≡ true)

abbrev pub decreases-bytes : goal.decreases-bytes
decreases-bytes l = length l.text - l.index
