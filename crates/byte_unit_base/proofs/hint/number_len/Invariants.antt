-- The bytes before the index are digits or points.
use Rattle.std.proofs.Common.{◌≡◌, ◌≤◌, ◌<◌, ◌||◌, ◌-◌, ℕ, true, length, nat_eq, slice_index}
use Rattle.std.specs.Char.{is_ascii_digit}
use Rattle.byte_unit_base.specs.Grammar.Number.{point}
use Rattle.byte_unit_base.proofs.hint.number_len.Given as goal

abbrev pub invariant-number : goal.invariant-number
invariant-number l =
    (l.len ≤ length l.text)
    × ((i : ℕ) → i < l.len → is_ascii_digit (slice_index l.text i) || nat_eq (slice_index l.text i) point ≡ true)

abbrev pub decreases-number : goal.decreases-number
decreases-number l = length l.text - l.len
