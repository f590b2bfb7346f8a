-- All bytes from the start on are letters.
use Rattle.std.proofs.Common.{◌≡◌, ◌≤◌, ◌<◌, ℕ, true, length, slice_index}
use Rattle.std.specs.Char.{is_ascii_alphabetic}
use Rattle.byte_unit_base.proofs.words.word_start.Given as goal

abbrev pub invariant-letters : goal.invariant-letters
invariant-letters l =
    (l.start ≤ length l.text)
    × ((i : ℕ) → l.start ≤ i → i < length l.text → is_ascii_alphabetic (slice_index l.text i) ≡ true)

abbrev pub decreases-letters : goal.decreases-letters
decreases-letters l = l.start
