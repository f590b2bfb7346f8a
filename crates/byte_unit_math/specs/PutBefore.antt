-- Private: the effect of a call that writes a text backwards into an array.
use Rattle.std.specs.Prelude.{◌≡◌, ℕ, ◌+◌, ◌^◌, ◌<◌, ◌≤◌, List, ◌++◌, length, drop}

-- The text is written from the index `begin` up to the index `end`, and the bytes from there on are unchanged.
pub record IsPutBefore (text : List ℕ) (end : ℕ) (old new : List ℕ) (begin : ℕ) : Type 0 where
  pub begins : begin + length text ≡ end
  pub bytes : drop begin new ≡ text ++ drop end old

-- `n` has at most `count` digits, and `count` bytes fit before the index `end`, which is within the bytes.
pub record FitBefore (count n end : ℕ) (bytes : List ℕ) : Type 0 where
  pub below : n < 10 ^ count
  pub room : count ≤ end
  pub within : end ≤ length bytes
