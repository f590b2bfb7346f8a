-- Private: the effect of a call that writes a text forwards into a buffer.
use Rattle.std.specs.Prelude.{◌≡◌, ℕ, ◌+◌, List, ◌++◌, length, take}

-- The text is written from the index `begin` up to the index `end`, after the bytes before it, which are unchanged; the
-- bytes after it may have any values.
pub record IsPutAfter (text : List ℕ) (begin : ℕ) (old new : List ℕ) (end : ℕ) : Type 0 where
  pub ends : begin + length text ≡ end
  pub bytes : take end new ≡ take begin old ++ text
  pub same_len : length new ≡ length old
