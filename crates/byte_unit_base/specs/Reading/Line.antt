-- A line at the beginning of bytes.
use Rattle.std.specs.Prelude.{◌≡◌, ℕ, ◌<◌, ◌≤◌, List, length, slice_index}

-- the first `len` bytes are a line: a line feed comes after it, or the end of the bytes
pub record IsLine (bytes : List ℕ) (len : ℕ) : Type 0 where
  pub within : len ≤ length bytes
  pub after : len < length bytes → slice_index bytes len ≡ 10
