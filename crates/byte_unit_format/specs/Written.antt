-- The effect of a call that writes a text into a buffer of the caller.
use Rattle.std.specs.Prelude.{◌≡◌, ℕ, ◌<◌, ◌≤◌, List, ◌++◌, length, drop}

-- `needed` is the length in bytes of a text of this form. If it fits, it begins the buffer, and the bytes after it are
-- unchanged; else all are unchanged.
pub record WritesForm (IsForm : List ℕ → Type 0) (old new : List ℕ) (needed : ℕ) : Type 0 where
  pub form : List ℕ
  pub is_form : IsForm form
  pub needed_is : needed ≡ length form
  pub fits : length form ≤ length old → new ≡ form ++ drop (length form) old
  pub too_long : length old < length form → new ≡ old
