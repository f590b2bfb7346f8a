-- The view of an entry: its name and its size.
use Rattle.std.specs.Prelude.{ℕ, List}
use Rattle.std.specs.Borrow.{Bor}

-- the fields of an entry
pub record EntryView : Type 0 where
  pub name : Bor (List ℕ)
  pub size : ℕ
