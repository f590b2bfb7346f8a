-- Least numbers, and a number of units rounded up to a whole size.
use Rattle.std.specs.Prelude.{ℕ, ◌*◌, ◌≤◌}
use Rattle.byte_unit_math.specs.Bounds.{scale}

-- n has the property, and no smaller number has it.
pub record IsLeast (Has : ℕ → Type 0) (n : ℕ) : Type 0 where
  pub has : Has n
  pub least : (m : ℕ) → Has m → n ≤ m

-- The size n is at least N / 10^28 units of `unit_size` each.
abbrev pub Reaches : ℕ → ℕ → ℕ → Type 0
Reaches N unit_size n = N * unit_size ≤ n * scale

-- n is the least size that is at least N / 10^28 units: their size, rounded up to a whole number.
abbrev pub IsLeastSize : ℕ → ℕ → ℕ → Type 0
IsLeastSize N unit_size = IsLeast (Reaches N unit_size)
