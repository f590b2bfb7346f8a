-- Step counts: how many steps a method takes, such as trial division. They bound no running time.
use Rattle.std.specs.Prelude.{ℕ, ◌+◌, ◌-◌, ◌^◌, min, max}

-- The largest step count, 2^64 - 1.
abbrev pub max_count : ℕ
max_count = 2 ^ 64 - 1

-- The step count after `steps` more steps. It saturates at 2^64 - 1, and never falls.
abbrev pub saturating_add : ℕ → ℕ → ℕ
saturating_add count steps = max count (min (count + steps) max_count)
