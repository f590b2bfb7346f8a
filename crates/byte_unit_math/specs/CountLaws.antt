-- The law of step counts that have reached their maximum.
use Rattle.std.specs.Prelude.{◌≡◌, ℕ}
use Rattle.byte_unit_math.specs.Steps.{max_count, saturating_add}

-- A step count of 2^64 - 1 stays as it is, however many steps are added.
abbrev pub GreatestCountStays : Type 0
GreatestCountStays = (steps : ℕ) → saturating_add max_count steps ≡ max_count
