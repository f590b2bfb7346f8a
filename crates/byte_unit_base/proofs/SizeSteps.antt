-- The steps of the state machine of sizes by cases.
use Rattle.std.proofs.Common.{◌≡◌, ℕ, ◌+◌, ◌*◌, ◌<◌, ◌⊎◌, Some, arith}
use Rattle.std.specs.Char.{digit_value}
use Rattle.std.proofs.lemmas.Bool.Decides.{nat_tests}
use Rattle.byte_unit_math.specs.Bounds.{scale, places_of_decimal, whole_limit}
use Rattle.byte_unit_base.specs.Reading.Machines.{unit_step, start as unit_start, UnitScan, size_step, after_number}
use Rattle.byte_unit_base.specs.Reading.Machines.{fixed_point, SizeScan, Beginning, Whole, Point, Fraction, Gap, UnitAt}
use Rattle.byte_unit_base.proofs.Options.{some_mapped}

-- after the number `n`, the character continues the unit `s`
abbrev pub UnitStep : ℕ → UnitScan → ℕ → SizeScan → Type 0
UnitStep n s c t = (u : UnitScan) × (unit_step s c ≡ Some u) × (UnitAt n u ≡ t)

-- after the number `n`, the character is a space, or begins a unit
abbrev pub AfterNumber : ℕ → ℕ → SizeScan → Type 0
AfterNumber n c t = ((c ≡ 32) × (Gap n ≡ t)) ⊎ UnitStep n unit_start c t

-- the cases in which the character leads from one state to the other
abbrev pub StepOf : SizeScan → ℕ → SizeScan → Type 0
StepOf Beginning c t = (digit_value c < 10) × (Whole (digit_value c) ≡ t)
StepOf (Whole w) c t =
    ((digit_value c < 10) × (w * 10 + digit_value c < whole_limit) × (Whole (w * 10 + digit_value c) ≡ t))
    ⊎ (((c ≡ 46) × (Point w ≡ t)) ⊎ AfterNumber (w * scale) c t)
StepOf (Point w) c t = (digit_value c < 10) × (Fraction w (digit_value c) 1 ≡ t)
StepOf (Fraction w f j) c t =
    ((digit_value c < 10) × (j < places_of_decimal) × (Fraction w (f * 10 + digit_value c) (j + 1) ≡ t))
    ⊎ AfterNumber (fixed_point w f j) c t
StepOf (Gap n) c t = AfterNumber n c t
StepOf (UnitAt n s) c t = UnitStep n s c t

-- a step after a number is one of its cases: a space, or the first character of a unit
after_number_cases : (n c : ℕ) (t : SizeScan) → after_number n c ≡ Some t → AfterNumber n c t
after_number_cases n c t e = grind (arith, nat_tests, some_mapped)

-- if a state has a step for a character, one of its cases holds
pub step_cases : (s t : SizeScan) (c : ℕ) → size_step s c ≡ Some t → StepOf s c t
unfolding size_step
step_cases Beginning t c e = grind (arith, nat_tests)
step_cases (Whole w) t c e = grind (arith, nat_tests, after_number_cases)
step_cases (Point w) t c e = grind (arith, nat_tests)
step_cases (Fraction w f j) t c e = grind (arith, nat_tests, after_number_cases)
step_cases (Gap n) t c e = after_number_cases n c t e
step_cases (UnitAt n s) t c e = some_mapped (UnitAt n) t (unit_step s c) e
