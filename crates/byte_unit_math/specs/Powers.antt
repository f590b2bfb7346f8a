-- The exponents of 2 and 5 in a number, and the number of digits after the point that they determine.
use Rattle.std.specs.Prelude.{◌≡◌, ◌≢◌, ℕ, ◌-◌, ◌*◌, ◌%◌, ◌^◌, max}
use Rattle.byte_unit_math.specs.Exact.{IsLeastPlaces}

-- 2 divides n exactly `twos` times and 5 exactly `fives` times: neither divides what is left. So n is not zero.
pub record IsTwoFive (n twos fives : ℕ) : Type 0 where
  pub left : ℕ
  pub product : n ≡ left * (2 ^ twos * 5 ^ fives)
  pub odd : left % 2 ≢ 0
  pub no_five : left % 5 ≢ 0

-- The number has an exponent of 2 and an exponent of 5, as every number but zero has.
abbrev pub HasTwoFive : ℕ → Type 0
HasTwoFive n = (twos : ℕ) × (fives : ℕ) × IsTwoFive n twos fives

-- num / (2^a * 5^b) takes max(a - twos, b - fives) digits after the point, where `twos` and `fives` are the exponents
-- of 2 and 5 in num, and a difference below zero counts as zero.
abbrev pub TakesLackingPlaces : ℕ → ℕ → ℕ → Type 0
TakesLackingPlaces num a b = (twos fives : ℕ) → IsTwoFive num twos fives
    → IsLeastPlaces num (2 ^ a * 5 ^ b) (max (a - twos) (b - fives))
