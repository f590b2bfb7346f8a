-- Laws of fractions over powers of 2 and 5, and of decimal numerals.
use Rattle.std.specs.Prelude.{◌≡◌, ◌≢◌, ◌↔◌, ℕ, ◌+◌, ◌*◌, ◌^◌, ◌≤◌}
use Rattle.byte_unit_math.specs.Bounds.{expansion_places}
use Rattle.byte_unit_math.specs.Exact.{IsExactAt, IsLeastPlaces}
use Rattle.byte_unit_math.specs.Finite.{Finite, IsExpansion, ulps_of}
use Rattle.byte_unit_math.specs.Digits.{at_places, expansion_of, trim_expansion}
use Rattle.byte_unit_math.specs.Powers.{IsTwoFive, HasTwoFive, TakesLackingPlaces}

-- A fraction num / (2^a * 5^b) is exact with p digits after the point if and only if a and b are at most p plus the
-- exponent of 2 and of 5 in its numerator.
abbrev pub ExactByPowers : Type 0
ExactByPowers = (num a b twos fives p : ℕ) → IsTwoFive num twos fives
    → IsExactAt num (2 ^ a * 5 ^ b) p ↔ ((a ≤ twos + p) × (b ≤ fives + p))

-- Every number that is not zero has an exponent of 2 and an exponent of 5.
abbrev pub NumbersHaveTwosAndFives : Type 0
NumbersHaveTwosAndFives = (n : ℕ) → n ≢ 0 → HasTwoFive n

-- A fraction num / (2^a * 5^b) takes as many digits after the point as its numerator lacks factors of 2 or factors of
-- 5, whichever is more.
abbrev pub PlacesByPowers : Type 0
PlacesByPowers = (num a b : ℕ) → TakesLackingPlaces num a b

-- Zero takes no digits after the point, whatever the divisor.
abbrev pub ZeroTakesNoPlaces : Type 0
ZeroTakesNoPlaces = (den : ℕ) → IsLeastPlaces 0 den 0

-- If num / den is exact with 93 digits after the point, its one expansion is the quotient cut off there, without
-- trailing zeros.
abbrev pub ExpansionsAreFoundByDivision : Type 0
ExpansionsAreFoundByDivision = (num den : ℕ) (e : Finite) → den ≢ 0 → IsExactAt num den expansion_places
    → IsExpansion num den e ↔ (e ≡ expansion_of num den)

-- A number with a point before its last `places` digits has the same digits: without the point it is the number again.
abbrev pub NumeralsAreExact : Type 0
NumeralsAreExact = (number places : ℕ) → ulps_of (at_places places number) ≡ number

-- A number with a point before its last `places` digits and without trailing zeros is the expansion of number /
-- 10^places.
abbrev pub ShortNumeralsAreExpansions : Type 0
ShortNumeralsAreExpansions =
    (number places : ℕ) → IsExpansion number (10 ^ places) (trim_expansion (at_places places number))
