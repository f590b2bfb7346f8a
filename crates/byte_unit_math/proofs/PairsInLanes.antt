-- Digits as bytes of lanes: pairs of digits, each in one lane of 16 bits.
--
-- That pairs are `few` is that the first one is below 100, and that the others are; a `lane` has three parts: its tens,
-- its ones, and the lanes after it.
use Rattle.std.proofs.Common.{◌≡◌, ℕ, zero, suc, ◌+◌, ◌*◌, ◌/◌, ◌%◌, ◌^◌, ◌<◌, List, [], ◌∷◌, arith, refl, ◌∙◌, ap}
use Rattle.std.specs.Simd.Lanes.{Each1}
use Rattle.byte_unit_math.specs.Digits.{last_digits}
use Rattle.byte_unit_math.specs.Numeral.{glyphs}

-- The lanes of pairs of digits as one number: the tens of a pair in its low byte, the ones in its high byte.
abbrev packed : List ℕ → ℕ
packed [] = 0
packed (p ∷ ps) = (p / 10 + p % 10 * 256 % 65536) % 65536 + 65536 * packed ps

-- The bytes of a number as digits, the lowest first.
abbrev bytes_as_digits : ℕ → ℕ → List ℕ
bytes_as_digits zero n = []
bytes_as_digits (suc count) n = ((n % 256 + 48) % 256) ∷ bytes_as_digits count (n / 256)

-- The tens and the ones of each pair.
abbrev glyphs_of_pairs : List ℕ → List ℕ
glyphs_of_pairs [] = []
glyphs_of_pairs (p ∷ ps) = (48 + p / 10) ∷ (48 + p % 10) ∷ glyphs_of_pairs ps

-- The number of digits of pairs.
abbrev twice : List ℕ → ℕ
twice [] = 0
twice (p ∷ ps) = suc (suc (twice ps))

-- Of a lane of 16 bits, the low byte is the tens of the pair, the high byte the ones; `rest` is the lanes after it.
pair_in_lane :
    (p rest : ℕ) → p < 100 → (((p / 10 + p % 10 * 256 % 65536) % 65536 + 65536 * rest) % 256 ≡ p / 10)
    × ((((p / 10 + p % 10 * 256 % 65536) % 65536 + 65536 * rest) / 256 % 256 ≡ p % 10)
    × (((p / 10 + p % 10 * 256 % 65536) % 65536 + 65536 * rest) / 256 / 256 ≡ rest))
pair_in_lane p rest few = (omega (arith, few), (omega (arith, few), omega (arith, few)))

-- The bytes of lanes of pairs are the digits of the pairs.
pub digits_of_lanes : (ps : List ℕ) → Each1 (λ p. p < 100) ps
    → bytes_as_digits (twice ps) (packed ps) ≡ glyphs_of_pairs ps
digits_of_lanes [] few = refl
digits_of_lanes (p ∷ ps) few =
    let lane = pair_in_lane p (packed ps) few.0 in
    let first : (packed (p ∷ ps) % 256 + 48) % 256 ≡ 48 + p / 10 = omega (arith, lane.0, few.0) in
    let second : (packed (p ∷ ps) / 256 % 256 + 48) % 256 ≡ 48 + p % 10 = omega (arith, lane.1.0, few.0) in
    let rest : bytes_as_digits (twice ps) (packed (p ∷ ps) / 256 / 256) ≡ glyphs_of_pairs ps =
    ap (λ n. bytes_as_digits (twice ps) n) lane.1.1 ∙ digits_of_lanes ps few.1 in
    λ i. first i ∷ second i ∷ rest i

-- The pairs of digits of a number of 16 digits.
abbrev pub pairs_of : ℕ → List ℕ
pairs_of n = (n / 100000000 / 10000 / 100) ∷ (n / 100000000 / 10000 % 100) ∷ (n / 100000000 % 10000 / 100)
    ∷ (n / 100000000 % 10000 % 100) ∷ (n % 100000000 / 10000 / 100) ∷ (n % 100000000 / 10000 % 100)
    ∷ (n % 100000000 % 10000 / 100) ∷ (n % 100000000 % 10000 % 100) ∷ []

-- Each pair is below 100.
pub pairs_below : (n : ℕ) → n < 10 ^ 16 → Each1 (λ p. p < 100) (pairs_of n)
pairs_below n small = grind arith

-- The characters of the pairs are those of the 16 digits of the number.
pub digits_of_pairs : (n : ℕ) → n < 10 ^ 16 → glyphs_of_pairs (pairs_of n) ≡ glyphs (last_digits 16 n)
digits_of_pairs n small = grind arith
