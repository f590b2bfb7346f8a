-- Expansions with few digits after the point, from one product.
use Rattle.std.proofs.lemmas.Grind.{common_steps}
use Rattle.std.proofs.Common.{◌≡◌, ◌≢◌, ℕ, zero, suc, ◌+◌, ◌-◌, ◌*◌, ◌/◌, ◌%◌, ◌^◌, ◌<◌, ◌≤◌, min, bit_and, arith, ap, ◌∙◌}
use Rattle.std.specs.Int.{trailing_zeros, w128}
use Rattle.std.specs.Int.Count.{trailing_of_zero}
use Rattle.std.proofs.Math.Nat.{mul-lt-mul_of_pos_right, one-le-pow, div-add-mod', pow-zero, mod-eq_of_lt}
use Rattle.std.proofs.Math.Nat.{pow-le-pow_right}
use Rattle.std.proofs.lemmas.Nat.{mul-pow, mul-le, mod_below, and_mask}
use Rattle.std.proofs.lemmas.Nat.Bits.{bit_at-trailing_zeros}
use Rattle.byte_unit_math.specs.Bounds.{scale, places_of_decimal, expansion_places}
pub use Rattle.byte_unit_math.specs.DecimalFields.{AreFields}
use Rattle.byte_unit_math.specs.Digits.{last_digits}
use Rattle.byte_unit_math.specs.Finite.{IsExpansion}
use Rattle.byte_unit_math.specs.ShortExpansion.{IsShortExpansion, finite_of}
use Rattle.byte_unit_math.specs.declared.short.ShortExpansion.{ShortExpansion}
use Rattle.byte_unit_math.proofs.Digits.{length_last_digits, last_digits_below_ten, value_of_last_digits}
use Rattle.byte_unit_math.proofs.Expanding.{IsLeastPlaces-last_digit, product_positive}
use Rattle.byte_unit_math.proofs.Texts.{SameFraction, expansion_of_same_fraction}
use Rattle.byte_unit_math.proofs.Powers.{odd_times_fives}
use Rattle.byte_unit_math.proofs.Scales.{pow10_split, power_of_sum}
use Rattle.byte_unit_math.proofs.TwosFives.{FivesOff-trailing_zeros, trailing_zeros_divide}

-- Masked by its last p bits, a number is its remainder by 2^p.
pub masked_rest : (n p : ℕ) → p ≤ expansion_places → bit_and n (1 * 2 ^ p % 2 ^ 128 - 1) ≡ n % 2 ^ p
masked_rest n p few = grind (arith, common_steps, pow-le-pow_right, mod-eq_of_lt, and_mask)

-- A remainder by 2^p, times 5^p, is below 10^p.
pub rest_below_ten_power : (n p : ℕ) → n % 2 ^ p * 5 ^ p < 10 ^ p
rest_below_ten_power n p = grind (arith, mul-pow 2 5 p, mul-lt-mul_of_pos_right, mod_below, one-le-pow)

-- The whole part, and the remainder by 2^p as p digits, are the number times 5^p.
pub binary_count : (n p : ℕ) → n / 2 ^ p * 10 ^ p + n % 2 ^ p * 5 ^ p ≡ n * 5 ^ p
binary_count n p =
    let power = ap (λ power. n / 2 ^ p * power) (mul-pow 2 5 p) in
    let number = ap (λ m. m * 5 ^ p) (div-add-mod' n (2 ^ p)) in
    omega (arith, power, number)

-- A whole part and the remainder by 2^p as p digits are the expansion of n / 2^p, if n is odd or p is 0.
pub binary_is_expansion : (n p : ℕ) → (0 < p → n % 2 ≢ 0)
    → IsExpansion n (2 ^ p) (record { whole = n / 2 ^ p; digits = last_digits p (n % 2 ^ p * 5 ^ p) })
binary_is_expansion n p odd =
    let digits : ℕ = n % 2 ^ p * 5 ^ p in
    let value = value_of_last_digits p digits ∙ mod-eq_of_lt (rest_below_ten_power n p) in
    let exact : n * 10 ^ p ≡ (n / 2 ^ p * 10 ^ p + digits) * 2 ^ p =
    omega (arith, ap (λ power. n * power) (mul-pow 2 5 p), ap (λ m. m * 2 ^ p) (binary_count n p)) in
    let positive : 0 < 2 ^ p = omega (arith, one-le-pow p 2 (omega arith)) in
    let least = IsLeastPlaces-last_digit n (2 ^ p) (n / 2 ^ p * 10 ^ p + digits) p positive exact
    (λ some. rw (binary_count n p) (omega (arith, odd_times_fives n p (odd some)))) in
    record {
      small = last_digits_below_ten p digits;
      exact = rw (length_last_digits p digits, value) exact;
      least = rw (length_last_digits p digits) least.least;
    }

-- The fields of a number are its expansion.
pub fields_expansion :
    {number whole digits places : ℕ} → AreFields number whole digits places
    → IsExpansion number scale (record { whole = whole; digits = last_digits places digits })
fields_expansion {number} {whole} {digits} {places} fields =
    let value = value_of_last_digits places digits ∙ mod-eq_of_lt fields.below in
    let product = ap (λ power. digits * power) (pow10_split places places_of_decimal fields.few) in
    let split : number ≡ whole * scale + digits * 10 ^ (places_of_decimal - places) =
    omega (arith, fields.whole_is, fields.digits_are) in
    let times = ap (λ number. number * 10 ^ places) split in
    record {
      small = last_digits_below_ten places digits;
      exact = rw (length_last_digits places digits, value) (omega (arith, times, product));
      least = rw (length_last_digits places digits) fields.least.least;
    }

-- A number is a multiple of 2^k if k is at most the number of its trailing zero bits.
pub shared_twos : (number k : ℕ) → number < 2 ^ 128 → k ≤ trailing_zeros w128 number
    → number ≡ number / 2 ^ k * 2 ^ k
shared_twos zero k small within = grind (arith, common_steps)
shared_twos (suc n) k small within =
    grind (arith, common_steps, bit_at-trailing_zeros w128 (suc n) (omega arith) small, trailing_zeros_divide)

-- Divided by 2^k, where k is at most the number of its trailing zero bits and below another bound, a number is odd.
pub odd_if_shared : (number most k : ℕ) → number < 2 ^ 128 → most < 128 → k ≡ min (trailing_zeros w128 number) most
    → k < most → number / 2 ^ k % 2 ≢ 0
odd_if_shared zero most k small few k_is below =
    let zeros : trailing_zeros w128 0 ≡ 128 = trailing_of_zero 128 in absurd (grind (arith, zeros))
odd_if_shared (suc n) most k small few k_is below =
    let all : k ≡ trailing_zeros w128 (suc n) = grind arith in
    rw all (FivesOff-trailing_zeros (suc n) (omega arith) small).odd

-- Equal fractions have the same expansion.
pub short_of_same_fraction :
    {num den num' den' : ℕ} {e : ShortExpansion} → SameFraction num den num' den' → IsShortExpansion num den e
    → IsShortExpansion num' den' e
short_of_same_fraction {num} {den} {num'} {den'} {e} same h =
    grind (arith, common_steps, expansion_of_same_fraction num den num' den' (finite_of e) same h.is_expansion)

-- If a decimal is num / den, both scaled by 10^28, its fields are the expansion.
pub short_of_decimal :
    {N num den : ℕ} {e : ShortExpansion} → 0 < den → N * den ≡ num * scale → AreFields N e.whole e.digits e.places
    → IsShortExpansion num den e
short_of_decimal some same fields = short_of_same_fraction (record { positive = omega arith; positive' = some; same = same })
    (record { few = omega (arith, fields.few); below = fields.below; is_expansion = fields_expansion fields })

-- A power of two that numerator and binary unit share can be left out.
pub reduced_binary : (number reduced shared left twos : ℕ) → twos ≡ left + shared → number ≡ reduced * 2 ^ shared
    → SameFraction reduced (2 ^ left) number (2 ^ twos * 5 ^ 0)
reduced_binary number reduced shared left twos sum number_is =
    let power = power_of_sum 2 twos left shared sum in record {
      positive = omega (arith, one-le-pow left 2 (omega arith));
      positive' = rw (pow-zero 5) (omega (arith, one-le-pow twos 2 (omega arith)));
      same = rw (pow-zero 5, number_is, power) (omega arith);
    }

-- A fraction of a decimal unit is the same after division of both numbers by a shared power of two.
pub reduced_decimal : (number reduced shared left twos fives : ℕ) → twos ≡ left + fives + shared
    → number ≡ reduced * 2 ^ shared
    → SameFraction reduced (2 ^ left * 10 ^ fives) number (2 ^ twos * 5 ^ fives)
reduced_decimal number reduced shared left twos fives sum number_is =
    let first = power_of_sum 2 twos (left + fives) shared sum in
    let second = power_of_sum 2 (left + fives) left fives (omega arith) in
    record {
      positive = mul-le 1 1 _ _ (one-le-pow left 2 (omega arith)) (one-le-pow fives 10 (omega arith));
      positive' = product_positive twos fives;
      same = rw (number_is, first, second, mul-pow 2 5 fives) (omega arith);
    }
