-- How many digits after the point a fraction over powers of 2 and 5 takes.
--
-- That a fraction is exact at some places, as `e`, is a count, `e.0`, and an equation, `e.1`.
use Rattle.std.proofs.lemmas.Grind.{common_steps}
use Rattle.std.proofs.Common.{◌≡◌, ◌≢◌, ◌+◌, ◌-◌, ◌*◌, ◌^◌, ◌/◌, ◌%◌, ◌<◌, ◌≤◌, ⊎_elim, ℕ, zero, suc, max, arith, ap}
use Rattle.std.proofs.Common.{sym, ◌∙◌}
use Rattle.std.proofs.lemmas.Bool.{cases_lt}
use Rattle.std.proofs.lemmas.Nat.{pow-add, mul-pow}
use Rattle.std.proofs.Math.Nat.{pow-succ', eq_of_mul-eq-mul_right, one-le-pow, mul-mod_left}
use Rattle.byte_unit_math.specs.Exact.{IsExactAt}
use Rattle.byte_unit_math.specs.Powers.{IsTwoFive, HasTwoFive}
use Rattle.byte_unit_math.proofs.Scales.{power_of_sum}
use Rattle.byte_unit_math.specs.NumberLaws.{ExactByPowers, NumbersHaveTwosAndFives, PlacesByPowers, ZeroTakesNoPlaces}

-- An odd number times a power of 5 is odd.
pub odd_times_fives : (left n : ℕ) → left % 2 ≢ 0 → (left * 5 ^ n) % 2 ≢ 0
odd_times_fives left zero h = λ k. h (omega (arith, k))
odd_times_fives left (suc n) h = λ k. odd_times_fives left n h
    (let e : left * 5 ^ suc n ≡ 5 * (left * 5 ^ n) = rw (pow-succ' 5 n) (omega arith) in omega (arith, k, e))

-- A number that 5 does not divide, times a power of 2, is not divided by 5 either.
no_five_times_twos : (left n : ℕ) → left % 5 ≢ 0 → (left * 2 ^ n) % 5 ≢ 0
no_five_times_twos left zero h = λ k. h (omega (arith, k))
no_five_times_twos left (suc n) h = λ k. no_five_times_twos left n h
    (let e : left * 2 ^ suc n ≡ 2 * (left * 2 ^ n) = rw (pow-succ' 2 n) (omega arith) in omega (arith, k, e))

-- A number times 10^p has p more factors of 2 and p more of 5.
tens_of_factors : (left twos fives p : ℕ)
    → left * (2 ^ twos * 5 ^ fives) * 10 ^ p ≡ left * (2 ^ (twos + p) * 5 ^ (fives + p))
tens_of_factors left twos fives p = rw (pow-add 2 twos p, pow-add 5 fives p, mul-pow 2 5 p) (omega arith)

-- A number given by its factors, times 10^p, is a multiple of 2^a * 5^b if it has then at least a factors of 2 and b of
-- 5.
pub count_of_units :
    (left twos fives a b p : ℕ) → (a ≤ twos + p) × (b ≤ fives + p)
    → left * (2 ^ twos * 5 ^ fives) * 10 ^ p ≡ left * (2 ^ (twos + p - a) * 5 ^ (fives + p - b)) * (2 ^ a * 5 ^ b)
count_of_units left twos fives a b p few =
    let two_parts = power_of_sum 2 (twos + p) (twos + p - a) a (omega (arith, few.0)) in
    let five_parts = power_of_sum 5 (fives + p) (fives + p - b) b (omega (arith, few.1)) in
    tens_of_factors left twos fives p ∙ rw (two_parts, five_parts) (omega arith)

-- A number scaled by 10^p, as the product of its rest and its powers of 2 and 5.
times_tens : (num twos fives p : ℕ) (h : IsTwoFive num twos fives)
    → num * 10 ^ p ≡ h.left * (2 ^ (twos + p) * 5 ^ (fives + p))
times_tens num twos fives p h = ap (λ n. n * 10 ^ p) h.product ∙ tens_of_factors h.left twos fives p

-- A number divided by 2^a * 5^b is exact at p places if a is at most its exponent of 2 plus p, and b that of 5 plus p.
exact_with_powers :
    (num a b twos fives p : ℕ) → IsTwoFive num twos fives → (a ≤ twos + p) × (b ≤ fives + p)
    → IsExactAt num (2 ^ a * 5 ^ b) p
exact_with_powers num a b twos fives p h few = grind (arith, common_steps, count_of_units h.left twos fives a b p few)

-- If a power of a base divides a number in which another power of it is apart, and the base does not divide the rest,
-- it has no greater exponent.
enough_factors :
    (base m a left others count rest : ℕ) → 0 < base → (left * others) % base ≢ 0
    → left * (base ^ m * others) ≡ count * (base ^ a * rest) → a ≤ m
enough_factors base m a left others count rest some none e = ⊎_elim (λ more.
    let power = power_of_sum base a m (suc (a - m - 1)) (omega (arith, more))
    ∙ ap (λ n. base ^ m * n) (pow-succ' base (a - m - 1)) in
    let multiple = count * (base ^ (a - m - 1) * rest) in
    let same : left * others ≡ multiple * base =
    eq_of_mul-eq-mul_right (base ^ m) (one-le-pow m base some) (left * others) (multiple * base)
    (omega (arith, e, ap (λ n. count * (n * rest)) power)) in
    absurd (none (ap (λ n. n % base) same ∙ mul-mod_left multiple base)))
    (λ few. few) (cases_lt m a)

-- If it is exact at p places, a is at most its exponent of 2 plus p.
enough_twos : (num a b twos fives p : ℕ) → IsTwoFive num twos fives → IsExactAt num (2 ^ a * 5 ^ b) p → a ≤ twos + p
enough_twos num a b twos fives p h e = enough_factors 2 (twos + p) a h.left (5 ^ (fives + p)) e.0 (5 ^ b) (omega arith)
    (odd_times_fives h.left (fives + p) h.odd) (sym (times_tens num twos fives p h) ∙ e.1)

-- If it is exact at p places, b is at most its exponent of 5 plus p.
enough_fives : (num a b twos fives p : ℕ) → IsTwoFive num twos fives → IsExactAt num (2 ^ a * 5 ^ b) p → b ≤ fives + p
enough_fives num a b twos fives p h e = enough_factors 5 (fives + p) b h.left (2 ^ (twos + p)) e.0 (2 ^ a) (omega arith)
    (no_five_times_twos h.left (twos + p) h.no_five) (omega (arith, times_tens num twos fives p h, e.1))

-- A fraction num / (2^a * 5^b) is exact with p digits after the point if and only if num * 10^p has at least a factors
-- of 2 and b of 5.
pub exact_by_powers : ExactByPowers
exact_by_powers num a b twos fives p h = (
  λ e. (enough_twos num a b twos fives p h e, enough_fives num a b twos fives p h e),
  λ few. exact_with_powers num a b twos fives p h few,
)

-- A fraction num / (2^a * 5^b) takes as many digits after the point as num lacks factors of 2 or of 5, whichever is
-- more.
pub places_by_powers : PlacesByPowers
places_by_powers num a b twos fives h = record {
  has = exact_with_powers num a b twos fives (max (a - twos) (b - fives)) h (omega arith, omega arith);
  least = λ p exact. omega (arith, enough_twos num a b twos fives p h exact, enough_fives num a b twos fives p h exact);
}

-- Zero takes no digits after the point.
pub zero_takes_no_places : ZeroTakesNoPlaces
zero_takes_no_places den = record { has = (0, omega arith); least = λ p e. omega arith }

-- A number that is a product of powers of 2 and 5 and a rest has exponents of 2 and 5.
exponents_exist : (turns n left twos fives : ℕ) → left ≤ turns → 0 < left → n ≡ left * (2 ^ twos * 5 ^ fives)
    → HasTwoFive n
exponents_exist zero n left twos fives few some e = absurd (omega (arith, few, some))
exponents_exist (suc turns) n left twos fives few some e = ⊎_elim (λ odd.
    ⊎_elim (λ no_five. (
      twos,
      fives,
      record { left = left; product = e; odd = λ k. omega (arith, odd, k); no_five = λ k. omega (arith, no_five, k) },
    ))
    (λ five.
    let parts = ap (λ m. m * (2 ^ twos * 5 ^ fives)) (let e : left ≡ 5 * (left / 5) = omega (arith, five) in e) in
    exponents_exist turns n (left / 5) twos (suc fives) (omega (arith, few, some, five)) (omega (arith, some, five))
    (rw (pow-succ' 5 fives) (omega (arith, e, parts))))
    (cases_lt 0 (left % 5)))
    (λ two.
    let parts = ap (λ m. m * (2 ^ twos * 5 ^ fives)) (let e : left ≡ 2 * (left / 2) = omega (arith, two) in e) in
    exponents_exist turns n (left / 2) (suc twos) fives (omega (arith, few, some, two)) (omega (arith, some, two))
    (rw (pow-succ' 2 twos) (omega (arith, e, parts))))
    (cases_lt 0 (left % 2))

-- Every number but zero has an exponent of 2 and an exponent of 5.
pub numbers_have_exponents : NumbersHaveTwosAndFives
numbers_have_exponents n some = exponents_exist n n n 0 0 (omega arith) (omega (arith, some)) (omega arith)
