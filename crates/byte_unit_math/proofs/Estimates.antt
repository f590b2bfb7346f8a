-- A quotient by a constant: by a multiplication with its inverse, and by long division.
use Rattle.std.proofs.Common.{◌≡◌, ℕ, ◌+◌, ◌-◌, ◌*◌, ◌/◌, ◌%◌, ◌^◌, ◌<◌, ◌≤◌, arith, ap, sym, ◌∙◌}
use Rattle.std.proofs.Math.Nat.{mul-le-mul_right, le_of_mul-le-mul_right, div-mul-le_self, lt_of_mul-lt-mul_right}
use Rattle.std.proofs.Math.Nat.{lt-div-mul-add, div-lt_iff_lt-mul, div-add-mod, mod-lt, one-le-pow, pow-le-pow_right}
use Rattle.std.proofs.lemmas.Nat.{pow-add, same_from_place, div-add-mod'}
use Rattle.byte_unit_math.specs.Inverse.{HasInverse}

-- The estimate is the quotient n / divisor, or one less.
pub record IsEstimate (n divisor estimate : ℕ) : Type 0 where
  pub enough : estimate * divisor ≤ n
  pub close : n < estimate * divisor + 2 * divisor

-- The estimate of a quotient: the leading bits of n times the inverse, shifted right.
abbrev pub estimate_of : ℕ → ℕ → ℕ → ℕ → ℕ
estimate_of n inverse cut shift = n / 2 ^ cut * inverse / 2 ^ shift

-- The leading bits of n are less than 2^64.
pub leading_bits_fit : {n divisor inverse cut shift : ℕ} → HasInverse n divisor inverse cut shift → n / 2 ^ cut < 2 ^ 64
leading_bits_fit {n} {divisor} {inverse} {cut} {shift} h = grind (arith, div-lt_iff_lt-mul, one-le-pow, pow-add)

-- The product of the leading bits and the inverse is less than 2^128.
pub product_fits :
    {n divisor inverse cut shift : ℕ} → HasInverse n divisor inverse cut shift → n / 2 ^ cut * inverse < 2 ^ 128
product_fits {n} {divisor} {inverse} {cut} {shift} h =
    omega (arith, mul-le-mul_right inverse (leading_bits_fit h), h.fits)

-- The estimate is less than 2^63.
pub estimate_fits :
    {n divisor inverse cut shift : ℕ} → HasInverse n divisor inverse cut shift
    → estimate_of n inverse cut shift < 2 ^ 63
estimate_fits {n} {divisor} {inverse} {cut} {shift} h =
    let power = pow-le-pow_right {n = 2} (omega arith) {i = 65} {j = shift} (omega (arith, h.shift_fits.0)) in
    let few = mul-le-mul_right {m = 2 ^ 65} {n = 2 ^ shift} (2 ^ 63) power in
    (div-lt_iff_lt-mul {k = 2 ^ shift} {x = n / 2 ^ cut * inverse} {y = 2 ^ 63} (omega (arith, power))).1
    (omega (arith, product_fits h, few))

-- The product with the inverse, shifted right, is the quotient or one less.
pub IsEstimate-inverse :
    (n divisor inverse cut shift : ℕ) → HasInverse n divisor inverse cut shift
    → IsEstimate n divisor (estimate_of n inverse cut shift)
IsEstimate-inverse n divisor inverse cut shift h =
    let some_cut : 0 < 2 ^ cut = one-le-pow cut 2 (omega arith) in
    let some_shift : 0 < 2 ^ shift = one-le-pow shift 2 (omega arith) in
    let leading = n / 2 ^ cut in
    let power : 2 ^ (cut + shift) ≡ 2 ^ cut * 2 ^ shift = pow-add 2 cut shift in
    let inverse_low : inverse * divisor ≤ 2 ^ (cut + shift) =
    rw h.inverse_is (div-mul-le_self (2 ^ (cut + shift)) divisor) in
    let inverse_high : 2 ^ (cut + shift) < inverse * divisor + divisor =
    rw h.inverse_is (lt-div-mul-add {a = 2 ^ (cut + shift)} {b = divisor} h.some) in
    let leading_low = mul-le-mul_right (2 ^ shift) (div-mul-le_self n (2 ^ cut)) in
    let leading_high = mul-le-mul_right (2 ^ shift) (lt-div-mul-add {a = n} {b = 2 ^ cut} some_cut) in
    let product_low = mul-le-mul_right leading inverse_low in
    let product_high = mul-le-mul_right leading inverse_high in
    let estimate_low = mul-le-mul_right divisor (div-mul-le_self (leading * inverse) (2 ^ shift)) in
    let estimate_high = mul-le-mul_right divisor (lt-div-mul-add {a = leading * inverse} {b = 2 ^ shift} some_shift) in
    let few_leading = mul-le-mul_right divisor (leading_bits_fit h) in
    let powers = ap (λ m. m * leading) power in
    record {
      enough = le_of_mul-le-mul_right (omega (arith, estimate_low, product_low, leading_low, powers)) some_shift;
      close =
          lt_of_mul-lt-mul_right (2 ^ shift)
          (omega (arith, leading_high, product_high, estimate_high, few_leading, powers, power, h.close, some_shift));
    }

-- A product with the divisor, plus less than the divisor, gives the quotient and the remainder.
pub division_is :
    (n divisor quotient rest : ℕ) → quotient * divisor + rest ≡ n → rest < divisor
    → (quotient ≡ n / divisor) × (rest ≡ n % divisor)
division_is n divisor quotient rest parts below =
    same_from_place quotient rest (n / divisor) (n % divisor) divisor below (mod-lt n (omega (arith, below)))
    (parts ∙ sym (div-add-mod' n divisor))

-- An estimate whose product with the divisor is at most n, and by less than the divisor, is the quotient.
pub quotient_from_bounds : (n divisor quotient : ℕ) → quotient * divisor ≤ n → n - quotient * divisor < divisor
    → quotient ≡ n / divisor
quotient_from_bounds n divisor quotient enough close = grind (arith, division_is)

-- What such a product leaves of n is the remainder.
pub rest_from_bounds :
    (n divisor quotient : ℕ) → quotient * divisor ≤ n → n - quotient * divisor < divisor
    → n - quotient * divisor ≡ n % divisor
rest_from_bounds n divisor quotient enough close = (division_is n divisor quotient _ (omega (arith, enough)) close).1

-- If the estimate is one less than the quotient, it is corrected by one.
pub quotient_after : (n divisor estimate : ℕ) → estimate * divisor + divisor ≤ n → n < estimate * divisor + 2 * divisor
    → estimate + 1 ≡ n / divisor
quotient_after n divisor estimate enough close = grind (arith, division_is)

-- If the estimate is one less than the quotient, the divisor is subtracted once more for the remainder.
pub rest_after : (n divisor estimate : ℕ) → estimate * divisor + divisor ≤ n → n < estimate * divisor + 2 * divisor
    → n - estimate * divisor - divisor ≡ n % divisor
rest_after n divisor estimate enough close = grind (arith, division_is)

-- Long division in base 2^40, of a number of three digits: the digits of the quotient and the last remainder are those
-- of the whole division.
pub long_division :
    (n divisor middle low : ℕ) → 1 ≤ divisor → middle ≡ n / 2 ^ 80 % divisor * 2 ^ 40 + n / 2 ^ 40 % 2 ^ 40
    → low ≡ middle % divisor * 2 ^ 40 + n % 2 ^ 40
    → ((n / 2 ^ 80 / divisor * 2 ^ 40 + middle / divisor) * 2 ^ 40 + low / divisor ≡ n / divisor)
    × (low % divisor ≡ n % divisor)
long_division n divisor middle low some middle_is low_is =
    let high = div-add-mod (n / 2 ^ 80) divisor in
    division_is n divisor ((n / 2 ^ 80 / divisor * 2 ^ 40 + middle / divisor) * 2 ^ 40 + low / divisor) (low % divisor)
    (omega (arith, high, div-add-mod middle divisor, div-add-mod low divisor, middle_is, low_is)) (mod-lt low some)

-- What the proof of the division by an inverse uses.
pub ruleset estimates = (leading_bits_fit, product_fits, estimate_fits, IsEstimate-inverse)

-- The quotient and the remainder, by an estimate that is right or one less.
pub ruleset quotients = (quotient_from_bounds, rest_from_bounds, quotient_after, rest_after)
