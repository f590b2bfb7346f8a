-- Factors of 2 and 5 divided out of a number.
use Rattle.std.proofs.Common.{◌≡◌, ◌≢◌, ℕ, zero, suc, ◌+◌, ◌*◌, ◌/◌, ◌%◌, ◌^◌, ◌<◌, ◌≤◌, arith, ap, ◌∙◌}
use Rattle.std.specs.Int.{bit_at, trailing_zeros, w128}
use Rattle.std.proofs.Math.Nat.{pow-suc, pow-le-pow_left, mul-le-mul_left, mul-le-mul_right, div-one}
use Rattle.std.proofs.lemmas.Nat.{pow-add, shr-shr}
use Rattle.std.proofs.lemmas.Nat.Bits.{bit_at-trailing_zeros}
use Rattle.byte_unit_math.specs.Bounds.{size_limit}
use Rattle.byte_unit_math.proofs.Scales.{exponent_at_most}

-- A number whose lowest `twos` bits are 0 is a multiple of 2^twos.
pub trailing_zeros_divide : (number twos : ℕ) → ((i : ℕ) → i < twos → bit_at number i ≡ 0)
    → number ≡ number / 2 ^ twos * 2 ^ twos
trailing_zeros_divide number zero zeros = omega (arith, div-one number)
trailing_zeros_divide number (suc twos) zeros =
    let even : number / 2 ^ twos % 2 ≡ 0 = zeros twos (omega arith) in
    let halved : number / 2 ^ twos / 2 ≡ number / 2 ^ suc twos =
    shr-shr number twos 1 ∙ ap (λ n. number / 2 ^ n) (let e : twos + 1 ≡ suc twos = omega arith in e) in
    let parts : number / 2 ^ twos ≡ number / 2 ^ suc twos * 2 = omega (arith, even, halved) in
    let power = ap (λ n. number / 2 ^ suc twos * n) (pow-suc 2 twos) in
    trailing_zeros_divide number twos (λ i l. zeros i (omega (arith, l)))
    ∙ (ap (λ n. n * 2 ^ twos) parts ∙ omega (arith, power))

-- `left` is odd, and times 2^twos * 5^fives it is the number.
pub record FivesOff (number left twos fives : ℕ) : Type 0 where
  pub odd : left % 2 ≢ 0
  pub product : number ≡ left * (2 ^ twos * 5 ^ fives)

-- A number shifted right by its trailing zero bits is odd, and its factors of 2 are as many as these bits.
pub FivesOff-trailing_zeros : (number : ℕ) → 0 < number → number < 2 ^ 128
    → FivesOff number (number / 2 ^ trailing_zeros w128 number) (trailing_zeros w128 number) 0
FivesOff-trailing_zeros number some small =
    let lowest = bit_at-trailing_zeros w128 number some small in
    record {
      odd = λ even. omega (arith, lowest.1, even);
      product = trailing_zeros_divide number (trailing_zeros w128 number) lowest.2 ∙ omega arith;
    }

-- Dividing what is left by a power of 5 adds its exponent to the factors of 5.
pub FivesOff-joined :
    (number left twos fives rest others : ℕ) → FivesOff number left twos fives → left ≡ rest * 5 ^ others → rest % 2 ≢ 0
    → FivesOff number rest twos (fives + others)
FivesOff-joined number left twos fives rest others h parts odd =
    let power = ap (λ n. rest * (2 ^ twos * n)) (pow-add 5 fives others) in
    record { odd = odd; product = h.product ∙ (ap (λ n. n * (2 ^ twos * 5 ^ fives)) parts ∙ omega (arith, power)) }

-- Dividing what is left by five is one factor of 5 more.
pub FivesOff-more :
    (number left twos fives fifth : ℕ) → FivesOff number left twos fives → fifth * 5 ≡ left
    → FivesOff number fifth twos (fives + 1)
FivesOff-more number left twos fives fifth h parts =
    FivesOff-joined number left twos fives fifth 1 h (omega (arith, parts)) (λ even. h.odd (omega (arith, parts, even)))

-- A number below 10^30 has at most 99 factors of 2 and 5 together.
pub FivesOff-few : (number left twos fives : ℕ) → number < size_limit → FivesOff number left twos fives
    → twos + fives ≤ 99
FivesOff-few number left twos fives small h =
    let powers = mul-le-mul_left (2 ^ twos) (pow-le-pow_left {n = 2} {m = 5} (omega arith) fives) in
    let some : 1 ≤ left = omega (arith, h.odd) in
    let product = mul-le-mul_right (2 ^ twos * 5 ^ fives) some in
    exponent_at_most 2 99 (twos + fives) size_limit (omega arith)
    (omega (arith, pow-add 2 twos fives, powers, product, h.product, small)) (omega arith)
