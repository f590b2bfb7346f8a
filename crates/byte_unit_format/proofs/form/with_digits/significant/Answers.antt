-- The mask has a bit for each byte, set where it is not a zero, so its highest bit is that of the last such byte.
use Rattle.std.proofs.lemmas.Grind.{common_steps}
use Rattle.std.proofs.Common.{◌≡◌, ◌≢◌, ℕ, Bool, false, ◌+◌, ◌-◌, ◌*◌, ◌/◌, ◌%◌, ◌^◌, ◌<◌, ◌≤◌, eqb, not, get_or, List}
use Rattle.std.proofs.Common.{length, map, take, w8, ap, sym, subst, ◌∙◌, arith, cond}
use Rattle.std.proofs.Math.Nat.{pow-le-pow_right, div-eq_of_lt, div-eq_of_lt-le}
use Rattle.std.proofs.lemmas.Bool.Decides.{nat_tests}
use Rattle.std.proofs.lemmas.List.{length-map, length-take, take_all, get_or-map}
use Rattle.std.proofs.lemmas.Nat.{leading_length, pow-add}
use Rattle.std.proofs.lemmas.Simd.{bitmask_splat, mask_l-lt, bit_mask_l}
use lib.Count.{count_leading_zeros}
use lib.Lanes.{mask_l}
use Rattle.byte_unit_format.proofs.FewPlaces.{exponent_below}
use Rattle.byte_unit_format.proofs.form.with_digits.significant.Goals as goal

-- Whether the byte is not the character `0`, 48.
abbrev is_used : ℕ → Bool
is_used byte = not (eqb byte 48)

-- The number of bits of a mask of 32 bits.
record Bits (vector : List ℕ) (used : ℕ) : Type 0 where
  below : mask_l (map is_used vector) < 2 ^ used
  above : 2 ^ used ≤ 2 * mask_l (map is_used vector) + 1
  few : used ≤ 32

-- The mask, which is that of the bytes that are used.
abbrev mask_of : (digits : List ℕ) → length digits ≡ 32 → (given : ℕ) × (given ≡ mask_l (map is_used (take 32 digits)))
mask_of digits long =
    let all : length (take 32 digits) ≡ 32 = omega (arith, length-take {A = ℕ} 32 digits, long) in
    (_, bitmask_splat w8 (λ a b. not (eqb a b)) (take 32 digits) 32 48 all (omega arith))

-- 64 less the leading zeros of the mask is its number of bits.
bits_of : (digits : List ℕ) (long : length digits ≡ 32)
    → Bits digits (64 - count_leading_zeros 64 (mask_of digits long).0)
bits_of digits long =
    let used = 64 - count_leading_zeros 64 (mask_of digits long).0 in
    let mask = mask_l (map is_used digits) in
    let same : (mask_of digits long).0 ≡ mask =
    (mask_of digits long).1 ∙ ap (λ list. mask_l (map is_used list)) (take_all 32 digits (omega (arith, long))) in
    let small : mask < 2 ^ 32 =
    subst (λ lanes. mask < 2 ^ lanes) (length-map digits is_used ∙ long) (mask_l-lt (map is_used digits)) in
    let found = leading_length 64 mask (omega (arith, small)) in
    let bits_are : found.0 ≡ used = omega (arith, found.1, ap (count_leading_zeros 64) same) in
    let above = subst (λ m. 2 ^ m ≤ 2 * mask + 1) bits_are found.3 in
    let less = exponent_below 2 used 33 (2 * mask + 1) (omega arith) above (omega (arith, small)) in
    record { below = subst (λ m. mask < 2 ^ m) bits_are found.2; above = above; few = omega (arith, less) }

-- The bit of a byte in the mask is 1 if the byte is used, and 0 if not.
bit_of : (vector : List ℕ) (i : ℕ) → i < length vector
    → mask_l (map is_used vector) / 2 ^ i % 2 ≡ cond (is_used (get_or vector i 0)) 1 0
bit_of vector i within =
    bit_mask_l (map is_used vector) i ∙ ap (λ bit. cond bit 1 0) (get_or-map is_used vector i 0 false within)

-- A byte after those that the bits count is the character `0`.
zero_behind : {vector : List ℕ} {used : ℕ} → Bits vector used → (i : ℕ) → used ≤ i → i < length vector
    → get_or vector i 0 ≡ 48
zero_behind {vector} {used} bits i behind within =
    grind (arith, common_steps, pow-le-pow_right {n = 2} (omega arith) behind, bit_of vector i within, div-eq_of_lt)

-- The last byte that the bits count is not the character `0`.
last_is_used : {vector : List ℕ} {used : ℕ} → Bits vector used → (i : ℕ) → i + 1 ≡ used → length vector ≡ 32
    → get_or vector i 0 ≢ 48
last_is_used {vector} {used} bits i last long =
    let within : i < length vector = omega (arith, last, long, bits.few) in
    let next : 2 ^ used ≡ 2 ^ i * 2 = ap (λ n. 2 ^ n) (sym last) ∙ pow-add 2 i 1 in
    let one : (mask_l (map is_used vector)) / 2 ^ i ≡ 1 =
    div-eq_of_lt-le {k = 1} (2 ^ i) (omega (arith, bits.above, next)) (omega (arith, bits.below, next)) in
    λ same. grind (arith, nat_tests, bit_of vector i within, one, same)

-- At most 32 bytes are used.
pub returns-clause-bound : goal.returns-clause-bound
returns-clause-bound c = (bits_of c.args.digits.now (omega (arith, c.told-digits))).few

-- The bytes after them are `0`.
pub returns-clause-zeros : goal.returns-clause-zeros
returns-clause-zeros c = λ i behind within.
    zero_behind (bits_of c.args.digits.now (omega (arith, c.told-digits))) i behind
    (omega (arith, within, c.told-digits))

-- The last of them is not `0`.
pub returns-clause-last : goal.returns-clause-last
returns-clause-last c = λ i last.
    last_is_used (bits_of c.args.digits.now (omega (arith, c.told-digits))) i last (omega (arith, c.told-digits))
