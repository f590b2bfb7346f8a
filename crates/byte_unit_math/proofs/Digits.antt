-- The number that decimal digits represent, the last digits of a number, and digits without trailing zeros.
use Rattle.std.proofs.Common.{◌≡◌, ℕ, zero, suc, ◌+◌, ◌-◌, ◌*◌, ◌/◌, ◌%◌, ◌^◌, ◌<◌, ◌≤◌, List, [], ◌∷◌, ◌++◌, length}
use Rattle.std.proofs.Common.{replicate, take, set, get_or, refl, sym, ap, ◌∙◌, arith, length-append, fold, All}
use Rattle.std.proofs.Math.Nat.{pow-succ', one-le-pow, mul-le-mul_right}
use Rattle.std.proofs.Math.Arith.{mod-mul}
use Rattle.std.proofs.lemmas.Nat.{pow-add, same_from_place}
use Rattle.std.proofs.lemmas.List.{length-replicate, take_more, take_more_set}
use Rattle.std.proofs.lemmas.List.Elements.{All-nil, All-cons, All-head, All-tail}
use Rattle.std.proofs.lemmas.List.Sums.{fold-append}
use Rattle.byte_unit_math.specs.Finite.{Finite, value_of_digits, ulps_of}
use Rattle.byte_unit_math.specs.Digits.{last_digits, at_places, prepend_digit, trim_zeros, trim_expansion}
use Rattle.std.proofs.lemmas.Grind.{common_steps}

-- A power of ten is at least 1.
pub one_le_pow10 : (p : ℕ) → 1 ≤ 10 ^ p
one_le_pow10 p = one-le-pow p 10 (omega arith)

-- Appending digits to a number n multiplies it by ten for each of them and adds their value.
pub fold_digits_from : (n : ℕ) (ds : List ℕ) → fold (λ n d. n * 10 + d) n ds ≡ n * 10 ^ length ds + value_of_digits ds
fold_digits_from n [] = omega arith
fold_digits_from n (d ∷ ds) = rw (pow-succ' 10 (length ds))
    (omega (arith, fold_digits_from (n * 10 + d) ds, fold_digits_from (0 * 10 + d) ds))

-- A first digit counts as often as the power of ten of the digits after it.
pub value_cons : (d : ℕ) (ds : List ℕ) → value_of_digits (d ∷ ds) ≡ d * 10 ^ length ds + value_of_digits ds
value_cons d ds = omega (arith, fold_digits_from (0 * 10 + d) ds)

-- Digits represent less than the power of ten of their number.
pub value_below_power : (ds : List ℕ) → All (λ d. d < 10) ds → value_of_digits ds < 10 ^ length ds
value_below_power [] h = omega arith
value_below_power (d ∷ ds) h =
    let small : d < 10 = All-head (λ d. d < 10) d ds h in
    let first = mul-le-mul_right {m = d + 1} {n = 10} (10 ^ length ds) (omega (arith, small)) in
    let rest = value_below_power ds (All-tail (λ d. d < 10) d ds h) in
    rw (pow-succ' 10 (length ds)) (omega (arith, first, value_cons d ds, rest))

-- Digits are determined by their number and the number that they represent.
pub same_digits :
    (ds es : List ℕ) → All (λ d. d < 10) ds → All (λ d. d < 10) es → length ds ≡ length es
    → value_of_digits ds ≡ value_of_digits es → ds ≡ es
same_digits [] [] h k len e = refl
same_digits [] (x ∷ es) h k len e = absurd (omega (arith, len))
same_digits (d ∷ ds) [] h k len e = absurd (omega (arith, len))
same_digits (d ∷ ds) (x ∷ es) h k len e =
    let l : length ds ≡ length es = omega (arith, len) in
    let hs = All-tail (λ d. d < 10) d ds h in
    let ks = All-tail (λ d. d < 10) x es k in
    let product = ap (λ n. x * 10 ^ n) l in
    let parts = same_from_place d (value_of_digits ds) x (value_of_digits es) (10 ^ length ds) (value_below_power ds hs)
    (rw l (value_below_power es ks)) (omega (arith, product, value_cons d ds, value_cons x es, e)) in
    let rest = same_digits ds es hs ks l parts.1 in
    λ i. parts.0 i ∷ rest i

-- Zeros represent zero.
pub value_zeros : (k : ℕ) → value_of_digits (replicate k 0) ≡ 0
value_zeros zero = refl
value_zeros (suc k) = value_zeros k

-- Digits put together count the first ones times the power of ten of the others, and these.
pub value_append : (ds es : List ℕ)
    → value_of_digits (ds ++ es) ≡ value_of_digits ds * 10 ^ length es + value_of_digits es
value_append ds es = fold-append (λ n d. n * 10 + d) 0 ds es ∙ fold_digits_from (value_of_digits ds) es

-- k trailing zeros multiply the value of digits by 10^k.
pub value_append_zeros : (ds : List ℕ) (k : ℕ) → value_of_digits (ds ++ replicate k 0) ≡ value_of_digits ds * 10 ^ k
value_append_zeros ds k = grind (arith, value_append, length-replicate, value_zeros)

-- The first i + 1 digits represent ten times the number of the first i, plus digit i.
pub value_more : (ds : List ℕ) (i : ℕ) → i < length ds
    → value_of_digits (take (i + 1) ds) ≡ value_of_digits (take i ds) * 10 + get_or ds i 0
value_more ds i within = grind (arith, common_steps, fold-append, take_more)

-- With digit i set to d, the first i + 1 digits represent ten times the number of the first i, plus d.
pub value_more_set : (ds : List ℕ) (i d : ℕ) → i < length ds
    → value_of_digits (take (i + 1) (set ds i d)) ≡ value_of_digits (take i ds) * 10 + d
value_more_set ds i d within = grind (arith, fold-append, take_more_set)

-- The last p digits of a number are p digits.
pub length_last_digits : (p q : ℕ) → length (last_digits p q) ≡ p
length_last_digits zero q = refl
length_last_digits (suc p) q = ap suc (length_last_digits p q)

-- Each of the last p digits of a number is below ten.
pub last_digits_below_ten : (p q : ℕ) → All (λ d. d < 10) (last_digits p q)
last_digits_below_ten zero q = All-nil (λ d. d < 10)
last_digits_below_ten (suc p) q =
    All-cons (λ d. d < 10) (q / 10 ^ p % 10) (last_digits p q) (omega arith) (last_digits_below_ten p q)

-- `q mod 10m` is the next digit, `(q / m) mod 10`, times m, plus `q mod m`.
pub mod_next_power : (q power : ℕ) → 1 ≤ power → q % (10 * power) ≡ q / power % 10 * power + q % power
mod_next_power q power one = mod-mul q (omega arith) one

-- The last p digits of q represent the remainder of q by 10^p.
pub value_of_last_digits : (p q : ℕ) → value_of_digits (last_digits p q) ≡ q % 10 ^ p
value_of_last_digits zero q = omega arith
value_of_last_digits (suc p) q = value_cons (q / 10 ^ p % 10) (last_digits p q)
    ∙ rw (length_last_digits p q, value_of_last_digits p q, pow-succ' 10 p)
    (sym (mod_next_power q (10 ^ p) (one_le_pow10 p)))

-- q / 10^p with p digits after the point, times 10^p, is q.
pub scaled_at_places : (p q : ℕ) → ulps_of (at_places p q) ≡ q
scaled_at_places p q = rw (length_last_digits p q, value_of_last_digits p q) (omega (arith, one_le_pow10 p))

-- `ds` is `front` with trailing zeros.
pub record HasTrailingZeros (ds front : List ℕ) : Type 0 where
  pub zeros : ℕ
  pub list_is : ds ≡ front ++ replicate zeros 0

-- With a digit before both, digits are still those kept and trailing zeros: a zero before only zeros is one of these.
HasTrailingZeros-prepend : (d : ℕ) (es ds : List ℕ) → HasTrailingZeros ds es
    → HasTrailingZeros (d ∷ ds) (prepend_digit d es)
HasTrailingZeros-prepend zero [] ds h = record { zeros = suc h.zeros; list_is = ap (λ l. zero ∷ l) h.list_is }
HasTrailingZeros-prepend (suc d) [] ds h = record { zeros = h.zeros; list_is = ap (λ l. suc d ∷ l) h.list_is }
HasTrailingZeros-prepend d (e ∷ es) ds h = record { zeros = h.zeros; list_is = ap (λ l. d ∷ l) h.list_is }

-- Digits are those without their trailing zeros, and these zeros.
pub HasTrailingZeros-trim : (ds : List ℕ) → HasTrailingZeros ds (trim_zeros ds)
HasTrailingZeros-trim [] = record { zeros = 0; list_is = refl }
HasTrailingZeros-trim (d ∷ ds) = HasTrailingZeros-prepend d (trim_zeros ds) ds (HasTrailingZeros-trim ds)

-- Digits below ten stay so with one more before them.
small_before_digit : (d : ℕ) (es : List ℕ) → d < 10 → All (λ d. d < 10) es → All (λ d. d < 10) (prepend_digit d es)
small_before_digit zero [] h k = k
small_before_digit (suc d) [] h k = All-cons (λ d. d < 10) (suc d) [] h k
small_before_digit d (e ∷ es) h k = All-cons (λ d. d < 10) d (e ∷ es) h k

-- Digits below ten stay so without their trailing zeros.
pub small_without_zeros : (ds : List ℕ) → All (λ d. d < 10) ds → All (λ d. d < 10) (trim_zeros ds)
small_without_zeros [] h = h
small_without_zeros (d ∷ ds) h = small_before_digit d (trim_zeros ds) (All-head (λ d. d < 10) d ds h)
    (small_without_zeros ds (All-tail (λ d. d < 10) d ds h))

-- q / 10^p is the decimal `e`, which has at most p digits after the point.
pub record ShortOf (q p : ℕ) (e : Finite) : Type 0 where
  pub few : length e.digits ≤ p
  pub small : All (λ d. d < 10) e.digits
  pub scaled_is : q ≡ ulps_of e * 10 ^ (p - length e.digits)

-- q / 10^p without trailing zeros is q / 10^p.
pub ShortOf-shortened : (q p : ℕ) → ShortOf q p (trim_expansion (at_places p q))
ShortOf-shortened q p =
    let ds = last_digits p q in
    let front = trim_zeros ds in
    let behind = HasTrailingZeros-trim ds in
    let len : length front + behind.zeros ≡ p =
    grind (arith, ap length behind.list_is, length-append, length-replicate, length_last_digits) in
    let left : p - length front ≡ behind.zeros = omega (arith, len) in
    let value = sym (value_of_last_digits p q)
    ∙ (ap value_of_digits behind.list_is ∙ value_append_zeros front behind.zeros) in
    let power = ap (λ n. q / 10 ^ p * n) (ap (λ n. 10 ^ n) (sym len) ∙ pow-add 10 (length front) behind.zeros) in
    let parts : q ≡ q / 10 ^ p * 10 ^ p + q % 10 ^ p = omega (arith, one_le_pow10 p) in
    record {
      few = omega (arith, len);
      small = small_without_zeros ds (last_digits_below_ten p q);
      scaled_is = rw left (omega (arith, parts, power, value));
    }
