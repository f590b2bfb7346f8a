-- Expansions, their texts and nearest decimals are unique, and an expansion is found by division.
--
-- That a fraction is exact at some places, as `h`, is a count, `h.0`, and an equation, `h.1`.
use Rattle.std.proofs.lemmas.Grind.{common_steps}
use Rattle.std.proofs.Common.{◌≡◌, ◌+◌, ◌-◌, ◌*◌, ◌^◌, ◌/◌, ◌<◌, ◌≤◌, ⊎_elim, ℕ, zero, suc, List, [], ◌∷◌, ◌++◌, length}
use Rattle.std.proofs.Common.{get_or, replicate, arith, ap, sym, refl, subst, ◌∙◌, length-append, append-nil, All}
use Rattle.std.specs.Prelude.{⊤}
use Rattle.std.proofs.lemmas.List.{length-replicate, take_all}
use Rattle.std.proofs.lemmas.List.Elements.{All-append, All-replicate}
use Rattle.std.proofs.lemmas.Nat.{same_from_place}
use Rattle.std.proofs.Math.Nat.{eq_of_mul-eq-mul_right, mul-div_cancel, mul-le-mul_right, le_of_mul-le-mul_right}
use Rattle.std.proofs.Math.Nat.{mul-sub}
use Rattle.std.proofs.lemmas.Bool.{cases_lt}
use Rattle.byte_unit_math.specs.Bounds.{expansion_places}
use Rattle.byte_unit_math.specs.Exact.{IsExactAt, IsLeastPlaces}
use Rattle.std.specs.Int.{abs_diff}
use Rattle.byte_unit_math.specs.Nearest.{IsNearest}
use Rattle.byte_unit_math.specs.declared.expansion.Ties.{Ties}
use Rattle.byte_unit_math.specs.declared.expansion.Ties.TheVariants.{Even, Up}
use Rattle.byte_unit_math.specs.Finite.{Finite, value_of_digits, ulps_of, IsExpansion}
use Rattle.byte_unit_math.specs.Digits.{last_digits, at_places, prepend_digit, trim_zeros, trim_expansion, expansion_of}
use Rattle.byte_unit_math.specs.NumberLaws.{ExpansionsAreFoundByDivision, ShortNumeralsAreExpansions}
use Rattle.byte_unit_math.specs.Numeral.{text_of, numeral, short_numeral}
use Rattle.byte_unit_math.specs.Padded.{pad_of}
use Rattle.byte_unit_math.proofs.Digits.{one_le_pow10, value_append_zeros, length_last_digits, value_below_power}
use Rattle.byte_unit_math.proofs.Digits.{same_digits, last_digits_below_ten, scaled_at_places, ShortOf-shortened}
use Rattle.byte_unit_math.proofs.Expanding.{expansion_of_digits}
use Rattle.byte_unit_math.proofs.Scales.{pow10_split}

-- Two decimals with as many digits after the point and the same scaled value are equal.
pub same_finite : (e f : Finite) → All (λ d. d < 10) e.digits → All (λ d. d < 10) f.digits
    → length e.digits ≡ length f.digits → ulps_of e ≡ ulps_of f → e ≡ f
same_finite e f h k len same =
    let product = ap (λ n. f.whole * 10 ^ n) len in
    let parts =
    same_from_place e.whole (value_of_digits e.digits) f.whole (value_of_digits f.digits) (10 ^ length e.digits)
    (value_below_power e.digits h) (rw len (value_below_power f.digits k)) (omega (arith, same, product)) in
    let digits = same_digits e.digits f.digits h k len parts.1 in
    λ i. record { whole = parts.0 i; digits = digits i }

-- A fraction has only one expansion.
pub expansion_unique : (num den : ℕ) (e f : Finite) → 0 < den → IsExpansion num den e → IsExpansion num den f → e ≡ f
expansion_unique num den e f positive h k =
    let no_more = h.least (length f.digits) (ulps_of f, k.exact) in
    let no_fewer = k.least (length e.digits) (ulps_of e, h.exact) in
    let len : length e.digits ≡ length f.digits = omega (arith, no_more, no_fewer) in
    let same : ulps_of e * den ≡ ulps_of f * den = sym h.exact ∙ (ap (λ n. num * 10 ^ n) len ∙ k.exact) in
    same_finite e f h.small k.small len (eq_of_mul-eq-mul_right den positive (ulps_of e) (ulps_of f) same)

-- The last digit is not zero.
abbrev EndsSome : List ℕ → Type 0
EndsSome [] = ⊤
EndsSome (d ∷ []) = 0 < d
EndsSome (d ∷ e ∷ es) = EndsSome (e ∷ es)

-- With a digit before them, digits still do not end in zero.
ends_before_digit : (d : ℕ) (es : List ℕ) → EndsSome es → EndsSome (prepend_digit d es)
ends_before_digit zero [] h = h
ends_before_digit (suc d) [] h = omega arith
ends_before_digit d (e ∷ es) h = h

-- Digits without their trailing zeros do not end in zero.
ends_without_zeros : (ds : List ℕ) → EndsSome (trim_zeros ds)
ends_without_zeros [] = tt
ends_without_zeros (d ∷ ds) = ends_before_digit d (trim_zeros ds) (ends_without_zeros ds)

-- The last of digits that do not end in zero is positive.
ends_last : (ds : List ℕ) → EndsSome ds → 0 < length ds → 0 < get_or ds (length ds - 1) 0
ends_last [] h k = absurd (omega (arith, k))
ends_last (d ∷ []) h k = h
ends_last (d ∷ e ∷ es) h k =
    let back : suc (suc (length es)) - 1 ≡ suc (suc (length es) - 1) = omega arith in
    rw back (ends_last (e ∷ es) h (omega arith))

-- q / 10^p without trailing zeros is its expansion.
pub short_numeral_is_expansion : ShortNumeralsAreExpansions
short_numeral_is_expansion q p =
    let e = trim_expansion (at_places p q) in
    let is_short = ShortOf-shortened q p in
    let exact = ap (λ n. n * 10 ^ length e.digits) is_short.scaled_is in
    let product = ap (λ n. ulps_of e * n) (pow10_split (length e.digits) p is_short.few) in
    expansion_of_digits q (10 ^ p) e.whole e.digits (omega (arith, one_le_pow10 p))
    (record {
      small = is_short.small;
      exact = omega (arith, exact, product);
      last = ends_last e.digits (ends_without_zeros (last_digits p q));
    })

-- The text of the expansion of q / 10^p is the numeral of q without trailing zeros.
pub text_of_short_numeral : (q p : ℕ) (e : Finite) → IsExpansion q (10 ^ p) e → text_of e ≡ short_numeral q p
text_of_short_numeral q p e h =
    ap text_of (expansion_unique q (10 ^ p) e (trim_expansion (at_places p q)) (omega (arith, one_le_pow10 p)) h
    (short_numeral_is_expansion q p))

-- The text of the expansion of q / 10^p, padded to p digits after the point, is the numeral with all p digits.
pub text_of_padded : (q p : ℕ) (e : Finite) → IsExpansion q (10 ^ p) e → text_of (pad_of p e) ≡ numeral q p
text_of_padded q p e h =
    let len = length e.digits in
    let few : len ≤ p = h.least p (q, refl) in
    let zeros = replicate {A = ℕ} (p - len) 0 in
    let f : Finite = record { whole = e.whole; digits = e.digits ++ zeros } in
    let count : length f.digits ≡ p =
    omega (arith, length-append e.digits zeros, length-replicate {A = ℕ} (p - len) 0, few) in
    let power = ap (λ n. value_of_digits e.digits * n) (pow10_split len p few) in
    let same : ulps_of f ≡ q = eq_of_mul-eq-mul_right (10 ^ len) (one_le_pow10 len) (ulps_of f) q
    (rw (count, value_append_zeros e.digits (p - len)) (omega (arith, h.exact, power))) in
    let small = All-append (λ d. d < 10) e.digits zeros h.small
    (All-replicate (λ d. d < 10) (p - len) 0 (omega arith)) in
    let padded : pad_of p e ≡ at_places p q =
    rw (take_all p e.digits few) (same_finite f (at_places p q) small (last_digits_below_ten p q)
    (count ∙ sym (length_last_digits p q)) (same ∙ sym (scaled_at_places p q))) in
    ap text_of padded

-- Padded to its own number of digits after the point, a decimal is unchanged.
pub padded_to_own_places : (e : Finite) → pad_of (length e.digits) e ≡ e
padded_to_own_places e = grind (arith, append-nil, take_all)

-- A difference times k is the difference of the numbers times k.
difference_times : (a b k : ℕ) → abs_diff a b * k ≡ abs_diff (a * k) (b * k)
difference_times a b k = omega (arith, mul-sub k a b, mul-sub k b a)

-- What is nearest to the expansion of a fraction is nearest to the fraction.
pub nearest_of_expansion :
    (num den : ℕ) (e : Finite) (p : ℕ) (ties : Ties) (q : ℕ)
    → (0 < den) × (num * 10 ^ length e.digits ≡ ulps_of e * den)
    → IsNearest (ulps_of e) (10 ^ length e.digits) p ties q → IsNearest num den p ties q
nearest_of_expansion num den e p ties q is_exact h =
    let power = 10 ^ length e.digits in
    let number = ulps_of e in
    let exact = ap (λ n. n * 10 ^ p) is_exact.1 in
    let same : (o : ℕ) → abs_diff (o * power) (number * 10 ^ p) * den ≡ abs_diff (o * den) (num * 10 ^ p) * power =
    λ o. let this = difference_times (o * power) (number * 10 ^ p) den in
    omega (arith, exact, this, difference_times (o * den) (num * 10 ^ p) power) in
    record {
      nearest = λ o. le_of_mul-le-mul_right {k = power}
          (omega (arith, mul-le-mul_right den (h.nearest o), same q, same o)) (one_le_pow10 (length e.digits));
      tie = λ o n k. h.tie o n (eq_of_mul-eq-mul_right den is_exact.0 _ _
          (same o ∙ (ap (λ x. x * power) k ∙ sym (same q))));
    }

-- Two fractions with positive denominators are equal.
pub record SameFraction (num den num' den' : ℕ) : Type 0 where
  pub positive : 0 < den
  pub positive' : 0 < den'
  pub same : num * den' ≡ num' * den

-- If a fraction is `count` times 10^-p, so is each fraction that is equal to it.
same_places :
    (num den num' den' p count : ℕ) → SameFraction num den num' den' → num' * 10 ^ p ≡ count * den'
    → num * 10 ^ p ≡ count * den
same_places num den num' den' p count h exact =
    let power = ap (λ n. n * 10 ^ p) h.same in
    let times = ap (λ n. n * den) exact in
    eq_of_mul-eq-mul_right den' h.positive' (num * 10 ^ p) (count * den) (omega (arith, power, times))

-- Equal fractions are exact with the same least number of digits after the point.
pub IsLeastPlaces-same_fraction : {num den num' den' p : ℕ} → SameFraction num den num' den' → IsLeastPlaces num den p
    → IsLeastPlaces num' den' p
IsLeastPlaces-same_fraction {num} {den} {num'} {den'} {p} same h =
    let swapped : SameFraction num' den' num den =
    record { positive = same.positive'; positive' = same.positive; same = sym same.same } in
    record {
      has = (h.has.0, same_places num' den' num den p h.has.0 swapped h.has.1);
      least = λ fewer k. h.least fewer (k.0, same_places num den num' den' fewer k.0 same k.1);
    }

-- Equal fractions have the same expansion.
pub expansion_of_same_fraction :
    (num den num' den' : ℕ) (e : Finite) → SameFraction num den num' den' → IsExpansion num den e
    → IsExpansion num' den' e
unfolding IsLeastPlaces-same_fraction
expansion_of_same_fraction num den num' den' e same h =
    let least = IsLeastPlaces-same_fraction same (record { has = (ulps_of e, h.exact); least = h.least }) in
    record { small = h.small; exact = least.has.1; least = least.least }

-- If num / den is exact with 93 digits after the point, the quotient cut off there without trailing zeros is its
-- expansion.
pub expansion_of_is_expansion : (num den : ℕ) → 0 < den → IsExactAt num den expansion_places
    → IsExpansion num den (expansion_of num den)
expansion_of_is_expansion num den some ends =
    let p = expansion_places in
    let quotient : num * 10 ^ p / den ≡ ends.0 = ap (λ n. n / den) ends.1 ∙ mul-div_cancel ends.0 some in
    let ExpandsTo : ℕ → Type 0 = λ q. IsExpansion num den (trim_expansion (at_places p q)) in
    subst ExpandsTo (sym quotient)
    (expansion_of_same_fraction ends.0 (10 ^ p) num den (trim_expansion (at_places p ends.0))
    (record { positive = omega arith; positive' = some; same = sym ends.1 }) (short_numeral_is_expansion ends.0 p))

-- If num / den is exact with 93 digits after the point, each expansion of it is the quotient cut off there.
pub expansion_is_by_division :
    (num den : ℕ) (e : Finite) → 0 < den → IsExactAt num den expansion_places → IsExpansion num den e
    → e ≡ expansion_of num den
expansion_is_by_division num den e some ends h =
    expansion_unique num den e (expansion_of num den) some h (expansion_of_is_expansion num den some ends)

-- If num / den is exact with 93 digits after the point, its expansions are exactly the quotient cut off there.
pub expansions_by_division : ExpansionsAreFoundByDivision
expansions_by_division num den e other ends =
    let some : 0 < den = ⊎_elim (λ l. l) (λ k. absurd (other (omega (arith, k)))) (cases_lt 0 den) in (
      λ h. expansion_is_by_division num den e some ends h,
      λ is. subst (IsExpansion num den) (sym is) (expansion_of_is_expansion num den some ends),
    )

-- q and r are both nearest to num / den.
pub record BothNearest (num den p : ℕ) (ties : Ties) (q r : ℕ) : Type 0 where
  pub positive : 0 < den
  pub this : IsNearest num den p ties q
  pub other : IsNearest num den p ties r

-- Two nearest counts are equally far from the fraction.
equally_far :
    (num den p : ℕ) (ties : Ties) (q r : ℕ) → BothNearest num den p ties q r
    → abs_diff (r * den) (num * 10 ^ p) ≡ abs_diff (q * den) (num * 10 ^ p)
equally_far num den p ties q r h = grind (arith)

-- Of two nearest counts, the greater is not two or more above the other.
not_between : (num den p : ℕ) (ties : Ties) (q r : ℕ) → BothNearest num den p ties q r → q + 1 < r → ⊥
not_between num den p ties q r h apart =
    let product = mul-le-mul_right {m = q + 2} {n = r} den (omega (arith, apart)) in
    absurd (omega (arith, product, equally_far num den p ties q r h, h.this.nearest (q + 1), h.positive))

-- Of two nearest counts, none is below the other.
not_below : (num den p : ℕ) (ties : Ties) (q r : ℕ) → BothNearest num den p ties q r → q < r → ⊥
not_below num den p Up q r h less = grind (arith, common_steps, equally_far num den p Up q r h)
not_below num den p Even q r h less = grind (arith, common_steps, equally_far num den p Even q r h, not_between)

-- Only one decimal with p digits after the point is nearest, since ties are broken.
pub nearest_unique : (num den p : ℕ) (ties : Ties) (q r : ℕ) → BothNearest num den p ties q r → q ≡ r
nearest_unique num den p ties q r h = grind (arith, not_below)
