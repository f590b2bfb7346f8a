-- A decimal cut off after some digits: whether it or the next one is nearest, and the expansion that is left without
-- the trailing zeros or nines.
use Rattle.std.proofs.Common.{◌≢◌, ◌≡◌, ◌+◌, ◌-◌, ◌*◌, ◌^◌, ◌%◌, ◌<◌, ◌≤◌, ℕ, List, length, take, drop, get_or, arith}
use Rattle.std.proofs.Common.{ap, sym, ◌∙◌, add-one, length-take-le, take-append-drop, length-drop, drop-cons, Bool}
use Rattle.std.proofs.Common.{true, false, ltb, nat_eq, zero, suc, [], ◌++◌, set, replicate, All, fold, get_or-take}
use Rattle.std.proofs.Common.{get_or-drop, length-take, length-set, length-append, get_or-set_same, take-take, take_at}
use Rattle.std.proofs.Common.{drop_at, drop-set-lt, pow-add, MatchBool}
use Rattle.std.proofs.lemmas.List.{take_more, take_more_set, length-replicate}
use Rattle.std.proofs.lemmas.List.Elements.{All-take, All-get_or, All-drop, All-nil, All-replicate, All-set, All-append}
use Rattle.std.proofs.Math.Nat.{pow-succ', mul-le-mul_right, mul-lt-mul_of_pos_right}
use Rattle.byte_unit_math.specs.Bounds.{expansion_places, whole_limit}
use Rattle.byte_unit_math.specs.Finite.{Finite, value_of_digits, ulps_of, cut_after, IsExpansion}
use Rattle.byte_unit_math.specs.Nearest.{IsNearest}
use Rattle.byte_unit_math.specs.declared.expansion.Ties.{Ties}
use Rattle.byte_unit_math.specs.declared.expansion.Ties.TheVariants.{Even, Up}
use Rattle.byte_unit_math.specs.declared.expansion.Expansion.TheInside.{Inside}
use Rattle.byte_unit_math.specs.ExpansionFields.{expansion_view, IsNormalizedExpansion}
use Rattle.byte_unit_math.proofs.Digits.{one_le_pow10, value_append, value_more, value_cons, value_below_power}
use Rattle.byte_unit_math.proofs.Digits.{value_append_zeros}
use Rattle.std.proofs.lemmas.Bool.Decides.{nat_tests}
use Rattle.byte_unit_math.proofs.Nearest.{LiesAbove, nearest_down, nearest_up, tie_up_next, tie_even_next}
use Rattle.byte_unit_math.proofs.Nearest.{tie_even_this}
use Rattle.byte_unit_math.proofs.Expanding.{expansion_of_digits, value_by_last_digit, expansion_of_first_digits}
use Rattle.byte_unit_math.proofs.Scales.{pow10_split, power_of_sum}
use Rattle.std.proofs.lemmas.Grind.{common_steps}
use Rattle.std.proofs.lemmas.List.Sums.{fold-append}

-- A decimal is the decimal cut off after p digits, and the digits that are cut off.
pub cut_split :
    (e : Finite) (p : ℕ) → p ≤ length e.digits
    → ulps_of e * 10 ^ p ≡ ulps_of (cut_after p e) * 10 ^ length e.digits + value_of_digits (drop p e.digits) * 10 ^ p
cut_split e p h =
    let ds = e.digits in
    let value = ap value_of_digits (sym (take-append-drop p ds)) ∙ value_append (take p ds) (drop p ds) in
    let power = power_of_sum 10 (length ds) p (length (drop p ds)) (omega (arith, length-drop p ds, h)) in
    rw (length-take-le p ds h)
    (omega (arith, ap (λ n. n * 10 ^ p) value, ap (λ n. value_of_digits (take p ds) * n) power))

-- A decimal has at most 93 digits after the point, each below ten, and the last is not zero.
pub record IsTrimmed (e : Finite) : Type 0 where
  pub few : length e.digits ≤ expansion_places
  pub small : All (λ d. d < 10) e.digits
  pub last : 0 < length e.digits → 0 < get_or e.digits (length e.digits - 1) 0

-- The decimal cut off after p digits is nearest.
abbrev CutIsNearest : Finite → ℕ → Ties → Type 0
CutIsNearest e p ties = IsNearest (ulps_of e) (10 ^ length e.digits) p ties (ulps_of (cut_after p e))

-- One more in the last digit of the decimal cut off after p digits is nearest.
abbrev NextIsNearest : Finite → ℕ → Ties → Type 0
NextIsNearest e p ties = IsNearest (ulps_of e) (10 ^ length e.digits) p ties (ulps_of (cut_after p e) + 1)

-- The digits that are cut off, compared with one half.
module _ (e : Finite) (p : ℕ) (h : IsTrimmed e) (l : p < length e.digits) where
  -- The digits that are cut off, as a number.
  abbrev cut_value : ℕ
  cut_value = value_of_digits (drop p e.digits)

  -- The digits after the first one that is cut off: their power of ten, and the digits as a number.
  abbrev rest_power : ℕ
  rest_power = 10 ^ length (drop (p + 1) e.digits)

  -- The digits after the first one that is cut off, as a number.
  abbrev rest_value : ℕ
  rest_value = value_of_digits (drop (p + 1) e.digits)

  -- The digits that are cut off are the first one, times the power of ten of the others, plus the others.
  cut_value_is : cut_value ≡ get_or e.digits p 0 * rest_power + rest_value
  cut_value_is = grind (arith, common_steps, add-one, drop-cons, value_cons)

  -- The digits after the first one that is cut off are below their power of ten.
  rest_value_small : rest_value < rest_power
  rest_value_small = value_below_power (drop (p + 1) e.digits) (All-drop (λ d. d < 10) (p + 1) e.digits h.small)

  -- The power of ten of all digits is that of the p digits kept times that of the digits cut off.
  power_is : 10 ^ length e.digits ≡ 10 ^ p * (10 * rest_power)
  power_is = grind (arith, common_steps, add-one, length-drop, pow-add, pow-succ')

  -- The digits that are cut off are below their power of ten.
  cut_below : cut_value < 10 * rest_power
  cut_below = grind (arith, All-get_or, cut_value_is, mul-le-mul_right, rest_value_small)

  -- A comparison stays when both sides are scaled by 10^p.
  scaled : {a b : ℕ} → a < b → a * 10 ^ p < b * 10 ^ p
  scaled less = mul-lt-mul_of_pos_right {k = 10 ^ p} less (one_le_pow10 p)

  -- The decimal is the one cut off after p digits plus the digits cut off, which are less than one in its last digit.
  cut_lies : LiesAbove (ulps_of e) (10 ^ length e.digits) p (ulps_of (cut_after p e)) (cut_value * 10 ^ p)
  cut_lies = record { split = cut_split e p (omega (arith, l)); below = omega (arith, scaled cut_below, power_is) }

  -- If the digits cut off are below half of their power of ten, they are below half of one in the last digit kept.
  below_half_from : 2 * cut_value < 10 * rest_power → 2 * (cut_value * 10 ^ p) < 10 ^ length e.digits
  below_half_from below = omega (arith, scaled below, power_is)

  -- If the digits cut off are above half of their power of ten, they are above half of one in the last digit kept.
  above_half_from : 10 * rest_power < 2 * cut_value → 10 ^ length e.digits < 2 * (cut_value * 10 ^ p)
  above_half_from above = omega (arith, scaled above, power_is)

  -- If the first digit cut off is below 5, less than half is cut off.
  below_half : get_or e.digits p 0 < 5 → 2 * (cut_value * 10 ^ p) < 10 ^ length e.digits
  below_half small = grind (arith, below_half_from, cut_value_is, mul-le-mul_right, rest_value_small)

  -- If the first digit cut off is above 5, more than half is cut off.
  above_half : 5 < get_or e.digits p 0 → 10 ^ length e.digits < 2 * (cut_value * 10 ^ p)
  above_half great = grind (arith, above_half_from, cut_value_is, mul-le-mul_right, rest_value_small)

  -- If more than one digit is cut off, those after the first are not all zero, since the last one is not.
  rest_value_positive : p + 1 < length e.digits → 0 < rest_value
  rest_value_positive k = grind (arith, get_or-drop, length-drop, value_by_last_digit)

  -- If a single digit is cut off, and it is 5, just half is cut off.
  just_half : get_or e.digits p 0 ≡ 5 → length e.digits ≤ p + 1
      → 2 * (cut_value * 10 ^ p) ≡ 10 ^ length e.digits
  just_half five k = grind (arith, cut_value_is, length-drop, power_is, rest_value_small)

  -- If the first digit that is cut off is not 5, the decimal is rounded up if it is greater and down if it is less.
  pub nearest_by_digit : (next : ℕ) (ties : Ties) → next ≡ get_or e.digits p 0 → next ≢ 5
      → MatchBool (ltb 5 next) (NextIsNearest e p ties) (CutIsNearest e p ties)
  nearest_by_digit next ties same other =
      let down = nearest_down (ulps_of e) (10 ^ length e.digits) p (ulps_of (cut_after p e)) _ cut_lies ties in
      let up = nearest_up (ulps_of e) (10 ^ length e.digits) p (ulps_of (cut_after p e)) _ cut_lies ties in
      grind (arith, nat_tests, down, up, below_half, above_half)

  -- If the first digit that is cut off is 5 and more digits follow, the decimal is rounded up.
  pub nearest_after_five : (ties : Ties) → get_or e.digits p 0 ≡ 5 → p + 1 < length e.digits → NextIsNearest e p ties
  nearest_after_five ties five k =
      nearest_up _ _ p _ _ cut_lies ties (grind (arith, above_half_from, cut_value_is, rest_value_positive))

  -- If the first digit that is cut off is 5 and none follows, and ties go up, the decimal is rounded up.
  pub tie_goes_up : get_or e.digits p 0 ≡ 5 → length e.digits ≤ p + 1 → NextIsNearest e p Up
  tie_goes_up five k = tie_up_next _ _ p _ _ cut_lies (just_half five k)

  -- If the first digit that is cut off is 5 and none follows, and ties go to even, it is rounded up only if the cut
  -- number is odd.
  pub tie_goes_even : (is_odd : Bool) → get_or e.digits p 0 ≡ 5 → length e.digits ≤ p + 1
      → MatchBool is_odd (ulps_of (cut_after p e) % 2 ≡ 1) (ulps_of (cut_after p e) % 2 ≡ 0)
      → MatchBool is_odd (NextIsNearest e p Even) (CutIsNearest e p Even)
  tie_goes_even true five k odd = tie_even_next _ _ p _ _ cut_lies (just_half five k) odd
  tie_goes_even false five k even = tie_even_this _ _ p _ _ cut_lies (just_half five k) even

-- If p is not 0, a decimal cut off after p digits is, without its point, an odd number if and only if its last digit is
-- odd.
pub odd_by_last_digit : (e : Finite) (p : ℕ) → 0 < p → p ≤ length e.digits
    → ulps_of (cut_after p e) % 2 ≡ get_or e.digits (p - 1) 0 % 2
odd_by_last_digit e p some h =
    let ds = e.digits in
    let value = ap (λ k. value_of_digits (take k ds)) (let k : p ≡ p - 1 + 1 = omega (arith, some) in k)
    ∙ value_more ds (p - 1) (omega (arith, some, h)) in
    rw (length-take-le p ds h) (omega (arith, value, ap (λ n. e.whole * n) (pow10_split 1 p some)))

-- Rounded to as many digits after the point as it has, or to more, a decimal is unchanged.
pub rounded_to_itself :
    (e : Finite) (p : ℕ) (ties : Ties) → IsTrimmed e → length e.digits ≤ p
    → (q : ℕ) × IsNearest (ulps_of e) (10 ^ length e.digits) p ties q × IsExpansion q (10 ^ p) e
rounded_to_itself e p ties h few =
    let len = length e.digits in
    let q = ulps_of e * 10 ^ (p - len) in
    let product = ap (λ n. ulps_of e * n) (pow10_split len p few) in
    let exact : ulps_of e * 10 ^ p ≡ q * 10 ^ len + 0 = omega (arith, product) in (
      q,
      nearest_down (ulps_of e) (10 ^ len) p q 0 (record { split = exact; below = omega (arith, one_le_pow10 len) }) ties
          (omega (arith, one_le_pow10 len)),
      expansion_of_digits q (10 ^ p) e.whole e.digits (omega (arith, one_le_pow10 p))
          (record { small = h.small; exact = omega (arith, product); last = h.last }),
    )

-- If a number and its last digit are odd or even together, a test of the digit tells whether the number is odd.
pub is_odd_by_digit : (d t : ℕ) → t % 2 ≡ d % 2 → MatchBool (nat_eq (d % 2) 1) (t % 2 ≡ 1) (t % 2 ≡ 0)
is_odd_by_digit d t same = grind (arith, nat_tests)

-- The decimal of fields that satisfy their invariant has at most 93 digits, and the last is not zero.
pub IsTrimmed-view : (i : Inside) (e : Finite) → IsNormalizedExpansion i → expansion_view i ≡ e → IsTrimmed e
IsTrimmed-view i e h v = grind (arith, All-take, get_or-take, length-take-le)

-- The decimal of the fields has as many digits after the point as its field `places`.
pub length_of_view : (i : Inside) (e : Finite) → IsNormalizedExpansion i → expansion_view i ≡ e
    → length e.digits ≡ i.places
length_of_view i e h v = grind (arith, length-take-le)

-- What decides whether a decimal is rounded up.
pub ruleset rounding =
    (nearest_by_digit, nearest_after_five, tie_goes_up, tie_goes_even, IsTrimmed-view, length_of_view)

-- The first p digits of `e` are its first `kept` digits and then only `digit`; the last of those kept is another digit.
pub record EndsInRunOf (e : Finite) (p kept digit : ℕ) : Type 0 where
  pub within : p ≤ length e.digits
  pub few : kept ≤ p
  pub same : take p e.digits ≡ take kept e.digits ++ replicate (p - kept) digit
  pub stops : 0 < kept → get_or e.digits (kept - 1) 0 ≢ digit

-- An array of 93 digits begins with the first `kept` digits of `e`, and zeros follow.
pub record BeginsWith (e : Finite) (kept : ℕ) (ds : List ℕ) : Type 0 where
  pub size : length ds ≡ expansion_places
  pub front : take kept ds ≡ take kept e.digits
  pub small : All (λ d. d < 10) ds
  pub rest : drop kept ds ≡ replicate (expansion_places - kept) 0

-- If the digits from the index `kept` on are set to 0, the array begins with the first `kept` digits.
pub cleared : (i : Inside) (e : Finite) (kept : ℕ) (ds : List ℕ) → IsNormalizedExpansion i → expansion_view i ≡ e
    → kept ≤ length e.digits → ds ≡ take kept i.digits ++ replicate (expansion_places - kept) 0 → BeginsWith e kept ds
cleared i e kept ds h v few is =
    let within : kept ≤ length i.digits = grind (arith, length-take-le) in
    let size = length-take-le kept i.digits within in
    let front : take kept e.digits ≡ take kept i.digits = grind (arith, take-take, length-take-le) in
    rw is (record {
      size = grind (arith, length-append, length-replicate, size, within);
      front = take_at (take kept i.digits) (replicate (expansion_places - kept) 0) kept size ∙ sym front;
      small = All-append (λ d. d < 10) (take kept i.digits) (replicate (expansion_places - kept) 0)
          (All-take (λ d. d < 10) kept i.digits h.small) (All-replicate (λ d. d < 10) (expansion_places - kept) 0 (omega arith));
      rest = drop_at (take kept i.digits) (replicate (expansion_places - kept) 0) kept size;
    })

-- The decimal cut off after p digits, times 10^p, is its whole part times 10^p plus the p digits.
scaled_cut : (e : Finite) (p : ℕ) → p ≤ length e.digits
    → ulps_of (cut_after p e) ≡ e.whole * 10 ^ p + value_of_digits (take p e.digits)
scaled_cut e p within = grind (arith, length-take-le)

-- If the last of them are zeros, the decimal cut off after p digits is that of the digits kept, times a power of ten.
scaled_zeros :
    (e : Finite) (p kept : ℕ) → EndsInRunOf e p kept 0
    → ulps_of (cut_after p e) ≡ (e.whole * 10 ^ kept + value_of_digits (take kept e.digits)) * 10 ^ (p - kept)
scaled_zeros e p kept h =
    let product = ap (λ n. e.whole * n) (pow10_split kept p h.few) in
    let value = ap value_of_digits h.same ∙ value_append_zeros (take kept e.digits) (p - kept) in
    scaled_cut e p h.within ∙ omega (arith, product, value)

-- k nines after a number, plus one, are the number plus one, times 10^k.
fold_nines : (n k : ℕ) → fold (λ n d. n * 10 + d) n (replicate k 9) + 1 ≡ (n + 1) * 10 ^ k
fold_nines n zero = omega arith
fold_nines n (suc k) = rw (pow-succ' 10 k) (omega (arith, fold_nines (n * 10 + 9) k))

-- If the last of them are nines, the decimal cut off after p digits, plus one in its last digit, is that of the digits
-- kept, plus one in their last digit, times a power of ten.
scaled_nines :
    (e : Finite) (p kept : ℕ) → EndsInRunOf e p kept 9
    → ulps_of (cut_after p e) + 1 ≡ (e.whole * 10 ^ kept + (value_of_digits (take kept e.digits) + 1)) * 10 ^ (p - kept)
scaled_nines e p kept h =
    let product = ap (λ n. e.whole * n) (pow10_split kept p h.few) in
    let value = ap value_of_digits h.same
    ∙ fold-append (λ n d. n * 10 + d) 0 (take kept e.digits) (replicate (p - kept) 9) in
    let nines = fold_nines (value_of_digits (take kept e.digits)) (p - kept) in
    ap (λ n. n + 1) (scaled_cut e p h.within) ∙ omega (arith, product, value, nines)

-- The last of the digits that are kept is the same in the array.
same_last_digit :
    (e : Finite) (kept : ℕ) (ds : List ℕ) → BeginsWith e kept ds → 0 < kept
    → get_or ds (kept - 1) 0 ≡ get_or e.digits (kept - 1) 0
same_last_digit e kept ds h some = grind (arith, get_or-take)

-- The array has the digits that are kept.
kept_fits : (e : Finite) (p kept digit : ℕ) (ds : List ℕ) → EndsInRunOf e p kept digit → BeginsWith e kept ds
    → kept ≤ length ds
kept_fits e p kept digit ds h array =
    let few = length-take-le kept e.digits (omega (arith, h.few, h.within)) in
    omega (arith, few, ap length array.front, length-take kept ds)

-- A decimal cut off after p digits, without the zeros at their end, is the expansion of the cut number.
pub cut_is_expansion :
    (e : Finite) (p kept : ℕ) (ds : List ℕ) → EndsInRunOf e p kept 0 → BeginsWith e kept ds
    → IsExpansion (ulps_of (cut_after p e)) (10 ^ p) (record { whole = e.whole; digits = take kept ds })
cut_is_expansion e p kept ds h array =
    let count = e.whole * 10 ^ kept + value_of_digits (take kept e.digits) in
    let scaled = ap (λ n. n * 10 ^ kept) (scaled_zeros e p kept h) in
    let power = ap (λ n. count * n) (pow10_split kept p h.few) in
    expansion_of_first_digits (ulps_of (cut_after p e)) (10 ^ p) e.whole kept ds (one_le_pow10 p)
    (record {
      few = kept_fits e p kept 0 ds h array;
      small = array.small;
      exact = rw array.front (omega (arith, scaled, power));
      last = λ some. let other = h.stops some in omega (arith, same_last_digit e kept ds array some, other);
    })

-- If the first p digits are all nines, the cut number plus one in its last digit is the whole part plus one.
pub next_whole_is_expansion :
    (e : Finite) (p kept : ℕ) → EndsInRunOf e p kept 9 → kept ≡ 0
    → IsExpansion (ulps_of (cut_after p e) + 1) (10 ^ p) (record { whole = e.whole + 1; digits = [] })
next_whole_is_expansion e p kept h none =
    grind (arith, All-nil, expansion_of_digits, fold_nines, one_le_pow10, pow10_split, scaled_cut, scaled_nines)

-- If nines follow the digits that are kept, the last of those is less.
pub last_kept_less :
    (e : Finite) (p kept : ℕ) (ds : List ℕ) → EndsInRunOf e p kept 9 → BeginsWith e kept ds → 0 < kept
    → get_or ds (kept - 1) 0 + 1 < 10
last_kept_less e p kept ds h array some = grind (arith, All-get_or, kept_fits, same_last_digit)

-- The fields with one more in the last digit that is kept satisfy the invariant.
pub next_digit_normalized :
    (e : Finite) (p kept whole : ℕ) (ds : List ℕ) → EndsInRunOf e p kept 9 → BeginsWith e kept ds → 0 < kept
    → kept ≤ expansion_places → whole < whole_limit
    → IsNormalizedExpansion (record { whole = whole; digits = set ds (kept - 1) (get_or ds (kept - 1) 0 + 1); places = kept })
next_digit_normalized e p kept whole ds h array some few below =
    grind (arith, common_steps, kept_fits, length-set, All-set, last_kept_less, drop-set-lt, get_or-set_same)

-- An array in which the last digit kept is one more represents one more.
value_one_more :
    (e : Finite) (kept : ℕ) (ds : List ℕ) → BeginsWith e kept ds → 0 < kept → kept ≤ length ds
    → value_of_digits (take kept (set ds (kept - 1) (get_or ds (kept - 1) 0 + 1)))
    ≡ value_of_digits (take kept e.digits) + 1
value_one_more e kept ds array some room = grind (arith, common_steps, fold-append, take_more, take_more_set)

-- If nines follow the digits that are kept, the cut number plus one in its last digit has these digits, the last of
-- them one more.
pub next_digit_is_expansion :
    (e : Finite) (p kept : ℕ) (ds : List ℕ) → EndsInRunOf e p kept 9 → BeginsWith e kept ds → 0 < kept
    → IsExpansion (ulps_of (cut_after p e) + 1) (10 ^ p)
    (record { whole = e.whole; digits = take kept (set ds (kept - 1) (get_or ds (kept - 1) 0 + 1)) })
next_digit_is_expansion e p kept ds h array some =
    let last : ℕ = kept - 1 in
    let digit = get_or ds last 0 in
    let fits : last < length ds = omega (arith, some, kept_fits e p kept 9 ds h array) in
    let count = e.whole * 10 ^ kept + (value_of_digits (take kept e.digits) + 1) in
    let scaled = ap (λ n. n * 10 ^ kept) (scaled_nines e p kept h) in
    let power = ap (λ n. count * n) (pow10_split kept p h.few) in
    let nine = last_kept_less e p kept ds h array some in
    expansion_of_first_digits (ulps_of (cut_after p e) + 1) (10 ^ p) e.whole kept (set ds last (digit + 1))
    (one_le_pow10 p)
    (record {
      few = omega (arith, length-set ds last (digit + 1), fits);
      small = All-set (λ d. d < 10) ds last (digit + 1) nine array.small;
      exact = rw (value_one_more e kept ds array some (omega (arith, fits))) (omega (arith, scaled, power));
      last = λ _. let at = get_or-set_same ds last (digit + 1) 0 fits in omega (arith, at);
    })
