-- Long division with one digit per step, the expansion of a fraction by it, and where it ends.
--
-- That a fraction is `exact` at some places is a count, `exact.0`, and an equation, `exact.1`.
use Rattle.std.proofs.Common.{◌≡◌, ℕ, ◌+◌, ◌-◌, ◌*◌, ◌/◌, ◌%◌, ◌^◌, ◌<◌, ◌≤◌, ◌⊎◌, ⊎_elim, arith, ap, ◌∙◌, subst, ◌≢◌, List}
use Rattle.std.proofs.Common.{length, take, drop, set, get_or, replicate, sym, refl, length-take-le, All}
use Rattle.std.proofs.Math.Nat.{div-add-mod', mul-lt-mul_of_pos_right, eq_of_mul-eq-mul_right, pow-succ', one-le-pow}
use Rattle.std.proofs.Math.Nat.{mul-le-mul_right}
use Rattle.std.proofs.lemmas.Nat.{div_below, mod_below, same_from_place, mul-le}
use Rattle.std.proofs.lemmas.Bool.{cases_lt}
use Rattle.byte_unit_math.specs.Bounds.{scale, places_of_decimal, expansion_places, unit_limit}
use Rattle.byte_unit_math.specs.Exact.{IsExactAt, IsLeastPlaces, IsQuotient}
use Rattle.byte_unit_math.proofs.Scales.{pow10_bounds, pow10_times_rest, pow10_split, power_of_sum, exponent_at_most}
use Rattle.std.proofs.lemmas.List.{drop-set-lt, drop-drop, drop-replicate, length-set, length-replicate}
use Rattle.std.proofs.lemmas.List.{get_or-set_same, get_or-take, take_all}
use Rattle.std.proofs.lemmas.List.Elements.{All-set, All-replicate, All-take, All-get_or}
use Rattle.byte_unit_math.specs.Finite.{value_of_digits, IsExpansion}
use Rattle.byte_unit_math.proofs.Digits.{value_more, value_more_set, one_le_pow10}
use Rattle.std.proofs.lemmas.Grind.{common_steps}

-- A quotient that is exact with some digits after the point is so with more.
pub exact_more : (size unit few more : ℕ) → few ≤ more → IsExactAt size unit few → IsExactAt size unit more
exact_more size unit few more h exact =
    let power = ap (λ n. size * n) (pow10_split few more h) in
    (exact.0 * 10 ^ (more - few), power ∙ omega (arith, ap (λ n. n * 10 ^ (more - few)) exact.1))

-- If the quotient is exact with this many digits after the point, the division leaves no remainder there.
pub rest_is_zero :
    (size unit places count rest : ℕ) → size * 10 ^ places ≡ count * unit + rest → rest < unit
    → IsExactAt size unit places → rest ≡ 0
rest_is_zero size unit places count rest product small exact =
    (same_from_place count rest exact.0 0 unit small (omega (arith, small)) (omega (arith, product, exact.1))).1

-- A quotient that is exact with a last digit other than zero is exact with no fewer digits after the point.
pub IsLeastPlaces-last_digit :
    (size unit count places : ℕ) → 0 < unit → size * 10 ^ places ≡ count * unit → (0 < places → 0 < count % 10)
    → IsLeastPlaces size unit places
IsLeastPlaces-last_digit size unit count places positive product last = record {
  has = (count, product);
  least = λ fewer exact.
      ⊎_elim (λ below.
      let behind = 10 ^ (places - fewer) in
      let power = ap (λ n. size * n) (pow10_split fewer places (omega (arith, below))) in
      let tens : count ≡ exact.0 * behind = eq_of_mul-eq-mul_right unit positive count (exact.0 * behind)
      (omega (arith, product, power, ap (λ n. n * behind) exact.1)) in
      let ten = ap (λ n. exact.0 * n) (pow10_split 1 (places - fewer) (omega (arith, below))) in
      absurd (omega (arith, tens, ten, last (omega (arith, below)))))
      (λ enough. enough) (cases_lt fewer places);
}

-- The quotient has `digits` digits after the point so far and leaves `rest`.
pub record Dividing (size unit rest fraction digits : ℕ) : Type 0 where
  pub product : size * 10 ^ digits ≡ (size / unit * 10 ^ digits + fraction) * unit + rest
  pub small : rest < unit
  pub below : fraction < 10 ^ digits

-- While a remainder is left, the quotient is not exact.
pub not_exact : (size unit rest fraction digits : ℕ) → Dividing size unit rest fraction digits → 0 < rest
    → ¬ IsExactAt size unit digits
not_exact size unit rest fraction digits h left exact =
    let none = rest_is_zero size unit digits (size / unit * 10 ^ digits + fraction) rest h.product h.small exact in
    omega (arith, none, left)

-- A step of the long division: the remainder times 10^count gives `count` digits and the next remainder.
pub Dividing-more :
    (size unit rest fraction digits count : ℕ) → 1 ≤ unit → Dividing size unit rest fraction digits
    → Dividing size unit (rest * 10 ^ count % unit) (fraction * 10 ^ count + rest * 10 ^ count / unit) (digits + count)
Dividing-more size unit rest fraction digits count some h =
    let scaled = 10 ^ count in
    let power : 10 ^ (digits + count) ≡ scaled * 10 ^ digits = power_of_sum 10 (digits + count) count digits (omega arith) in
    let group = div_below (rest * scaled) unit scaled (omega (arith, some))
    (omega (arith, mul-lt-mul_of_pos_right {k = scaled} h.small (one_le_pow10 count))) in
    record {
      product = rw power (omega (arith, ap (λ n. n * scaled) h.product, div-add-mod' (rest * scaled) unit));
      small = mod_below (rest * scaled) unit (omega arith);
      below = rw power (omega (arith, mul-le-mul_right {m = fraction + 1} {n = 10 ^ digits} scaled (omega (arith, h.below)), group));
    }

-- The whole part and an exact fraction, scaled by 10^28, are the quotient.
pub IsQuotient-digits :
    (size unit fraction digits places : ℕ) → digits ≤ places → places ≤ places_of_decimal
    → size * 10 ^ digits ≡ (size / unit * 10 ^ digits + fraction) * unit
    → IsQuotient size unit places (size / unit * scale + fraction * 10 ^ (places_of_decimal - digits))
IsQuotient-digits size unit fraction digits places few room product =
    let count = size / unit * 10 ^ digits + fraction in
    let power = ap (λ n. size * n) (pow10_split digits places few) in
    let raised = ap (λ n. n * 10 ^ (places - digits)) product in
    let parts = ap (λ n. size / unit * n) (pow10_times_rest digits (omega (arith, few))) in
    let split = ap (λ n. count * n)
    (power_of_sum 10 (places_of_decimal - digits) (places - digits) (places_of_decimal - places) (omega arith)) in
    record {
      count = count * 10 ^ (places - digits);
      exact = power ∙ omega (arith, raised);
      number = omega (arith, parts, split);
    }

-- The quotient times the unit is the size, both scaled by 10^28.
pub IsQuotient-times :
    (size unit places N : ℕ) → places ≤ places_of_decimal → IsQuotient size unit places N → N * unit ≡ size * scale
IsQuotient-times size unit places N few h =
    let exact = ap (λ n. n * 10 ^ (places_of_decimal - places)) h.exact in
    let parts = ap (λ n. size * n) (pow10_times_rest places few) in
    ap (λ n. n * unit) h.number ∙ omega (arith, exact, parts)

-- Digits after the point, scaled by 10^28, are below 10^28.
pub fraction_below_one :
    (fraction digits : ℕ) → digits ≤ places_of_decimal → fraction < 10 ^ digits
    → fraction * 10 ^ (places_of_decimal - digits) < scale
fraction_below_one fraction digits room small =
    let rest = pow10_bounds (places_of_decimal - digits) (omega arith) in
    let product = mul-lt-mul_of_pos_right {k = 10 ^ (places_of_decimal - digits)} small (omega (arith, rest)) in
    omega (arith, product, pow10_times_rest digits room)

-- Setting a digit of an array leaves the zeros after it.
pub zeros_after_set : (n i d : ℕ) (ds : List ℕ) → drop i ds ≡ replicate (n - i) 0
    → drop (i + 1) (set ds i d) ≡ replicate (n - (i + 1)) 0
zeros_after_set n i d ds h =
    let fewer : n - i - 1 ≡ n - (i + 1) = omega arith in
    let behind : drop (i + 1) ds ≡ replicate (n - i - 1) 0 =
    sym (drop-drop 1 i ds) ∙ (ap (drop 1) h ∙ drop-replicate 1 (n - i) 0) in
    drop-set-lt (i + 1) ds i d (omega arith) ∙ (behind ∙ ap (λ k. replicate k 0) fewer)

-- The array holds the first `places` digits of the quotient, then zeros, and `rest` is left; if nothing is left, the
-- last digit is not zero.
pub record IsDividing (numerator den whole rest places : ℕ) (digits : List ℕ) : Type 0 where
  pub few : places ≤ expansion_places
  pub size : length digits ≡ expansion_places
  pub small : All (λ d. d < 10) digits
  pub zeros : drop places digits ≡ replicate (expansion_places - places) 0
  pub below : rest < den
  pub exact : numerator * 10 ^ places ≡ (whole * 10 ^ places + value_of_digits (take places digits)) * den + rest
  pub last : rest ≡ 0 → 0 < places → 0 < get_or digits (places - 1) 0

-- A division that leaves a remainder so far, and ends after at most 93 digits.
module _ (numerator den whole rest places : ℕ) (digits : List ℕ)
    (h : IsDividing numerator den whole rest places digits) (ends : IsExactAt numerator den expansion_places)
    (some : rest ≢ 0) where
  -- While a remainder is left, the division has written fewer than 93 digits.
  pub IsDividing-room : places < expansion_places
  IsDividing-room = grind (arith, mul-le-mul_right, mul-lt-mul_of_pos_right, one-le-pow, pow-succ', rest_is_zero)

  -- A step of the division: the next digit is written, and the next remainder is left.
  pub IsDividing-more : IsDividing numerator den whole (rest * 10 % den) (places + 1)
      (set digits places (rest * 10 / den))
  IsDividing-more =
      let digit = rest * 10 / den in
      let positive : 0 < den = omega (arith, h.below) in
      let fits : places < length digits = omega (arith, IsDividing-room, h.size) in
      let power : 10 ^ (places + 1) ≡ 10 * 10 ^ places = power_of_sum 10 (places + 1) 1 places (omega arith) in
      let back : places + 1 - 1 ≡ places = omega arith in
      let parts : den * digit + rest * 10 % den ≡ rest * 10 = omega arith in
      record {
        few = omega (arith, IsDividing-room);
        size = length-set digits places digit ∙ h.size;
        small = All-set (λ d. d < 10) digits places digit
            (div_below (rest * 10) den 10 positive (omega (arith, h.below))) h.small;
        zeros = zeros_after_set expansion_places places digit digits h.zeros;
        below = omega arith;
        exact = rw (power, value_more_set digits places digit fits) (omega (arith, h.exact, parts));
        -- a remainder was left before the digit with which the division ends
        last = λ z _. rw (back, get_or-set_same digits places digit 0 fits) (grind (arith, parts, z, some));
      }

-- Ten digits of a division by `den` are a group, and `left` is its remainder. After `count` of them are written, the
-- others times 10^count are `shifted`.
pub record IsPending (den left shifted count : ℕ) : Type 0 where
  pub group : ℕ
  pub shifted_is : shifted ≡ group * 10 ^ count
  pub small : group < 10 ^ (10 - count)
  pub below : left < den
  pub few : count ≤ 10

-- The remainder of the division by 10^10 * den, one digit at a time.
abbrev pub pending_rest : ℕ → ℕ → ℕ → ℕ → ℕ
pending_rest den left shifted count = shifted * den + left * 10 ^ count

-- If digits that are not zero are to be written, or a remainder is left, something is left of the whole division.
pub pending_rest-some : (den left shifted count : ℕ) → 0 < den
    → (shifted ≢ 0) ⊎ ((shifted ≡ 0) × (left ≢ 0)) → pending_rest den left shifted count ≢ 0
pending_rest-some den left shifted count positive some none = grind (arith, mul-le, one_le_pow10)

-- After a group, its remainder is left.
pub pending_rest-end : (den left shifted count : ℕ) → IsPending den left shifted count
    → ((shifted ≡ 0) × (left ≡ 0)) ⊎ (10 ≤ count) → pending_rest den left shifted count ≡ left * 10 ^ 10
pending_rest-end den left shifted count h ends = grind arith

-- A digit of a group is the next one of the division by 10^10 * den, and leaves what is left there.
pub IsPending-more : (den left shifted count : ℕ) → IsPending den left shifted count → count < 10
    → (pending_rest den left shifted count * 10 / (den * 10 ^ 10) ≡ shifted / 10 ^ 9)
    × (pending_rest den left shifted count * 10 % (den * 10 ^ 10) ≡ pending_rest den left (shifted % 10 ^ 9 * 10) (count + 1))
    × IsPending den left (shifted % 10 ^ 9 * 10) (count + 1)
IsPending-more den left shifted count h more =
    let written = 10 ^ count in
    let behind = 10 ^ (9 - count) in
    let digit = h.group / behind in
    let group = h.group % behind in
    let one : 1 ≤ behind = one_le_pow10 (9 - count) in
    let all : 10 ^ 9 ≡ behind * written = power_of_sum 10 9 (9 - count) count (omega (arith, more)) in
    let next : 10 ^ (count + 1) ≡ 10 * written = power_of_sum 10 (count + 1) 1 count (omega arith) in
    let group_small : group < behind = mod_below h.group behind one in
    let parts : h.group ≡ digit * behind + group = sym (div-add-mod' h.group behind) in
    let shifted_parts : shifted ≡ digit * 10 ^ 9 + group * written =
    h.shifted_is ∙ (ap (λ n. n * written) parts ∙ omega (arith, ap (λ n. digit * n) all)) in
    let tail_small : group * written < 10 ^ 9 =
    rw all (mul-lt-mul_of_pos_right {k = written} group_small (one_le_pow10 count)) in
    let split = same_from_place (shifted / 10 ^ 9) (shifted % 10 ^ 9) digit (group * written) (10 ^ 9)
    (omega arith) tail_small (omega (arith, shifted_parts)) in
    let shifted_next : shifted % 10 ^ 9 * 10 ≡ group * 10 ^ (count + 1) =
    ap (λ n. n * 10) split.1 ∙ omega (arith, ap (λ n. group * n) next) in
    let remainder = (group * den + left) * 10 ^ (count + 1) in
    let remainder_is : pending_rest den left (shifted % 10 ^ 9 * 10) (count + 1) ≡ remainder =
    ap (λ n. n * den + left * 10 ^ (count + 1)) shifted_next ∙ omega arith in
    let product : behind * den * 10 ^ (count + 1) ≡ den * 10 ^ 10 =
    ap (λ n. behind * den * n) next ∙ omega (arith, ap (λ n. den * 10 * n) all) in
    let less : group * den + left < behind * den =
    omega (arith, mul-le-mul_right {m = group + 1} {n = behind} den (omega (arith, group_small)), h.below) in
    let remainder_small : remainder < den * 10 ^ 10 =
    subst (λ n. remainder < n) product (mul-lt-mul_of_pos_right {k = 10 ^ (count + 1)} less (one_le_pow10 (count + 1))) in
    let pending = pending_rest den left shifted count * 10 in
    let pending_parts : pending ≡ digit * (den * 10 ^ 10) + remainder =
    omega (arith, ap (λ n. n * den * 10) shifted_parts, ap (λ n. (group * den + left) * n) next) in
    let step = same_from_place (pending / (den * 10 ^ 10)) (pending % (den * 10 ^ 10)) digit remainder (den * 10 ^ 10)
    (mod_below pending (den * 10 ^ 10) (omega (arith, h.below))) remainder_small
    (div-add-mod' pending (den * 10 ^ 10) ∙ pending_parts) in (
      step.0 ∙ sym split.0,
      step.1 ∙ sym remainder_is,
      record {
        group = group;
        shifted_is = shifted_next;
        small = subst (λ n. group < 10 ^ n) (let e : 9 - count ≡ 10 - (count + 1) = omega arith in e) group_small;
        below = h.below;
        few = omega (arith, more);
      },
    )

-- Before the first digit the array holds zeros, and the remainder of the whole part is left.
pub IsDividing-start : (whole rest den : ℕ) → rest < den
    → IsDividing (whole * den + rest) den whole rest 0 (replicate expansion_places 0)
IsDividing-start whole rest den below = record {
  few = omega arith;
  size = length-replicate {A = ℕ} expansion_places 0;
  small = All-replicate (λ d. d < 10) expansion_places 0 (omega arith);
  zeros = refl;
  below = below;
  exact = omega arith;
  last = λ z p. absurd (omega (arith, p));
}

-- Digits represent ten times the number of all but the last, plus the last.
pub value_by_last_digit : (ds : List ℕ) → 0 < length ds
    → value_of_digits ds ≡ value_of_digits (take (length ds - 1) ds) * 10 + get_or ds (length ds - 1) 0
value_by_last_digit ds some = grind (arith, common_steps, take_all, value_more)

-- The fraction is exactly the whole part and these digits, and the last digit is not zero.
pub record IsExactByDigits (num den whole : ℕ) (digits : List ℕ) : Type 0 where
  pub small : All (λ d. d < 10) digits
  pub exact : num * 10 ^ length digits ≡ (whole * 10 ^ length digits + value_of_digits digits) * den
  pub last : 0 < length digits → 0 < get_or digits (length digits - 1) 0

-- A whole part and digits that are exactly the fraction, the last digit not zero, are its expansion.
pub expansion_of_digits :
    (num den whole : ℕ) (digits : List ℕ) → 0 < den → IsExactByDigits num den whole digits
    → IsExpansion num den (record { whole = whole; digits = digits })
expansion_of_digits num den whole digits positive h =
    let places = length digits in
    let least = IsLeastPlaces-last_digit num den (whole * 10 ^ places + value_of_digits digits) places positive h.exact
    (λ some.
    let power = ap (λ n. whole * n) (pow10_split 1 places some) in
    let small = All-get_or (λ d. d < 10) digits (places - 1) 0 (omega (arith, some)) h.small in
    omega (arith, power, value_by_last_digit digits some, small, h.last some)) in
    record { small = h.small; exact = h.exact; least = least.least }

-- The fraction is exactly the whole part and the first `places` digits of an array, the last of them not zero.
pub record IsExactByFirstDigits (num den whole places : ℕ) (digits : List ℕ) : Type 0 where
  pub few : places ≤ length digits
  pub small : All (λ d. d < 10) digits
  pub exact : num * 10 ^ places ≡ (whole * 10 ^ places + value_of_digits (take places digits)) * den
  pub last : 0 < places → 0 < get_or digits (places - 1) 0

-- A whole part and first digits of an array that are exactly the fraction, the last not zero, are its expansion.
pub expansion_of_first_digits :
    (num den whole places : ℕ) (digits : List ℕ) → 0 < den → IsExactByFirstDigits num den whole places digits
    → IsExpansion num den (record { whole = whole; digits = take places digits })
expansion_of_first_digits num den whole places digits positive h =
    grind (arith, common_steps, length-take-le places digits h.few, expansion_of_digits, All-take, get_or-take)

-- A division that leaves nothing has written the expansion.
pub IsDividing-ended :
    (num den whole rest places : ℕ) (digits : List ℕ) → IsDividing num den whole rest places digits → rest ≡ 0
    → IsExpansion num den (record { whole = whole; digits = take places digits })
IsDividing-ended num den whole rest places digits h none =
    grind (arith, All-get_or, All-take, expansion_of_digits, get_or-take, length-take-le, value_by_last_digit)

-- If 2^a * 5^b is at most 2^93, a is at most 93, and b at most 40.
pub exponents_within_places : (a b : ℕ) → 2 ^ a * 5 ^ b ≤ unit_limit → (a ≤ expansion_places) × (b ≤ 40)
exponents_within_places a b h =
    let small : (2 ^ a ≤ unit_limit) × (5 ^ b ≤ unit_limit) = grind (arith, mul-le, one-le-pow) in (
      exponent_at_most 2 expansion_places a (unit_limit + 1) (omega arith) (omega (arith, small.0)) (omega arith),
      exponent_at_most 5 40 b (unit_limit + 1) (omega arith) (omega (arith, small.1)) (omega arith),
    )

-- If 2^a * 5^b is at most 2^93, each fraction over it is exact with 93 digits after the point.
pub powers_are_exact : (num a b : ℕ) → 2 ^ a * 5 ^ b ≤ unit_limit → IsExactAt num (2 ^ a * 5 ^ b) expansion_places
powers_are_exact num a b h =
    let k = exponents_within_places a b h in
    let twos = power_of_sum 2 expansion_places (expansion_places - a) a (omega (arith, k.0)) in
    let fives = power_of_sum 5 expansion_places (expansion_places - b) b (omega (arith, k.1)) in
    let two_parts = ap (λ n. num * (n * 5 ^ expansion_places)) twos in
    let five_parts = ap (λ n. num * (2 ^ (expansion_places - a) * 2 ^ a * n)) fives in
    (num * (2 ^ (expansion_places - a) * 5 ^ (expansion_places - b)), omega (arith, two_parts, five_parts))

-- 2^a * 5^b is at least 1.
pub product_positive : (a b : ℕ) → 1 ≤ 2 ^ a * 5 ^ b
product_positive a b = mul-le 1 1 (2 ^ a) (5 ^ b) (one-le-pow a 2 (omega arith)) (one-le-pow b 5 (omega arith))

-- The facts about a denominator 2^a * 5^b that the proofs of expansions use.
pub ruleset powers = (exponents_within_places, product_positive, powers_are_exact)

-- A fraction over at most 10^93 is exact with 93 digits after the point.
pub power_of_ten_is_exact : (num places : ℕ) → places ≤ expansion_places → IsExactAt num (10 ^ places) expansion_places
power_of_ten_is_exact num places few =
    (num * 10 ^ (expansion_places - places), omega (arith, ap (λ n. num * n) (pow10_split places expansion_places few)))

-- A fraction over 2^a * 5^b, given by its whole part and remainder, is exact with 93 digits after the point.
pub new_is_exact :
    (num x y a b : ℕ) → x ≡ 2 ^ a → y ≡ 5 ^ b → 2 ^ a * 5 ^ b ≤ unit_limit
    → IsExactAt (num / (x * y) * (x * y) + num % (x * y)) (x * y) expansion_places
new_is_exact num x y a b hx hy h = rw (hx, hy, div-add-mod' num (2 ^ a * 5 ^ b)) (powers_are_exact num a b h)
