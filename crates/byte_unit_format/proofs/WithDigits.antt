-- The digits of a size: how many of them are zeros at their end, and where a decimal prefix cuts them.
--
-- The `bounds` of the digits used are that there is at least one, and that there are no more than all digits. The two
-- `powers` of ten are the one that is at most the size, and the next one, which is above it.
use Rattle.std.proofs.Common.{◌≡◌, ◌≢◌, ℕ, ◌+◌, ◌-◌, ◌*◌, ◌/◌, ◌%◌, ◌^◌, ◌<◌, ◌≤◌, List, [], ◌∷◌, ◌++◌, length, take}
use Rattle.std.proofs.Common.{drop, get_or, min, suc, arith, ap, sym, refl, ◌∙◌, zero}
use Rattle.std.specs.Fmt.{decimal}
use Rattle.std.proofs.Math.Nat.{pow-le-pow_right, div-le_self, div-add-mod', div-div-eq-div-mul, mod-eq_of_lt}
use Rattle.std.proofs.Math.Nat.{pow-succ'}
use Rattle.std.proofs.lemmas.Bool.Decides.{nat_tests}
use Rattle.std.proofs.lemmas.Fmt.{length-decimal-le_wide}
use Rattle.std.proofs.lemmas.Grind.{common_steps}
use Rattle.std.proofs.lemmas.List.{take-append-drop, take-append-le, take-take, drop_more}
use Rattle.std.proofs.lemmas.Nat.{pow-add}
use Rattle.byte_unit_math.proofs.WrittenDigits.{decimal_one_digit, decimal_next_digit, decimal_length_positive}
use Rattle.byte_unit_math.proofs.WrittenDigits.{decimal_cut, decimal_length_split}
use Rattle.byte_unit_format.specs.FewPlaces.{IsGreatestPower, FitsPrefix}
use Rattle.byte_unit_format.specs.WithDigits.{cut_digits}
use Rattle.byte_unit_format.proofs.FewPlaces.{power_split, exponent_below, power_divides, few_thousands}
use Rattle.byte_unit_math.specs.Bounds.{size_limit}
use Rattle.byte_unit_math.specs.Digits.{trim_zeros}
use Rattle.byte_unit_math.specs.Numeral.{fraction_text, padded_digits}
use Rattle.byte_unit_math.proofs.Digits.{mod_next_power, one_le_pow10}
use Rattle.byte_unit_format.specs.UnitFraction.{thousandths_text}
use Rattle.byte_unit_format.proofs.NarrowTexts.{decimal_length}

-- The first digits of a number, without the last k, are the digits of its quotient by 10^k.
pub first_digits : (k n : ℕ) → 10 ^ k ≤ n → n < 2 ^ 128
    → take (length (decimal n) - k) (decimal n) ≡ decimal (n / 10 ^ k)
first_digits k n wide small =
    grind (arith, common_steps, decimal_cut k n wide small, decimal_length_split k n wide small)

-- The last character of a number is its last digit.
last_of_decimal : (n : ℕ) → n < 2 ^ 128 → get_or (decimal n) (length (decimal n) - 1) 0 ≡ 48 + n % 10
last_of_decimal n small = grind (arith, common_steps, decimal_one_digit n, decimal_next_digit n)

-- The character of the power of ten with k zeros is the digit there.
pub digit_of_decimal : (k n : ℕ) → 10 ^ k ≤ n → n < 2 ^ 128
    → get_or (decimal n) (length (decimal n) - 1 - k) 0 ≡ 48 + n / 10 ^ k % 10
digit_of_decimal k n wide small =
    let small_front : n / 10 ^ k < 2 ^ 128 = omega (arith, small, div-le_self n (10 ^ k)) in
    grind (
      arith,
      common_steps,
      decimal_cut k n wide small,
      decimal_length_split k n wide small,
      last_of_decimal (n / 10 ^ k) small_front,
      decimal_length_positive (n / 10 ^ k) small_front,
    )

-- A number is at least the power of ten with as many digits, and below the next power.
pub between_powers : (n : ℕ) → 1 ≤ n → n < 2 ^ 128 → (10 ^ (length (decimal n) - 1) ≤ n) × (n < 10 ^ length (decimal n))
between_powers n some small =
    let len = length (decimal n) in
    let one = pow-le-pow_right {n = 10} (omega arith) {i = len - 1} {j = 0} in (
      grind (arith, one, length-decimal-le_wide (len - 1) n, decimal_length_positive n small),
      grind (arith, decimal_length_split len n, decimal_length_positive (n / 10 ^ len), div-le_self n (10 ^ len)),
    )

-- The zeros at the end of a size tell the largest decimal prefix.
pub greatest_of_zeros :
    (size front zeros len power : ℕ) → size ≡ front * 10 ^ zeros → front % 10 ≢ 0 → 10 ^ (len - 1) ≤ size
    → size < 10 ^ len → power ≡ min ((len - 1) / 3) ((zeros + 3) / 3) → IsGreatestPower 10 3 size power
greatest_of_zeros size front zeros len power product odd at_least below power_is =
    let next = ap (λ n. front * n) (pow-add 10 zeros 3) in
    let split = power_split 10 (3 * power) (zeros + 3) (omega (arith, power_is)) in
    let short = pow-le-pow_right {n = 10} (omega arith) {i = 3 * power} {j = len - 1} (omega (arith, power_is)) in
    record {
      fits = record {
        exact = (front * 10 ^ (zeros + 3 - 3 * power), omega (arith, product, next, ap (λ n. front * n) split));
        not_above = omega (arith, at_least, short);
      };
      greatest = λ other fits.
          let low = power_divides 10 1 front fits.exact.0 (zeros + 3) (3 * other) (omega arith) odd
          (grind (arith, product, next, fits.exact.1)) in
          omega (arith, exponent_below 10 (3 * other) len size (omega arith) fits.not_above below, low, power_is);
    }

-- A list with one text before an index, and another from there on, begins with both.
pub text_at : {front : List ℕ} (text list behind : List ℕ) (cut end : ℕ) → take cut list ≡ front
    → drop cut list ≡ text ++ behind → length front + length text ≡ end → take end list ≡ front ++ text
text_at {front} text list behind cut end front_is text_is end_is =
    grind (arith, common_steps, take-append-drop cut list)

-- The beginning of a list that begins with a text is that of the text.
pub front_at : {start : ℕ} (list text behind : List ℕ) (cut : ℕ) → start ≡ 0 → drop start list ≡ text ++ behind
    → cut ≤ length text → take cut list ≡ take cut text
front_at list text behind cut first list_is few = grind (arith, common_steps)

-- What is kept before an index is kept before each smaller one.
pub take_kept : (new old : List ℕ) {few more : ℕ} → few ≤ more → take more new ≡ take more old
    → take few new ≡ take few old
take_kept new old {few} {more} less kept = rw (← take-take few more new less, kept, take-take few more old less) refl

-- If digits are used after the cut, they are written after a point (46).
pub cut_some : (cut used : ℕ) (digits : List ℕ) → cut < used
    → cut_digits cut used digits ≡ 46 ∷ take (used - cut) (drop cut digits)
cut_some cut used digits more = grind (arith, nat_tests)

-- If none is used after the cut, nothing is written.
pub cut_none : (cut used : ℕ) (digits : List ℕ) → used ≤ cut → cut_digits cut used digits ≡ []
cut_none cut used digits few = grind (arith, nat_tests)

-- The elements from an index on are the three there, and those after them.
pub three_elements : (list : List ℕ) (at : ℕ) → at + 3 ≤ length list
    → drop at list ≡ get_or list at 0 ∷ get_or list (at + 1) 0 ∷ get_or list (at + 2) 0 ∷ drop (at + 3) list
three_elements list at within = grind (arith, drop_more list at 0, drop_more list (at + 1) 0, drop_more list (at + 2) 0)

-- A point and three elements from an index on, cut after `count` of them, are a point and the first `count` elements
-- from there on.
pub three_of : (list : List ℕ) (at count : ℕ) → count ≤ 3 → at + 3 ≤ length list
    → take (count + 1) (46 ∷ get_or list at 0 ∷ get_or list (at + 1) 0 ∷ get_or list (at + 2) 0 ∷ [])
    ≡ 46 ∷ take count (drop at list)
three_of list at count few within =
    let three = get_or list at 0 ∷ get_or list (at + 1) 0 ∷ get_or list (at + 2) 0 ∷ [] in
    ap (λ n. take n (46 ∷ three)) (let next : count + 1 ≡ suc count = omega arith in next)
    ∙ ap (λ l. 46 ∷ l) (sym (take-append-le count three (drop (at + 3) list) (omega (arith, few)))
    ∙ ap (λ l. take count l) (sym (three_elements list at within)))

-- A size has from 1 to 30 digits; one of at most three is below 1000, and one of more is not.
pub few_digits : (size : ℕ) → size < size_limit → (1 ≤ length (decimal size)) × (length (decimal size) ≤ 30)
    × (length (decimal size) < 4 → size < 1000) × (4 ≤ length (decimal size) → 1000 ≤ size)
few_digits size small = (
  decimal_length_positive size (omega (arith, small)),
  decimal_length size 30 (omega arith) (omega arith) small,
  λ few. grind (arith, decimal_length_split 3 size, decimal_length_positive (size / 10 ^ 3)),
  λ many. grind (arith, length-decimal-le_wide 3 size),
)

-- What is known of the number of digits up to the last that is not a zero.
pub record IsUsed (digits : List ℕ) (used : ℕ) : Type 0 where
  pub zeros : (i : ℕ) → used ≤ i → i < 32 → get_or digits i 0 ≡ 48
  pub last : (i : ℕ) → i + 1 ≡ used → get_or digits i 0 ≢ 48

-- The digit of a size before its last k ones is, as a character, its quotient by 10^k modulo 10.
digit_of_size : (size k : ℕ) → 10 ^ k ≤ size → size < size_limit
    → get_or (padded_digits size) (length (decimal size) - 1 - k) 0 ≡ 48 + size / 10 ^ k % 10
digit_of_size size k wide small = grind (arith, common_steps, digit_of_decimal k size, few_digits size)

-- A size has as many digits as powers of ten are at most as large.
power_within : (size k : ℕ) → 1 ≤ size → size < size_limit → k < length (decimal size) → 10 ^ k ≤ size
power_within size k some small within =
    let rises = pow-le-pow_right {n = 10} (omega arith) {i = k} {j = length (decimal size) - 1} in
    grind (arith, between_powers size some, rises)

-- A size is a multiple of each power of ten with no more zeros than there are digits after the used ones.
rest_is_zero : (size used k : ℕ) → 1 ≤ size → size < size_limit → IsUsed (padded_digits size) used
    → used + k ≤ length (decimal size) → size % 10 ^ k ≡ 0
rest_is_zero size used zero some small is_used behind = omega arith
rest_is_zero size used (suc k) some small is_used behind =
    let len = length (decimal size) in
    let few = decimal_length size 30 (omega arith) (omega arith) small in
    let digit = digit_of_size size k (power_within size k some small (omega (arith, behind))) small in
    let zero_digit = is_used.zeros (len - 1 - k) (omega (arith, behind)) (omega (arith, few, behind)) in
    let none : size / 10 ^ k % 10 ≡ 0 = omega (arith, digit, zero_digit) in
    rw (pow-succ' 10 k, mod_next_power size (10 ^ k) (one_le_pow10 k), none)
    (omega (arith, rest_is_zero size used k some small is_used (omega (arith, behind))))

-- Of the digits of a size that is not 0, at least one is used, and no more than it has.
pub used_within : (size used : ℕ) → 1 ≤ size → size < size_limit → IsUsed (padded_digits size) used → used ≤ 32
    → (1 ≤ used) × (used ≤ length (decimal size))
used_within size used some small is_used within =
    let below = (between_powers size some (omega (arith, small))).1 in (
      grind (arith, rest_is_zero size used (length (decimal size)) some small is_used, mod-eq_of_lt below),
      grind (arith, common_steps, is_used.last (used - 1), few_digits size),
    )

-- Three digits without trailing zeros, by the number of digits up to the last that is not a zero.
shown_digits : (digits : List ℕ) (cut used a b c : ℕ) → IsUsed digits used → used ≤ cut + 3 → cut + 3 ≤ 32
    → length digits ≡ 32 → get_or digits cut 0 ≡ 48 + a → get_or digits (cut + 1) 0 ≡ 48 + b
    → get_or digits (cut + 2) 0 ≡ 48 + c → cut_digits cut used digits ≡ fraction_text (trim_zeros (a ∷ b ∷ c ∷ []))
shown_digits digits cut used a b c is_used few room long first second third = grind (
  arith,
  three_elements digits cut,
  is_used.zeros (cut + 2),
  is_used.last (cut + 2),
  is_used.zeros (cut + 1),
  is_used.last (cut + 1),
  is_used.zeros cut,
  is_used.last cut,
)

-- The array of the digits has 32 bytes, of which the first are the digits.
pub padded_length : (size : ℕ) → length (decimal size) ≤ 32 → length (padded_digits size) ≡ 32
padded_length size few = grind (arith, common_steps)

-- The digits of a size, cut at a decimal prefix: whole units, and thousandths of one.
pub record IsCut (size : ℕ) (digits : List ℕ) (cut used power : ℕ) : Type 0 where
  pub thousandths : ℕ
  pub below : thousandths < 1000
  pub whole_is : take cut digits ≡ decimal (size / 10 ^ (3 * power))
  pub fraction_is : cut_digits cut used digits ≡ thousandths_text thousandths
  pub value : (size / 10 ^ (3 * power) * 1000 + thousandths) * 10 ^ (3 * power) ≡ size * 1000

-- A size that reaches a decimal prefix, with at most three digits that are not trailing zeros after it, is cut there.
pub cut_of_size :
    (size used power : ℕ) → 1 ≤ power → size < size_limit → 10 ^ (3 * power) ≤ size → IsUsed (padded_digits size) used
    → used + 3 * power ≤ length (decimal size) + 3
    → IsCut size (padded_digits size) (length (decimal size) - 3 * power) used power
cut_of_size size used power some small wide is_used few =
    let len = length (decimal size) in
    let k = 3 * power in
    let m = k - 3 in
    let cut = len - k in
    let most = decimal_length size 30 (omega arith) (omega arith) small in
    let longer = decimal_length_split k size wide (omega (arith, small)) in
    let power_is : 10 ^ k ≡ 10 ^ m * 1000 = grind (arith, some, pow-add 10 m 3) in
    let positive : 1 ≤ size = omega (arith, wide, one_le_pow10 k) in
    let front = size / 10 ^ m in
    let t = front % 1000 in
    let place : (j at : ℕ) → j < 3 → at ≡ len - 1 - (m + j)
    → get_or (padded_digits size) at 0 ≡ 48 + front / 10 ^ j % 10 =
    λ j at short at_is.
    let wide_enough = power_within size (m + j) positive small (omega (arith, longer, short, some)) in
    let digit = digit_of_size size (m + j) wide_enough small in
    rw (at_is, digit, div-div-eq-div-mul size (10 ^ m) (10 ^ j), pow-add 10 m j) refl in
    let whole_is : size / 10 ^ k ≡ front / 1000 = rw power_is (sym (div-div-eq-div-mul size (10 ^ m) 1000)) in
    let zeros = rest_is_zero size used m positive small is_used (omega (arith, few, some)) in
    let product : front * 10 ^ m ≡ size = omega (arith, div-add-mod' size (10 ^ m), zeros) in
    let both : size / 10 ^ k * 1000 + t ≡ front = omega (arith, whole_is) in
    record {
      thousandths = t;
      below = omega arith;
      whole_is = take-append-le cut (decimal size) _ (omega arith) ∙ first_digits k size wide (omega (arith, small));
      fraction_is = shown_digits (padded_digits size) cut used (t / 10 ^ 2 % 10) (t / 10 ^ 1 % 10) (t / 10 ^ 0 % 10)
          is_used (omega (arith, few, longer)) (omega (arith, most, some)) (padded_length size (omega (arith, most)))
          (omega (arith, place 2 cut (omega arith) (omega (arith, longer, some))))
          (omega (arith, place 1 (cut + 1) (omega arith) (omega (arith, longer, some))))
          (omega (arith, place 0 (cut + 2) (omega arith) (omega (arith, longer, some))));
      value = ap (λ n. n * 10 ^ k) both ∙ omega (arith, ap (λ n. front * n) power_is, product);
    }

-- What the digits of a size of at least four digits say of the unit that it is shown in.
pub record FoundPower (size used power : ℕ) : Type 0 where
  pub is_used : IsUsed (padded_digits size) used
  pub greatest : IsGreatestPower 10 3 size power
  pub some : 1 ≤ power
  -- there is a prefix letter of this position: there are nine letters
  pub known : power ≤ 9
  pub within : used ≤ length (decimal size)

-- The greatest decimal prefix of a size follows from its number of digits and from that of its digits before the
-- trailing zeros.
pub found_power : {digits : List ℕ} {size len used power : ℕ} → digits ≡ padded_digits size
    → len ≡ length (decimal size) → size < size_limit → 4 ≤ len → IsUsed digits used → used ≤ 32
    → power ≡ min ((len - 1) / 3) ((len + 3 - used) / 3) → FoundPower size used power
found_power {digits} {size} {len} {used} {power} digits_are len_is small wide given within power_is =
    let is_used = rw digits_are at given in
    let some : 1 ≤ size = omega (arith, (few_digits size small).3 (omega (arith, len_is, wide))) in
    let bounds = used_within size used some small is_used within in
    let powers = between_powers size some (omega (arith, small)) in
    let zeros = len - used in
    let front = size / 10 ^ zeros in
    let few : used + zeros ≤ length (decimal size) = omega (arith, bounds.1, len_is) in
    let product : size ≡ front * 10 ^ zeros =
    omega (arith, div-add-mod' size (10 ^ zeros), rest_is_zero size used zeros some small is_used few) in
    let digit = digit_of_size size zeros (power_within size zeros some small (omega (arith, bounds.0, few))) small in
    let odd : front % 10 ≢ 0 =
    λ even. is_used.last (length (decimal size) - 1 - zeros) (omega (arith, bounds.0, bounds.1, len_is))
    (digit ∙ omega (arith, even)) in
    let greatest = greatest_of_zeros size front zeros (length (decimal size)) power product odd powers.0 powers.1
    (omega (arith, power_is, len_is, bounds.1)) in
    record {
      is_used = is_used;
      greatest = greatest;
      some = omega (arith, power_is, bounds.1, len_is, wide);
      known = few_thousands power size small greatest.fits.not_above;
      within = bounds.1;
    }

-- A decimal prefix that fits a size is not above it, so it has fewer zeros than the size has digits.
pub not_above_digits : (size other : ℕ) → 1 ≤ size → size < size_limit → FitsPrefix 3 size (10 ^ (3 * other))
    → other ≤ (length (decimal size) - 1) / 3
not_above_digits size other some small fits =
    grind (arith, common_steps, between_powers size some (omega (arith, small)), exponent_below)

-- The first bytes of the padded digits of a size, as many as it has digits, are its digits.
pub first_of_padded : (size len : ℕ) → len ≡ length (decimal size) → take len (padded_digits size) ≡ decimal size
first_of_padded size len len_is = grind (arith, common_steps)
