-- The decimal digits of a number, written from the last to the first, and their number.
--
-- The highest bit `top` of a number is its index, the leading zeros before it, and the two powers of two that bound the
-- number. That a fraction `fits` is that it has digits, that they are below its power of ten, and that they are at most
-- 38.
use Rattle.std.proofs.Common.{set, ◌≡◌, ℕ, zero, suc, ◌+◌, ◌*◌, ◌^◌, ◌/◌, ◌%◌, ◌<◌, ◌-◌, ◌≤◌, ⊎_elim, List, [], ◌∷◌}
use Rattle.std.proofs.Common.{◌++◌, length, take, drop, arith, ap, sym, refl, ◌∙◌, length-append, append_assoc, append-nil}
use Rattle.std.proofs.Common.{get_or, subst, Bool, true, ◌&&◌, leb, decimal, IsAscii, div-le_self, le-div_iff_mul-le}
use Rattle.std.proofs.Math.Nat.{pow-succ', mod-mod, div-div-eq-div-mul, pow-le-pow_right}
use Rattle.std.proofs.lemmas.Bool.{cases_lt, and_parts, leb-true}
use Rattle.std.proofs.lemmas.Fmt.{decimal_digit, decimal_step_wide, length-decimal-le_wide, IsAscii-decimal_wide}
use Rattle.std.proofs.lemmas.List.{drop-set, drop-drop, length-set, length-map, take_at}
use Rattle.std.proofs.lemmas.Nat.{div_below, div-mul-add, mod-mul-add, leading_top}
use Rattle.std.proofs.lemmas.Str.{IsUtf8-from_ascii, IsAscii-drop, IsAscii-take}
use Rattle.std.proofs.lemmas.Str.Ascii.{IsAscii-cons}
use Rattle.byte_unit_math.specs.Digits.{last_digits}
use Rattle.byte_unit_math.specs.Numeral.{fraction_text, glyphs}
use Rattle.byte_unit_math.proofs.Digits.{length_last_digits, last_digits_below_ten, value_of_last_digits, same_digits}
use Rattle.byte_unit_math.proofs.Digits.{one_le_pow10}
use Rattle.byte_unit_math.proofs.Fractions.{fraction_text_some}
use Rattle.byte_unit_math.specs.Bounds.{places_of_number}
use Rattle.byte_unit_math.proofs.Scales.{pow10_fits}
use Rattle.std.specs.Int.Count.{count_leading_zeros}

-- A number below ten is written as one digit.
pub decimal_one_digit : (n : ℕ) → n < 10 → decimal n ≡ (48 + n) ∷ []
decimal_one_digit n h = decimal_digit n h

-- A number of ten or more is written as its tenth, and the last digit.
pub decimal_next_digit : (n : ℕ) → 10 ≤ n → n < 2 ^ 128 → decimal n ≡ decimal (n / 10) ++ (48 + n % 10) ∷ []
decimal_next_digit n h small = decimal_step_wide n h (omega arith)

-- A number below ten has one digit.
pub decimal_length_one : (n : ℕ) → n < 10 → length (decimal n) ≡ 1
decimal_length_one n h = ap length (decimal_digit n h)

-- A number from 10 to 99 is written as its last two digits.
pub decimal_two_digits : (n : ℕ) → 10 ≤ n → n < 100 → decimal n ≡ glyphs (last_digits 2 n)
decimal_two_digits n wide small = grind (arith, decimal_next_digit, decimal_one_digit)

-- A 128-bit number has at most 39 digits.
pub decimal_length_le_39 : (n : ℕ) → n < 2 ^ 128 → length (decimal n) ≤ 39
decimal_length_le_39 n small = length-decimal-le_wide 39 n (omega arith) (omega arith) (omega arith)

-- The last k digits of the remainder by 10^k are those of the number.
last_digits_of_rest : (k n : ℕ) → last_digits k (n % 10 ^ k) ≡ last_digits k n
last_digits_of_rest k n =
    grind (arith, last_digits_below_ten, length_last_digits, mod-mod, same_digits, value_of_last_digits)

-- A number is written as the number without its last k digits, and then these digits.
decimal_split : (k n : ℕ) → 10 ^ k ≤ n → n < 2 ^ 128 → decimal n ≡ decimal (n / 10 ^ k) ++ glyphs (last_digits k n)
decimal_split zero n wide small = grind (arith, append-nil)
decimal_split (suc k) n wide small =
    let front = n / 10 ^ k in
    let power : 10 ^ k * 10 ≡ 10 ^ suc k = omega (arith, pow-succ' 10 k) in
    let many : 10 ≤ front =
    (le-div_iff_mul-le {k = 10 ^ k} {x = 10} {y = n} (one_le_pow10 k)).1 (omega (arith, wide, power)) in
    let tenth : front / 10 ≡ n / 10 ^ suc k = div-div-eq-div-mul n (10 ^ k) 10 ∙ ap (λ p. n / p) power in
    decimal_split k n (omega (arith, wide, power)) small
    ∙ (ap (λ l. l ++ glyphs (last_digits k n)) (decimal_next_digit front many
    (omega (arith, small, div-le_self n (10 ^ k))))
    ∙ (append_assoc (decimal (front / 10)) ((48 + front % 10) ∷ []) (glyphs (last_digits k n))
    ∙ ap (λ q. decimal q ++ glyphs (last_digits (suc k) n)) tenth))

-- The quotient by 10^k, and then k digits of the remainder, write the number.
pub decimal_cut : (k n : ℕ) → 10 ^ k ≤ n → n < 2 ^ 128
    → decimal (n / 10 ^ k) ++ glyphs (last_digits k (n % 10 ^ k)) ≡ decimal n
decimal_cut k n wide small = rw (last_digits_of_rest k n) (sym (decimal_split k n wide small))

-- A number of more than k digits has k digits more than the number without its last k digits.
pub decimal_length_split : (k n : ℕ) → 10 ^ k ≤ n → n < 2 ^ 128 → length (decimal n) ≡ length (decimal (n / 10 ^ k)) + k
decimal_length_split k n wide small =
    grind (arith, decimal_split k n wide small, length-append, length-map, length_last_digits)

-- A number has at least one digit.
pub decimal_length_positive : (n : ℕ) → n < 2 ^ 128 → 1 ≤ length (decimal n)
decimal_length_positive n small = ⊎_elim (λ one. omega (arith, decimal_length_one n one))
    (λ more. omega (arith, decimal_length_split 1 n more small)) (cases_lt n 10)

-- The last k digits without leading zeros are the digits of a number below 10^k. What comes after them stays.
pub without_leading_zeros : (k n : ℕ) (behind : List ℕ) → n < 10 ^ k → n < 2 ^ 128 → 1 ≤ k
    → drop (k - length (decimal n)) (glyphs (last_digits k n) ++ behind) ≡ decimal n ++ behind
without_leading_zeros zero n behind below small some = absurd (omega (arith, some))
without_leading_zeros (suc zero) n behind below small some = grind (arith, decimal_one_digit)
without_leading_zeros (suc (suc k)) n behind below small some = ⊎_elim
    (λ less.
    let few = length-decimal-le_wide (suc k) n (omega arith) less (omega (arith, small)) in
    let zeros : suc (suc k) - length (decimal n) ≡ suc (suc k - length (decimal n)) = omega (arith, few) in
    rw zeros (without_leading_zeros (suc k) n behind less small (omega arith)))
    (λ more.
    let front = n / 10 ^ suc k in
    let one : front < 10 =
    div_below n (10 ^ suc k) 10 (one_le_pow10 (suc k)) (omega (arith, below, pow-succ' 10 (suc k))) in
    let none : suc (suc k) - length (decimal n) ≡ 0 =
    omega (arith, decimal_length_split (suc k) n more small, decimal_length_one front one) in
    let digit : front % 10 ≡ front = omega (arith, one) in
    rw (none, digit, decimal_split (suc k) n more small, decimal_one_digit front one) refl)
    (cases_lt n (10 ^ suc k))

-- A power of ten plus digits below it is written as a one and the digits, leading zeros kept.
pub decimal_of_one_and_digits :
    (places digits : ℕ) → digits < 10 ^ places → places ≤ places_of_number
    → decimal (10 ^ places + digits) ≡ 49 ∷ glyphs (last_digits places digits)
decimal_of_one_and_digits places digits below few =
    let power = 10 ^ places in
    let parts : power + digits ≡ 1 * power + digits = omega arith in
    let cut = decimal_cut places (1 * power + digits) (omega arith) (omega (arith, below, pow10_fits places few)) in
    ap decimal parts
    ∙ (sym (rw (div-mul-add 1 power digits below, mod-mul-add 1 power digits below) at cut)
    ∙ ap (λ l. l ++ glyphs (last_digits places digits)) (decimal_one_digit 1 (omega arith)))

-- A table of the two digits of each of `count` numbers, as characters, beginning at a given number.
abbrev pairs_from : ℕ → ℕ → List ℕ
pairs_from zero n = []
pairs_from (suc count) n = (48 + n / 10) ∷ (48 + n % 10) ∷ pairs_from count (suc n)

-- The entries at 2k and 2k + 1 of such a table are the tens and the ones of the k-th number.
pub pairs_from_at :
    (count from k : ℕ) → k < count → (get_or (pairs_from count from) (k * 2) 0 ≡ 48 + (from + k) / 10)
    × (get_or (pairs_from count from) (k * 2 + 1) 0 ≡ 48 + (from + k) % 10)
pairs_from_at zero from k few = absurd (omega (arith, few))
pairs_from_at (suc count) from zero few = (omega arith, omega arith)
pairs_from_at (suc count) from (suc k) few =
    let both = pairs_from_at count (suc from) k (omega (arith, few)) in
    let first : suc k * 2 ≡ suc (suc (k * 2)) = omega arith in
    let second : suc k * 2 + 1 ≡ suc (suc (k * 2 + 1)) = omega arith in
    (rw first (omega (arith, both.0)), rw second (omega (arith, both.1)))

-- Writing the tens and the ones of a number below 100 at `start` puts its last two digits there, and leaves what
-- follows.
pub two_digits_put :
    (n start first last : ℕ) (bytes : List ℕ) → (n < 10 ^ 2) × (start + 2 ≤ length bytes)
    → (first ≡ 48 + n / 10) × (last ≡ 48 + n % 10)
    → drop start (set (set bytes (start + 1) last) start first) ≡ glyphs (last_digits 2 n) ++ drop (start + 2) bytes
two_digits_put n start first last bytes fits digits = grind (arith, drop-set, length-set)

-- The last digits of n are written from `start` up to `end`, and `rest` is the number of the digits before them.
pub record IsWritten (n end : ℕ) (old : List ℕ) (rest start : ℕ) (bytes : List ℕ) : Type 0 where
  pub within : start ≤ end
  pub place : start + length (decimal n) ≡ end + length (decimal rest)
  pub digits : decimal rest ++ drop start bytes ≡ decimal n ++ drop end old

-- If there are digits after the point, their text is a point and the digits.
pub fraction_text_glyphs : (places digits : ℕ) → 0 < places
    → fraction_text (last_digits places digits) ≡ 46 ∷ glyphs (last_digits places digits)
fraction_text_glyphs places digits some = grind (arith, fraction_text_some, length_last_digits)

-- A one and the digits are as long as a point and the digits.
pub length_of_one_and_digits :
    (places digits : ℕ) → 0 < places → digits < 10 ^ places → places ≤ places_of_number
    → (length (decimal (10 ^ places + digits)) ≡ length (fraction_text (last_digits places digits)))
    × (0 < length (decimal (10 ^ places + digits)))
length_of_one_and_digits places digits some below few = grind (arith, decimal_of_one_and_digits, fraction_text_glyphs)

-- Replacing the one before digits by a point gives the text of the fraction.
pub one_becomes_point :
    (places digits point : ℕ) (bytes behind : List ℕ) → (0 < places) × (digits < 10 ^ places) × (places ≤ places_of_number)
    → point < length bytes → drop point bytes ≡ decimal (10 ^ places + digits) ++ behind
    → drop point (set bytes point 46) ≡ fraction_text (last_digits places digits) ++ behind
one_becomes_point places digits point bytes behind fits within h =
    let all : drop point bytes ≡ 49 ∷ (glyphs (last_digits places digits) ++ behind) =
    h ∙ ap (λ l. l ++ behind) (decimal_of_one_and_digits places digits fits.1 fits.2) in
    let rest : drop (point + 1) bytes ≡ glyphs (last_digits places digits) ++ behind =
    sym (drop-drop 1 point bytes) ∙ ap (λ l. drop 1 l) all in
    drop-set bytes point 46 within
    ∙ (ap (λ l. 46 ∷ l) rest ∙ ap (λ l. l ++ behind) (sym (fraction_text_glyphs places digits fits.0)))

-- The text of a fraction is ASCII.
pub fraction_ascii :
    (places digits : ℕ) → (0 < places) × (digits < 10 ^ places) × (places ≤ places_of_number)
    → IsAscii (decimal (10 ^ places + digits)) → IsAscii (fraction_text (last_digits places digits))
fraction_ascii places digits fits ascii =
    let glyphs_ascii = IsAscii-drop (49 ∷ glyphs (last_digits places digits)) 1
    (subst IsAscii (decimal_of_one_and_digits places digits fits.1 fits.2) ascii) in
    subst IsAscii (sym (fraction_text_glyphs places digits fits.0))
    (IsAscii-cons 46 (glyphs (last_digits places digits)) (omega arith) glyphs_ascii)

-- The digits of a number are ASCII.
pub ruleset decimal_ascii = (IsAscii-decimal_wide)

-- ASCII is UTF-8, and so is what it begins with.
pub ruleset ascii_texts = (IsUtf8-from_ascii, IsAscii-take)

-- A text that is written up to the end of an array is the array from the text's beginning.
pub written_piece :
    (room start : ℕ) (text bytes behind : List ℕ) → start + length text ≡ room → drop start bytes ≡ text ++ behind
    → take (room - start) (drop start bytes) ≡ text
written_piece room start text bytes behind begins put =
    rw put (take_at text behind (room - start) (omega (arith, begins)))

-- If the text is ASCII, so is that piece.
pub piece_ascii :
    (room start : ℕ) (text bytes behind : List ℕ) → start + length text ≡ room → drop start bytes ≡ text ++ behind
    → IsAscii text → IsAscii (take (room - start) (drop start bytes))
piece_ascii room start text bytes behind begins put ascii =
    subst IsAscii (sym (written_piece room start text bytes behind begins put)) ascii

-- The digits of a number fit 39 bytes, and are UTF-8.
pub ruleset number_written = (decimal_length_le_39, written_piece, piece_ascii, IsUtf8-from_ascii)

-- What the proof of a fraction's text uses.
pub ruleset fractions_written = (pow10_fits, length_of_one_and_digits, one_becomes_point, fraction_ascii)

-- A number of more than k digits is written as the number without the last k, and these. What comes after them stays.
pub digits_before :
    (k n : ℕ) (behind : List ℕ) → 10 ^ k ≤ n → n < 2 ^ 128
    → decimal n ++ behind ≡ decimal (n / 10 ^ k) ++ (glyphs (last_digits k (n % 10 ^ k)) ++ behind)
digits_before k n behind wide small = ap (λ l. l ++ behind) (sym (decimal_cut k n wide small))
    ∙ append_assoc (decimal (n / 10 ^ k)) (glyphs (last_digits k (n % 10 ^ k))) behind

-- A number of 100 or more is written as its quotient by 100, and two more digits.
pub last_two : (n : ℕ) (behind : List ℕ) → 100 ≤ n → n < 2 ^ 128
    → decimal n ++ behind ≡ decimal (n / 100) ++ (glyphs (last_digits 2 (n % 100)) ++ behind)
last_two = digits_before 2

-- A number of 10000 or more is written as its quotient by 10000, and four more digits.
pub last_four : (n : ℕ) (behind : List ℕ) → 10000 ≤ n → n < 2 ^ 128
    → decimal n ++ behind ≡ decimal (n / 10000) ++ (glyphs (last_digits 4 (n % 10000)) ++ behind)
last_four = digits_before 4

-- A number of 100 or more has two digits more than its quotient by 100.
pub two_more : (n : ℕ) → 100 ≤ n → n < 2 ^ 128 → length (decimal n) ≡ length (decimal (n / 100)) + 2
two_more = decimal_length_split 2

-- A number of 10000 or more has four digits more than its quotient by 10000.
pub four_more : (n : ℕ) → 10000 ≤ n → n < 2 ^ 128 → length (decimal n) ≡ length (decimal (n / 10000)) + 4
four_more = decimal_length_split 4

-- What the proof of writing digits in groups of two and four uses.
pub ruleset groups_written =
    (decimal_one_digit, decimal_length_one, decimal_two_digits, last_two, last_four, two_more, four_more, drop-set)

-- A number below 10^30 has at most 30 digits.
pub few_30 : (n : ℕ) → n < 10 ^ 30 → length (decimal n) ≤ 30
few_30 n small = length-decimal-le_wide 30 n (omega arith) small (omega (arith, small))

-- A number below 10^16 has at most 16 digits.
pub few_16 : (n : ℕ) → n < 10 ^ 16 → length (decimal n) ≤ 16
few_16 n small = length-decimal-le_wide 16 n (omega arith) small (omega (arith, small))

-- A number of 10^16 or more has 16 digits more than its quotient by 10^16.
pub more_16 : (n : ℕ) → 10 ^ 16 ≤ n → n < 2 ^ 128 → length (decimal n) ≡ length (decimal (n / 10 ^ 16)) + 16
more_16 = decimal_length_split 16

-- The estimated number of decimal digits of a number of this many bits: 1233 / 4096 is just below log10(2).
abbrev digits_estimate : ℕ → ℕ
digits_estimate binary = binary * 1233 / 4096

-- Whether numbers of at most this many bits have as many digits as estimated, or one more: a test that is evaluated.
abbrev estimate_holds_below : ℕ → Bool
estimate_holds_below zero = true
estimate_holds_below (suc j) = leb (10 ^ digits_estimate (suc j)) (10 * 2 ^ j) &&
    (leb (2 ^ suc j) (10 ^ suc (digits_estimate (suc j))) && estimate_holds_below j)

-- The numbers of j + 1 bits have the estimated number of decimal digits, or one more.
IsBetween : ℕ → Type 0
IsBetween j = (10 ^ digits_estimate (suc j) ≤ 10 * 2 ^ j) × (2 ^ suc j ≤ 10 ^ suc (digits_estimate (suc j)))

-- If the test holds for `count` bits, numbers of at most that many have as many digits as estimated, or one more.
is_between : (count j : ℕ) → estimate_holds_below count ≡ true → j < count → IsBetween j
unfolding IsBetween
is_between zero j h few = absurd (omega (arith, few))
is_between (suc count) j h few =
    let parts = and_parts (leb (10 ^ digits_estimate (suc count)) (10 * 2 ^ count)) _ h in
    let others = and_parts (leb (2 ^ suc count) (10 ^ suc (digits_estimate (suc count)))) _ parts.1 in
    ⊎_elim (λ below. is_between count j others.1 below)
    (λ last. subst IsBetween (let e : count ≡ j = omega (arith, few, last) in e)
    (leb-true _ _ parts.0, leb-true _ _ others.0)) (cases_lt j count)

-- A number between 10^k and 10^(k + 1) has k + 1 digits.
decimal_length_between : (k n : ℕ) → 10 ^ k ≤ n → n < 10 ^ suc k → n < 2 ^ 128 → length (decimal n) ≡ suc k
decimal_length_between k n low high small =
    let digit = div_below n (10 ^ k) 10 (one_le_pow10 k) (omega (arith, high, pow-succ' 10 k)) in
    omega (arith, decimal_length_split k n low small, decimal_length_one (n / 10 ^ k) digit)

-- A number below the power of ten of the estimate, and at least a tenth of it, has the estimated number of digits.
digits_below_power : (few n : ℕ) → 10 ^ few ≤ 10 * n → 10 ≤ n → n < 2 ^ 128 → n < 10 ^ few → length (decimal n) ≡ few
digits_below_power zero n low wide small below = absurd (omega (arith, wide, below))
digits_below_power (suc few) n low wide small below = grind (arith, decimal_length_between, pow-succ')

-- A number of at most 128 bits has as many digits as estimated if it is below ten to the estimate, or else one more.
module _ (k n : ℕ) (few : k ≤ 128) (wide : 10 ≤ n) (small : n < 2 ^ k) where
  -- The number fits 128 bits.
  wide_enough : n < 2 ^ 128
  wide_enough = omega (arith, small, pow-le-pow_right {n = 2} (omega arith) {i = k} {j = 128} few)

  -- The number is at least a tenth of the power of ten of its estimate, and below ten times this power.
  bounds : (10 ^ digits_estimate (k - count_leading_zeros k n) ≤ 10 * n)
      × (n < 10 ^ suc (digits_estimate (k - count_leading_zeros k n)))
  unfolding IsBetween
  bounds =
      let top = leading_top k n (omega (arith, wide)) small in
      let between = is_between 128 top.0 refl (omega (arith, top.1, few)) in
      let binary : suc top.0 ≡ k - count_leading_zeros k n = omega (arith, top.1) in
      subst (λ b. (10 ^ digits_estimate b ≤ 10 * n) × (n < 10 ^ suc (digits_estimate b))) binary
      (omega (arith, between.0, top.2), omega (arith, between.1, top.3))

  -- Below the power of ten of its estimate, the number has as many digits as estimated.
  pub few_digits : n < 10 ^ digits_estimate (k - count_leading_zeros k n)
      → length (decimal n) ≡ digits_estimate (k - count_leading_zeros k n)
  few_digits below = digits_below_power _ n bounds.0 wide wide_enough below

  -- At the power of ten of its estimate or above, the number has one digit more than estimated.
  pub more_digits : 10 ^ digits_estimate (k - count_leading_zeros k n) ≤ n
      → length (decimal n) ≡ suc (digits_estimate (k - count_leading_zeros k n))
  more_digits reached = decimal_length_between _ n reached bounds.1 wide_enough

-- The length of a number, as the proofs of writing it in groups of 16 digits use it.
pub ruleset lengths_by_16 = (few_30, few_16, more_16, decimal_length_positive)

-- The length of a number by its binary digits.
pub ruleset lengths_by_bits = (decimal_length_one, few_digits, more_digits)
