-- What loops over bytes read: a run of digits, and the number that digits make, also if only its last 64 bits are kept.
use Rattle.std.proofs.Common.{◌≡◌, ℕ, ◌+◌, ◌-◌, ◌*◌, ◌^◌, ◌<◌, ◌≤◌, List, [], ◌∷◌, ◌%◌, length, take, drop, get_or}
use Rattle.std.proofs.Common.{refl, ap, ◌∙◌, arith, slice_range, take_all, mod-eq_of_lt}
use Rattle.std.specs.Float.Numeral.{digits_len}
use Rattle.std.specs.Str.Parse.{AllDigits, digits_value}
use Rattle.std.proofs.lemmas.Int.Digits.{digits_value_push}
use Rattle.std.proofs.lemmas.Str.Parse.{digit_from_value, digit_at}
use Rattle.std.proofs.lemmas.Str.{digit_value_digit}
use Rattle.core.proofs.dec2flt.DigitsLemmas.{is_digit}
use Rattle.core.proofs.dec2flt.Rows.{AllDigits-digits_len, short_fits}
use Rattle.std.proofs.lemmas.List.{take_more}

-- in a text of digits alone, the run of digits that std finds is the whole text
pub digits_to_the_end : (ds : List ℕ) → AllDigits 10 ds → digits_len ds ≡ length ds
digits_to_the_end [] digits = refl
digits_to_the_end (d ∷ ds) digits =
    let digit = digit_from_value d digits.0 in
    rw ((is_digit d digit.0 digit.1).0) (omega (arith, digits_to_the_end ds digits.1))

-- the bytes of a run of digits that std finds are decimal digits
pub digits_of_run : (bytes : List ℕ) (count : ℕ) → count ≡ 0 + digits_len (drop 0 bytes)
    → AllDigits 10 (take count bytes)
digits_of_run bytes count is = AllDigits-digits_len bytes count (omega (arith, is))

-- the value of at most 19 digits is that of its last 64 bits
pub short_digits : (ds : List ℕ) → AllDigits 10 ds → length ds ≤ 19 → digits_value 10 ds % 2 ^ 64 ≡ digits_value 10 ds
short_digits ds digits few = mod-eq_of_lt (short_fits ds digits few)

-- the value that std reads of at most 19 digits, modulo 2^64, is the value of the digits
pub short_value :
    (ds : List ℕ) (count value : ℕ) → AllDigits 10 ds → count ≡ 0 + digits_len (drop 0 ds) → length ds ≤ 19
    → value ≡ (0 * 10 ^ (count - 0) + digits_value 10 (slice_range ds 0 count)) % 2 ^ 64 → value ≡ digits_value 10 ds
short_value ds count value digits count_is few value_is =
    let all : count - 0 ≡ length ds = omega (arith, count_is, digits_to_the_end ds digits) in
    let same : slice_range ds 0 count ≡ ds = ap (λ n. take n ds) all ∙ take_all (length ds) ds (omega arith) in
    let read : 0 * 10 ^ (count - 0) + digits_value 10 (slice_range ds 0 count) ≡ digits_value 10 ds =
    omega (arith, ap (digits_value 10) same) in
    value_is ∙ (ap (λ n. n % 2 ^ 64) read ∙ short_digits ds digits few)

-- the rest of a number, if it fits 64 bits, follows from its last 64 bits and the value of its first digits
pub last_digits_are :
    (value front behind bits : ℕ) → value ≡ front + behind → behind < 2 ^ 64 → bits ≡ value % 2 ^ 64
    → (bits + (2 ^ 64 - front % 2 ^ 64)) % 2 ^ 64 ≡ behind
last_digits_are value front behind bits value_is below bits_are = omega (arith, value_is, below, bits_are)

-- the value of digits with one digit more is ten times theirs, plus the digit
pub one_digit_more : (ds : List ℕ) (i value digit next : ℕ) → AllDigits 10 ds → i < length ds
    → value ≡ digits_value 10 (take i ds) → digit ≡ get_or ds i 0 → next ≡ value * 10 + (digit - 48)
    → next ≡ digits_value 10 (take (i + 1) ds)
one_digit_more ds i value digit next digits inside value_is digit_is next_is =
    let range = digit_at ds i digits inside in
    let digit_value_is = digit_value_digit (get_or ds i 0) range in
    let more = ap (digits_value 10) (take_more ds i 0 inside) ∙ digits_value_push 10 (take i ds) (get_or ds i 0) in
    omega (arith, more, digit_value_is, value_is, digit_is, next_is)
