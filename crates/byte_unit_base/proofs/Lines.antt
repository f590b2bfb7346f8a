-- A line at the beginning of bytes: what follows it, eight of its bytes as a number, and its digits.
use Rattle.std.proofs.Common.{◌≡◌, ℕ, suc, zero, ◌<◌, ◌≤◌, List, [], ◌∷◌, ◌++◌, length, take, drop, sym, ap, ◌∙◌, arith}
use Rattle.std.proofs.Common.{◌+◌, ◌-◌, ◌*◌, ◌^◌, ◌%◌, replicate, get_or, length-drop, Fits, w8, cond, refl, ◌/◌}
use Rattle.std.proofs.Common.{slice_range, pow-suc, mod-eq_of_lt}
use Rattle.std.proofs.lemmas.List.{take-append-drop, drop-append-le, take_all, take-replicate, take-append-le}
use Rattle.std.proofs.lemmas.List.{drop-drop, take-take}
use Rattle.std.proofs.Math.Seq.{take-append-add}
use Rattle.std.proofs.lemmas.List.Sums.{prefix_len-le-length}
use Rattle.std.specs.Char.{is_ascii_digit}
use Rattle.std.specs.Float.Numeral.{digits_len}
use Rattle.std.specs.Str.Parse.{digits_value}
use Rattle.core.specs.Int.Digits.{AllBelowBase}
use Rattle.core.proofs.dec2flt.Eight.{bytes_of, bytes_down, zeros_after, bytes-drop, eight_at}
use Rattle.core.proofs.dec2flt.DigitsLemmas.{digits_len_short, digits_len-take}
use Rattle.core.proofs.dec2flt.Rows.{many_more}
use Rattle.core.specs.Dec2flt.Digits.{IsEightBytes}
use lib.Lanes.{number_l}
use Rattle.byte_unit_base.specs.Reading.Line.{IsLine}
use Rattle.byte_unit_base.specs.Reading.Ends.{IsAfterLine, IsLineOf, first_eight}
use Rattle.byte_unit_base.proofs.Lists.{dropped_first}

-- the first bytes, up to a line feed or the end, are a line
pub first_line : (bytes : List ℕ) (len : ℕ) → IsLine bytes len → IsLineOf (take len bytes) bytes
first_line bytes len line = record {
  after = drop len bytes;
  bytes_are = sym (take-append-drop len bytes);
  ends = dropped_first (λ byte. byte ≡ 10) bytes len line.after;
}

-- the rest of the bytes is the rest of the line, and what follows it
pub rest_of_line : (line bytes : List ℕ) (from : ℕ) (is : IsLineOf line bytes) → from ≤ length line
    → drop from bytes ≡ drop from line ++ is.after
rest_of_line line bytes from is within = ap (drop from) is.bytes_are ∙ drop-append-le from line is.after within

-- `n` bytes are a number below 256^n
pub word_below : (n : ℕ) (bytes : List ℕ) → AllBelowBase 256 bytes → number_l 256 (take n bytes) < 256 ^ n
word_below zero bytes small = omega arith
word_below (suc n) [] small = omega (arith, word_below n [] small, pow-suc 256 n)
word_below (suc n) (b ∷ bs) small = omega (arith, small.0, word_below n bs small.1, pow-suc 256 n)

-- of eight bytes or more the first eight are taken, with no zeros after them
whole_word : (bytes : List ℕ) → 8 ≤ length bytes → first_eight bytes ≡ take 8 bytes
whole_word bytes many = take-append-le 8 bytes (replicate 8 0) many

-- the number of eight bytes in a slice fits 64 bits, and needs no zeros after them
pub loaded_eight : (from : ℕ) (bytes : List ℕ) → ((k : ℕ) → Fits w8 (get_or bytes k 0)) → from + 8 ≤ length bytes
    → number_l 256 (take 8 (drop from bytes)) % 2 ^ 64 ≡ number_l 256 (first_eight (drop from bytes))
loaded_eight from bytes fits inside =
    let rest = drop from bytes in
    let small = bytes-drop from bytes (bytes_of bytes (λ k. (fits k).fits)) in
    mod-eq_of_lt (omega (arith, word_below 8 rest small))
    ∙ ap (number_l 256) (sym (whole_word rest (omega (arith, inside, length-drop from bytes))))

-- the number of four bytes in a slice fits 32 bits
pub loaded_four : (from : ℕ) (bytes : List ℕ) → ((k : ℕ) → Fits w8 (get_or bytes k 0)) → from + 4 ≤ length bytes
    → number_l 256 (take 4 (drop from bytes)) % 2 ^ 32 ≡ number_l 256 (take 4 (drop from bytes))
loaded_four from bytes fits inside =
    mod-eq_of_lt (word_below 4 (drop from bytes) (bytes-drop from bytes (bytes_of bytes (λ k. (fits k).fits))))

-- zeros after at most eight bytes leave their number as it is
pub padded_word : (bytes : List ℕ) → length bytes ≤ 8 → AllBelowBase 256 bytes
    → number_l 256 (first_eight bytes) ≡ number_l 256 bytes
padded_word bytes few small =
    let count = 8 - length bytes in
    let all : 8 ≡ length bytes + count = omega (arith, few) in
    ap (λ n. number_l 256 (take n (bytes ++ replicate 8 0))) all
    ∙ (ap (number_l 256) (take-append-add bytes (replicate 8 0) count
    ∙ ap (λ zeros. bytes ++ zeros) (take-replicate count 8 0 (omega arith)))
    ∙ sym ((zeros_after bytes count small).1))

-- the number of four bytes and that of those after them make the number of all
four_and_rest : (bytes : List ℕ) → 4 ≤ length bytes
    → number_l 256 (take 4 bytes) + number_l 256 (drop 4 bytes) * 2 ^ 32 ≡ number_l 256 bytes
four_and_rest (a ∷ b ∷ c ∷ d ∷ rest) many = omega arith
four_and_rest _ many = absurd (omega (arith, many))

-- the last four of fewer than eight bytes, shifted to the right, are those after the first four: the two numbers fit 32
-- bits each, and make the number of all
pub after_four : (bytes : List ℕ) → ((k : ℕ) → Fits w8 (get_or bytes k 0)) → 4 ≤ length bytes → length bytes < 8
    → let last = number_l 256 (take 4 (drop (length bytes - 4) bytes)) / 2 ^ (8 * (8 - length bytes)) in
    (last < 2 ^ 32) × (number_l 256 (take 4 bytes) < 2 ^ 32)
    × (number_l 256 (take 4 bytes) + last * 2 ^ 32 ≡ number_l 256 (first_eight bytes))
after_four bytes fits many few =
    let start = length bytes - 4 in
    let over = 8 - length bytes in
    let small = bytes_of bytes (λ k. (fits k).fits) in
    let at_four : start + over ≡ 4 = omega (arith, many, few) in
    let last : number_l 256 (take 4 (drop start bytes)) / 2 ^ (8 * over) ≡ number_l 256 (drop 4 bytes) =
    ap (λ ds. number_l 256 ds / 2 ^ (8 * over)) (take_all 4 (drop start bytes) (omega (arith, length-drop start bytes)))
    ∙ (bytes_down (drop start bytes) over (bytes-drop start bytes small) (omega (arith, many))
    ∙ ap (number_l 256) (drop-drop over start bytes ∙ ap (λ n. drop n bytes) at_four)) in
    let rest = ap (number_l 256) (take_all 4 (drop 4 bytes) (omega (arith, few, length-drop 4 bytes))) in (
      omega (arith, last, rest, word_below 4 (drop 4 bytes) (bytes-drop 4 bytes small)),
      word_below 4 bytes small,
      ap (λ n. number_l 256 (take 4 bytes) + n * 2 ^ 32) last
          ∙ (four_and_rest bytes many ∙ sym (padded_word bytes (omega (arith, few)) small)),
    )

-- the bytes from an index on are the last eight, shifted to the right
pub last_bytes : (from : ℕ) (bytes : List ℕ) → ((k : ℕ) → Fits w8 (get_or bytes k 0)) → 8 ≤ length bytes
    → length bytes - from < 8 → from < length bytes
    → number_l 256 (first_eight (drop (length bytes - 8) bytes)) / 2 ^ (8 * (from - (length bytes - 8)))
    ≡ number_l 256 (first_eight (drop from bytes))
last_bytes from bytes fits many few inside =
    let start = length bytes - 8 in
    let over = from - start in
    let last = drop start bytes in
    let small = bytes_of bytes (λ k. (fits k).fits) in
    let back : start + over ≡ from = omega (arith, many, few, inside) in
    let rest : drop over last ≡ drop from bytes = drop-drop over start bytes ∙ ap (λ n. drop n bytes) back in
    ap (λ n. n / 2 ^ (8 * over)) (padded_word last (omega (arith, length-drop start bytes)) (bytes-drop start bytes small))
    ∙ (bytes_down last over (bytes-drop start bytes small) (omega (arith, inside, many))
    ∙ (ap (number_l 256) rest ∙ sym (padded_word (drop from bytes)
    (omega (arith, few, length-drop from bytes)) (bytes-drop from bytes small))))

-- a line feed, or the end, is no digit, so the run of digits at the start of a line is no longer with what follows it
line_digits : (ds after : List ℕ) → IsAfterLine after → digits_len (ds ++ after) ≡ digits_len ds
line_digits [] [] ends = refl
line_digits [] (b ∷ bs) ends = ap (λ c. digits_len (c ∷ bs)) ends
line_digits (d ∷ ds) after ends = ap (λ n. cond (is_ascii_digit d) (1 + n) 0) (line_digits ds after ends)

-- from an index on there are digits in the line, up to another one at least, and this is their value
pub record HasDigits (line : List ℕ) (from end value : ℕ) : Type 0 where
  pub after : from ≤ end
  pub within : end ≤ length line
  pub more : digits_len (drop from line) ≡ end - from + digits_len (drop end line)
  pub value_is : value ≡ digits_value 10 (slice_range line from end)

-- no digits are a run of digits, of the value 0
pub no_digits : (line : List ℕ) (from : ℕ) → from ≤ length line → HasDigits line from from 0
no_digits line from within =
    let none : from - from ≡ 0 = omega arith in
    record { after = omega arith; within = within; more = omega (arith, none); value_is = rw none refl }

-- eight bytes in a slice, from an index on, are their number
pub loaded_word : (bytes : List ℕ) (from word : ℕ) → ((k : ℕ) → Fits w8 (get_or bytes k 0)) → 8 ≤ length bytes - from
    → word ≡ number_l 256 (first_eight (drop from bytes)) → let eight = take 8 (drop from bytes) in
    IsEightBytes eight × (word ≡ number_l 256 eight)
loaded_word bytes from word fits many word_is = (
  eight_at bytes from (λ k. (fits k).fits) (omega (arith, many)),
  word_is ∙ ap (number_l 256) (whole_word (drop from bytes) (omega (arith, many, length-drop from bytes))),
)

-- the digits with which the eight bytes from an index on begin are digits of the line, and if there are fewer than
-- eight, no more follow
pub digits_of_word : (line bytes : List ℕ) (from count value : ℕ)
    → IsLineOf line bytes → from ≤ length line → let eight = take 8 (drop from bytes) in
    length eight ≡ 8 → count ≡ digits_len eight → value ≡ digits_value 10 (take count eight)
    → HasDigits line from (from + count) value × (count < 8 → digits_len (drop from line) ≡ count)
digits_of_word line bytes from count value is within long count_is value_is =
    let all = drop from bytes in
    let rest = drop from line in
    let later = drop (from + count) line in
    let few : count ≤ 8 = omega (arith, count_is, long, prefix_len-le-length is_ascii_digit (take 8 all)) in
    let parts = rest_of_line line bytes from is within in
    let same : digits_len all ≡ digits_len rest = ap digits_len parts ∙ line_digits rest is.after is.ends in
    let more : digits_len all ≡ count + digits_len (drop count all) =
    omega (arith, digits_len-take all 8, count_is, ap (λ n. digits_len (drop n all)) count_is) in
    let inside : count ≤ length rest = omega (arith, more, same, prefix_len-le-length is_ascii_digit rest) in
    let later_is : drop count all ≡ later ++ is.after =
    ap (drop count) parts ∙ (drop-append-le count rest is.after inside
    ∙ ap (λ ds. ds ++ is.after) (drop-drop count from line)) in
    let span : count ≡ from + count - from = omega arith in (
      record {
        after = omega arith;
        within = omega (arith, inside, length-drop from line, within);
        more = omega (arith, same, more, ap digits_len later_is, line_digits later is.after is.ends);
        value_is = value_is ∙ ap (digits_value 10) (take-take count 8 all few
            ∙ (ap (take count) parts ∙ (take-append-le count rest is.after inside ∙ ap (λ n. take n rest) span)));
      },
      λ less. omega (arith, same, count_is, digits_len_short all 8 (omega (arith, less, count_is))),
    )

-- the value of these digits and that of those after them make the value of all
pub value_of_more : (line : List ℕ) (from start value end : ℕ) → HasDigits line from start value
    → start ≤ end → end ≤ length line → value * 10 ^ (end - start) + digits_value 10 (slice_range line start end)
    ≡ digits_value 10 (slice_range line from end)
value_of_more line from start value end digits after within =
    let count = start - from in
    let k = end - start in
    let rest = drop from line in
    let at_start : from + count ≡ start = omega (arith, digits.after) in
    let all : count + k ≡ end - from = omega (arith, after, digits.after) in
    ap (λ v. v * 10 ^ k + digits_value 10 (slice_range line start end)) digits.value_is
    ∙ (ap (λ ds. digits_value 10 (take count rest) * 10 ^ k + digits_value 10 (take k ds))
    (sym (drop-drop count from line ∙ ap (λ n. drop n line) at_start))
    ∙ (sym (many_more rest count k (omega (arith, after, digits.after, within, length-drop from line)))
    ∙ ap (λ n. digits_value 10 (take n rest)) all))
