-- The letters of a unit, as the first bytes of a number, are those that the state machine reads.
use Rattle.std.proofs.Common.{◌≡◌, ℕ, zero, suc, ◌+◌, ◌*◌, ◌/◌, ◌%◌, ◌^◌, ◌≤◌, List, [], ◌∷◌, ◌++◌, Bool, true, false}
use Rattle.std.proofs.Common.{not, eqb, ◌&&◌, ◌||◌, length, take, drop, Option, Some, None, zero-add, refl, sym, ap}
use Rattle.std.proofs.Common.{◌∙◌, arith, get_or, replicate, append_assoc, length-append, Fits, w8, ◌<◌, eqb→eq}
use Rattle.std.proofs.Common.{slice_index_or}
use Rattle.std.specs.Char.{to_ascii_lowercase}
use Rattle.std.proofs.lemmas.Bool.Decides.{nat_tests}
use Rattle.core.specs.Int.Digits.{AllBelowBase}
use Rattle.core.proofs.dec2flt.DigitsLemmas.{every_below}
use Rattle.core.proofs.dec2flt.Eight.{bytes_of, bytes-drop, zeros_after}
use lib.Lanes.{digits_l, number_l}
use mir.Val.{bool_byte}
use Rattle.byte_unit_base.specs.Grammar.Shape.{shape}
use Rattle.byte_unit_base.specs.Reading.Machines.{letter_power, multiple_of}
use Rattle.byte_unit_base.specs.Reading.Ends.{first_eight, IsLineOf, IsLeadingUnit, word_of}
use Rattle.byte_unit_base.specs.Reading.Ends.{bits_len, has_prefix}
use Rattle.byte_unit_base.specs.Reading.Machines.{unit_step, multiple_step, multiple_shape, prefix_at, is_i, scan_of}
use Rattle.byte_unit_base.specs.Reading.Machines.{start, Multiple, One, Decimal, Binary, Empty}
use Rattle.byte_unit_base.specs.Grammar.Units.{shape_of}
use Rattle.byte_unit_base.specs.Reading.ParseSpec.{binary_of}
use Rattle.byte_unit_base.specs.declared.unit.Unit.{Unit as UnitName}
use Rattle.byte_unit_base.specs.declared.unit.Unit.TheVariants.{Bit}
use Rattle.byte_unit_base.specs.declared.unit.tables.TheConstants.{LETTER_POWERS}
use Rattle.byte_unit_base.proofs.Lines.{rest_of_line}
use Rattle.byte_unit_base.proofs.UnitReached.{prefix_found}
use Rattle.byte_unit_base.proofs.UnitStops.{walk, walk_line, walk_leads}

-- the table has the position of each letter's prefix at its byte
pub power_in_table : (letter : ℕ) → letter < 256 → slice_index_or LETTER_POWERS letter 0 ≡ letter_power letter
power_in_table letter below =
    let is = λ (c : ℕ). eqb (slice_index_or LETTER_POWERS c 0) (letter_power c) in
    eqb→eq _ (letter_power letter) (every_below is 256 tt letter below)

-- the position of a letter's prefix is at most 9
pub power_few : (letter : ℕ) → letter_power letter ≤ 9
power_few letter =
    elim (prefix_at letter) as (λ found. prefix_at letter ≡ found → elim found [ Some p ↦ p | None ↦ 0 ] ≤ 9) [
      | Some p ↦ λ is. omega (arith, (prefix_found letter p is).1)
      | None ↦ λ is. omega arith
    ] refl

-- the binary prefix at the position of the prefix of a unit, or none, gives the binary unit of this unit
pub binary_shape : (unit : UnitName)
    → multiple_shape (multiple_of (shape_of unit).power true) (shape_of unit).bit ≡ binary_of (shape_of unit)
binary_shape Bit = refl
binary_shape _ = refl

-- a number that is one more than another is not 0
not_zero : (n : ℕ) → eqb (suc n) 0 ≡ false
not_zero n = grind (arith, nat_tests)

-- the position of a letter is not 0, so it has a binary and a decimal prefix
prefix_is : (c p : ℕ) → prefix_at c ≡ Some p
    → (multiple_of p true ≡ Binary p) × (multiple_of p false ≡ Decimal p) × (eqb p 0 ≡ false)
prefix_is c zero e = absurd (omega (arith, (prefix_found c zero e).0))
prefix_is c (suc p) e = (refl, refl, not_zero p)

-- there is a prefix exactly if its position is not 0
pub prefix_kept : (n : ℕ) (binary : Bool) → has_prefix (multiple_of n binary) ≡ not (eqb n 0)
prefix_kept zero binary = refl
prefix_kept (suc n) true = rw (not_zero n) refl
prefix_kept (suc n) false = rw (not_zero n) refl

-- `i` in either case: 105 is `i`, and 73 is `I`
i_is : (c : ℕ) → (eqb c 105 || eqb c 73) ≡ is_i c
i_is c = grind (arith, nat_tests)

-- `b` in either case: 66 is `B`, and 98 is `b`
b_is : (c : ℕ) → eqb (to_ascii_lowercase c) 98 ≡ (eqb c 66 || eqb c 98)
b_is c = grind (arith, nat_tests)

-- after a prefix, the letters with which `bits` begins, in either case, are read, as many as there are
suffix_walk : (m : Multiple) (j w : ℕ) (rest : List ℕ) → multiple_step m (w % 256) ≡ None
    → (u : Bool) → eqb (w % 256) 66 ≡ u → (l : Bool) → eqb (w % 256) 98 ≡ l → (i : Bool) → is_i (w / 256 % 256) ≡ i
    → (t : Bool) → eqb (to_ascii_lowercase (w / 256 / 256 % 256)) 116 ≡ t
    → (s : Bool) → eqb (to_ascii_lowercase (w / 256 / 256 / 256 % 256)) 115 ≡ s → let n = bits_len (digits_l 256 8 w) in
    walk (scan_of m Empty) (digits_l 256 (suc (suc (suc (suc (suc j))))) w ++ rest)
    ≡ (scan_of m (word_of n (eqb (w % 256) 66)), n)
unfolding unit_step
suffix_walk m j w rest none false u false l _ i _ t _ s = rw (none, b_is (w % 256), l, u, walk) refl
suffix_walk m j w rest none _ u _ l false i _ t _ s = rw (none, b_is (w % 256), l, u, i, walk) refl
suffix_walk m j w rest none _ u _ l true i false t _ s = rw (none, b_is (w % 256), l, u, i, t, walk) refl
suffix_walk m j w rest none _ u _ l true i true t false s = rw (none, b_is (w % 256), l, u, i, t, s, walk) refl
suffix_walk m j w rest none _ u _ l true i true t true s = rw (none, b_is (w % 256), l, u, i, t, s, walk) refl

-- `text` is bytes as a number: the first `k` are a prefix, and the `n` after them, in `word`, the letters of a suffix.
-- The state machine reads both, and its state after them has this prefix and this suffix
unit_walk : (text n : ℕ) (rest : List ℕ) (o : Option ℕ) → prefix_at (text % 256) ≡ o
    → (i : Bool) → is_i (text / 256 % 256) ≡ i
    → let power : ℕ = elim o [ Some p ↦ p | None ↦ 0 ] in let binary = not (eqb power 0) && i in
    let k = bool_byte (not (eqb power 0)) + bool_byte binary in let word = text / 2 ^ (8 * k) in
    n ≡ bits_len (digits_l 256 8 word) → walk start (digits_l 256 8 text ++ rest)
    ≡ (scan_of (multiple_of power binary) (word_of n (eqb (word % 256) 66)), k + n)
unfolding unit_step
unit_walk text n rest None e i f n_is =
    let w : text / 2 ^ (8 * 0) ≡ text = omega arith in
    rw (n_is, w, zero-add (bits_len (digits_l 256 8 text)))
    (suffix_walk One 3 text rest (rw (e, prefix_at) refl) _ refl _ refl _ refl _ refl _ refl)
unit_walk text n rest (Some p) e true f n_is =
    let w : text / 2 ^ (8 * 2) ≡ text / 256 / 256 = omega arith in
    let two : (n : ℕ) → 2 + n ≡ 1 + (1 + n) = λ n. omega arith in
    rw (n_is, (prefix_is (text % 256) p e).2, (prefix_is (text % 256) p e).0, w, two, e, prefix_at, f, walk)
    (ap (λ w. (w.0, 1 + (1 + w.1)))
    (suffix_walk (Binary p) 1 (text / 256 / 256) rest refl _ refl _ refl _ refl _ refl _ refl))
unit_walk text n rest (Some p) e false f n_is =
    let w : text / 2 ^ (8 * 1) ≡ text / 256 = omega arith in
    rw (n_is, (prefix_is (text % 256) p e).2, (prefix_is (text % 256) p e).1, w, e, prefix_at, walk)
    (ap (λ w. (w.0, 1 + w.1))
    (suffix_walk (Decimal p) 2 (text / 256) rest (rw f refl) _ refl _ refl _ refl _ refl _ refl))

-- the first bytes are the digits of their number in base 256
first_digits : (n : ℕ) (bytes : List ℕ) → n ≤ length bytes → AllBelowBase 256 bytes
    → digits_l 256 n (number_l 256 (take n bytes)) ++ drop n bytes ≡ bytes
first_digits zero bytes long small = refl
first_digits (suc n) [] long small = absurd (omega (arith, long))
first_digits (suc n) (byte ∷ bytes) long small =
    let word = number_l 256 (take n bytes) in
    let first : (byte + 256 * word) % 256 ≡ byte = omega (arith, small.0) in
    let rest : (byte + 256 * word) / 256 ≡ word = omega (arith, small.0) in
    let later = first_digits n bytes (omega (arith, long)) small.1 in
    λ i. first i ∷ (ap (λ r. digits_l 256 n r ++ drop n bytes) rest ∙ later) i

-- the letters that follow in a line are the beginning of a unit, the longest one
pub letters_in_line : {line bytes : List ℕ} {from text power a b n : ℕ} → ((i : ℕ) → Fits w8 (get_or bytes i 0))
    → IsLineOf line bytes → from ≤ length line → text ≡ number_l 256 (first_eight (drop from bytes))
    → power ≡ letter_power (text % 256) → let next = text / 256 % 256 in
    let binary = not (eqb power 0) && (eqb next 105 || eqb next 73) in
    a ≡ bool_byte (not (eqb power 0)) → b ≡ bool_byte binary → let word = text / 2 ^ (8 * (a + b)) in
    n ≡ bits_len (digits_l 256 8 word)
    → IsLeadingUnit (drop from line) (scan_of (multiple_of power binary) (word_of n (eqb (word % 256) 66))) (a + b + n)
letters_in_line {line} {bytes} {from} {text} fits is inside text_is letter a_is b_is n_is =
    let eight = drop from bytes ++ replicate 8 0 in
    let small = (zeros_after (drop from bytes) 8 (bytes-drop from bytes (bytes_of bytes (λ i. (fits i).fits)))).0 in
    let parts : digits_l 256 8 text ++ drop 8 eight ≡ drop from line ++ (is.after ++ replicate 8 0) =
    rw text_is (first_digits 8 eight (omega (arith, length-append (drop from bytes) (replicate 8 0))) small)
    ∙ (ap (λ rest. rest ++ replicate 8 0) (rest_of_line line bytes from is inside)
    ∙ append_assoc (drop from line) is.after (replicate 8 0)) in
    walk_leads (drop from line) _ _ (sym (ap (walk start) parts ∙ walk_line (drop from line) is.after start is.ends)
    ∙ rw (n_is, a_is, b_is, letter) (unit_walk text _ (drop 8 eight) _ refl _ (sym (i_is (text / 256 % 256))) refl))
