-- Texts as messages quote them: at most six times as long, and UTF-8.
use Rattle.std.proofs.Common.{◌≡◌, ℕ, zero, suc, ◌+◌, ◌*◌, ◌/◌, ◌%◌, ◌<◌, ◌≤◌, true, false, ◌&&◌, ◌||◌, List, [], ◌∷◌, ◌++◌}
use Rattle.std.proofs.Common.{length, take, get_or, nat_lt, nat_le, codes, refl, ap, arith, length-append, flat_map, chars, IsUtf8, subst}
use Rattle.std.specs.Char.{is_control, encode_utf8, len_utf8, IsScalar}
use Rattle.std.specs.Fmt.{digits}
use Rattle.std.specs.Str.{is_utf8, encode_utf8_all, all_scalars}
use Rattle.std.proofs.lemmas.Bool.{cond_both, and_parts, ltb-true}
use Rattle.std.proofs.lemmas.Str.{length-encode, len_utf8_bounds, IsUtf8-from_is_utf8, scalars-chars, encodes-chars}
use Rattle.std.proofs.lemmas.Str.{IsUtf8-append, IsUtf8-encode, IsUtf8-nil, encode_ascii}
use Rattle.std.proofs.lemmas.List.{length-take-le}
use Rattle.std.proofs.Math.Utf8.{scalar_cases, low_scalar}
use Rattle.core.proofs.fmt.DigitsParse.{digits-IsUtf8}
use Rattle.byte_unit_base.specs.Errors.Quoted.{escape, escape_byte, escape_char, is_unseen, quote, quoted_len}
use Rattle.byte_unit_base.proofs.PutTexts.{digits_length}

-- the digits of the code of a character, with four bytes more, are at most six times as long as the character
code_length : (c : ℕ) → c < 1114112 → length (digits 16 false c) + 4 ≤ 6 * len_utf8 c
code_length c fits = cond_both (nat_lt c 128) 1 _ IsWithin
    (λ small. omega (arith, digits_length 1 c (omega (arith, ltb-true c 128 small))))
    (λ _. cond_both (nat_lt c 2048) 2 _ IsWithin
    (λ small. omega (arith, digits_length 2 c (omega (arith, ltb-true c 2048 small))))
    (λ _. cond_both (nat_lt c 65536) 3 4 IsWithin
    (λ small. omega (arith, digits_length 3 c (omega (arith, ltb-true c 65536 small))))
    (λ _. omega (arith, digits_length 5 c (omega arith)))))
  where
    IsWithin : ℕ → Type 0
    IsWithin len = length (digits 16 false c) + 4 ≤ 6 * len

-- an escaped character is at most six times as long as the character
escape_char_length : (c : ℕ) → IsScalar c → length (escape_char c) ≤ 6 * len_utf8 c
escape_char_length c scalar =
    let fits : c < 1114112 = omega (arith, scalar_cases c scalar) in
    cond_both (is_control c || is_unseen c) _ _ (λ text. length text ≤ 6 * len_utf8 c)
    (λ _. omega (
      arith,
      code_length c fits,
      length-append (codes "\\u{" ++ digits 16 false c) (codes "}"),
      length-append (codes "\\u{") (digits 16 false c),
    ))
    (λ _. omega (arith, length-encode c, len_utf8_bounds c))

-- escaped characters are at most six times as long as the characters
chars_length : (cs : List ℕ) → all_scalars cs ≡ true
    → length (flat_map escape_char cs) ≤ 6 * length (encode_utf8_all cs)
chars_length [] scalars = omega arith
chars_length (c ∷ cs) scalars =
    let both : IsScalar c × (all_scalars cs ≡ true) = and_parts _ _ scalars in
    omega (
      arith,
      escape_char_length c both.0,
      chars_length cs both.1,
      length-encode c,
      length-append (escape_char c) (flat_map escape_char cs),
      length-append (encode_utf8 c) (encode_utf8_all cs),
    )

-- an escaped byte has at most four bytes
escape_byte_length : (byte : ℕ) → byte < 256 → length (escape_byte byte) ≤ 4
escape_byte_length byte small = cond_both (nat_le 32 byte && nat_lt byte 127) _ _ (λ text. length text ≤ 4)
    (λ _. omega arith)
    (λ _. omega (
      arith,
      digits_length 0 (byte / 16) (omega arith),
      digits_length 0 (byte % 16) (omega arith),
      length-append (codes "\\x" ++ digits 16 false (byte / 16)) (digits 16 false (byte % 16)),
      length-append (codes "\\x") (digits 16 false (byte / 16)),
    ))

-- bytes that are escaped one by one are at most six times as many
bytes_length : (bytes : List ℕ) → ((k : ℕ) → get_or bytes k 0 < 256)
    → length (flat_map escape_byte bytes) ≤ 6 * length bytes
bytes_length [] small = omega arith
bytes_length (byte ∷ bytes) small =
    omega (
      arith,
      escape_byte_length byte (small 0),
      bytes_length bytes (λ k. small (suc k)),
      length-append (escape_byte byte) (flat_map escape_byte bytes),
    )

-- escaped bytes are at most six times as many
escape_length : (bytes : List ℕ) → ((k : ℕ) → get_or bytes k 0 < 256) → length (escape bytes) ≤ 6 * length bytes
escape_length bytes small = cond_both (is_utf8 bytes) _ _ (λ text. length text ≤ 6 * length bytes)
    (λ yes. let text = IsUtf8-from_is_utf8 bytes yes in
    omega (arith, chars_length (chars bytes) (scalars-chars bytes text), ap length (encodes-chars bytes text)))
    (λ _. bytes_length bytes small)

-- the first of some bytes are bytes
take_small : (n : ℕ) (bytes : List ℕ) → ((k : ℕ) → get_or bytes k 0 < 256) → (k : ℕ) → get_or (take n bytes) k 0 < 256
take_small zero bytes small k = omega arith
take_small (suc n) [] small k = omega arith
take_small (suc n) (byte ∷ bytes) small zero = small 0
take_small (suc n) (byte ∷ bytes) small (suc k) = take_small n bytes (λ k. small (suc k)) k

-- the first bytes of a text, escaped, are at most six times as many
pub escape_take_length : (n : ℕ) (bytes : List ℕ) → n ≤ length bytes → ((k : ℕ) → get_or bytes k 0 < 256)
    → length (escape (take n bytes)) ≤ 6 * n
escape_take_length n bytes fits small =
    omega (arith, escape_length (take n bytes) (take_small n bytes small), length-take-le n bytes fits)

-- an ASCII character is UTF-8
one_ascii : (c : ℕ) → c < 128 → IsUtf8 (c ∷ [])
one_ascii c small = subst IsUtf8 (encode_ascii c small) (IsUtf8-encode c (low_scalar c (omega arith)))

-- an escaped character is UTF-8
escape_char_utf8 : (c : ℕ) → IsScalar c → IsUtf8 (escape_char c)
unfolding encode_utf8
escape_char_utf8 c scalar = cond_both (is_control c || is_unseen c) _ _ IsUtf8
    (λ _. IsUtf8-append _ _ (IsUtf8-append _ _ (codes "\\u{", (refl, refl))
    (digits-IsUtf8 16 false c (omega arith) (omega arith))) (codes "}", (refl, refl)))
    (λ _. IsUtf8-encode c scalar)

-- an escaped byte is UTF-8
escape_byte_utf8 : (byte : ℕ) → IsUtf8 (escape_byte byte)
unfolding encode_utf8
escape_byte_utf8 byte = cond_both (nat_le 32 byte && nat_lt byte 127) _ _ IsUtf8
    (λ seen. one_ascii byte (omega (arith, ltb-true byte 127 (and_parts _ _ seen).1)))
    (λ _. IsUtf8-append _ _ (IsUtf8-append _ _ (codes "\\x", (refl, refl))
    (digits-IsUtf8 16 false (byte / 16) (omega arith) (omega arith)))
    (digits-IsUtf8 16 false (byte % 16) (omega arith) (omega arith)))

-- escaped characters are UTF-8
chars_utf8 : (cs : List ℕ) → all_scalars cs ≡ true → IsUtf8 (flat_map escape_char cs)
chars_utf8 [] scalars = IsUtf8-nil
chars_utf8 (c ∷ cs) scalars =
    let both : IsScalar c × (all_scalars cs ≡ true) = and_parts _ _ scalars in
    IsUtf8-append (escape_char c) _ (escape_char_utf8 c both.0) (chars_utf8 cs both.1)

-- bytes that are escaped one by one are UTF-8
bytes_utf8 : (bytes : List ℕ) → IsUtf8 (flat_map escape_byte bytes)
bytes_utf8 [] = IsUtf8-nil
bytes_utf8 (byte ∷ bytes) = IsUtf8-append (escape_byte byte) _ (escape_byte_utf8 byte) (bytes_utf8 bytes)

-- escaped bytes are UTF-8
escape_utf8 : (bytes : List ℕ) → IsUtf8 (escape bytes)
escape_utf8 bytes = cond_both (is_utf8 bytes) _ _ IsUtf8
    (λ yes. chars_utf8 (chars bytes) (scalars-chars bytes (IsUtf8-from_is_utf8 bytes yes)))
    (λ _. bytes_utf8 bytes)

-- a text as messages quote it is UTF-8
pub quote_utf8 : (text : List ℕ) → IsUtf8 (quote text)
unfolding encode_utf8
quote_utf8 text =
    let len = quoted_len text in
    IsUtf8-append (escape (take len text)) _ (escape_utf8 (take len text))
    (cond_both (nat_lt len (length text)) _ _ IsUtf8 (λ _. (codes "..", (refl, refl))) (λ _. IsUtf8-nil))
