-- Trimming: the characters of a trimmed string, and texts that it does not change.
use Rattle.std.proofs.Common.{◌≡◌, ℕ, ◌+◌, ◌-◌, ◌<◌, List, [], ◌∷◌, ◌++◌, length, take, get_or, refl, sym, ap, ◌∙◌}
use Rattle.std.proofs.Common.{arith, true, false, ◌&&◌, nat_eq}
use Rattle.std.specs.Str.{chars, trim, trim_start, trim_end, skip_leading_whitespace, drop_trailing_whitespace, IsUtf8}
use Rattle.std.specs.Str.{IsAscii, all_scalars, encode_utf8_all}
use Rattle.std.specs.Char.{is_whitespace, is_ascii_graphic}
use Rattle.std.proofs.lemmas.Bool.{and_from, and_parts, and_right, cond_both}
use Rattle.std.proofs.lemmas.Bool.Decides.{nat_tests}
use Rattle.std.proofs.lemmas.List.{take_more, take_all, length-append}
use Rattle.std.proofs.lemmas.Str.{chars-encodes, encodes-chars, scalars-chars, chars-IsAscii, chars-append, IsUtf8-from_ascii}
use Rattle.std.proofs.lemmas.Str.{IsCharBoundary-before_ascii, IsUtf8-take}
use Rattle.std.proofs.lemmas.Str.Ascii.{IsAscii-nil, IsAscii-cons}
use Rattle.byte_unit_base.specs.Errors.Position.{leading_white}
use Rattle.byte_unit_base.specs.Grammar.SizeText.{trim_of}
use Rattle.byte_unit_base.specs.Reading.Ends.{HasVisibleEnds}

-- without leading white space, characters still are Unicode scalar values
scalars_skip : (cs : List ℕ) → all_scalars cs ≡ true → all_scalars (skip_leading_whitespace cs) ≡ true
scalars_skip [] e = refl
scalars_skip (c ∷ cs) e =
    let rest = scalars_skip cs (and_parts _ _ e).1 in
    cond_both (is_whitespace c) _ _ (λ kept. all_scalars kept ≡ true) (λ _. rest) (λ _. e)

-- without trailing white space, characters still are Unicode scalar values
scalars_drop : (cs : List ℕ) → all_scalars cs ≡ true → all_scalars (drop_trailing_whitespace cs) ≡ true
scalars_drop [] e = refl
scalars_drop (c ∷ cs) e =
    let parts = and_parts _ _ e in
    cond_both (is_whitespace c && nat_eq (length (drop_trailing_whitespace cs)) 0) _ _ (λ kept. all_scalars kept ≡ true)
    (λ _. refl) (λ _. and_from _ _ parts.0 (scalars_drop cs parts.1))

-- the characters of a string without leading white space are the characters without it
chars-trim_start : (bs : List ℕ) → IsUtf8 bs → chars (trim_start bs) ≡ skip_leading_whitespace (chars bs)
unfolding trim_start
chars-trim_start bs u =
    chars-encodes (skip_leading_whitespace (chars bs)) (scalars_skip (chars bs) (scalars-chars bs u))

-- the characters of a string that std trims are the characters without the white space at both ends
pub chars-trim : (bs : List ℕ) → IsUtf8 bs → chars (trim bs) ≡ trim_of bs
unfolding trim_end
chars-trim bs u = rw (chars-trim_start bs u) (chars-encodes _ (scalars_drop (skip_leading_whitespace (chars bs))
    (scalars_skip (chars bs) (scalars-chars bs u))))

-- a text whose last character is not white space has no white space to drop at its end
keep_last : (front : List ℕ) (last : ℕ) → is_whitespace last ≡ false
    → drop_trailing_whitespace (front ++ last ∷ []) ≡ front ++ last ∷ []
keep_last [] last is_none = rw is_none refl
keep_last (next ∷ front) last is_none =
    let count = length-append front (last ∷ []) in
    let some : nat_eq (length (front ++ last ∷ [])) 0 ≡ false = grind (arith, nat_tests, count) in
    rw (keep_last front last is_none, and_right (is_whitespace next) _ some) refl

-- visible ends

-- a visible character of ASCII is no white space
pub visible_not_white : (c : ℕ) → is_ascii_graphic c ≡ true → is_whitespace c ≡ false
visible_not_white c e = grind (arith, nat_tests)

-- a visible character is a text of ASCII
visible_ascii : (c : ℕ) → is_ascii_graphic c ≡ true → IsAscii (c ∷ [])
visible_ascii c e = IsAscii-cons c [] (grind (arith, nat_tests)) IsAscii-nil

-- no white space is skipped at the start of a string with visible ends
visible_start : (bytes : List ℕ) → HasVisibleEnds bytes → skip_leading_whitespace (chars bytes) ≡ chars bytes
visible_start [] ends = absurd (omega (arith, ends.some))
visible_start (c ∷ cs) ends =
    let first = visible_ascii c ends.start in
    let text : chars (c ∷ cs) ≡ c ∷ chars cs = chars-append (c ∷ []) cs (IsUtf8-from_ascii (c ∷ []) first)
    ∙ ap (λ front. front ++ chars cs) (chars-IsAscii (c ∷ []) first) in
    rw (text, visible_not_white c ends.start) refl

-- no white space is dropped at the end of a string with visible ends
visible_end : (bytes : List ℕ) → IsUtf8 bytes → HasVisibleEnds bytes
    → drop_trailing_whitespace (chars bytes) ≡ chars bytes
visible_end bytes utf8 ends =
    let index = length bytes - 1 in
    let inside : index < length bytes = omega (arith, ends.some) in
    let last = get_or bytes index 0 in
    let ascii = visible_ascii last ends.end in
    let small : last < 128 = grind (arith, nat_tests, ends.end) in
    let front = take index bytes in
    let utf8_front = IsUtf8-take bytes index utf8 (IsCharBoundary-before_ascii bytes index inside small) in
    let whole : bytes ≡ front ++ last ∷ [] =
    sym (take_all (index + 1) bytes (omega (arith, ends.some))) ∙ take_more bytes index 0 inside in
    let text : chars bytes ≡ chars front ++ last ∷ [] = ap chars whole
    ∙ (chars-append front (last ∷ []) utf8_front ∙ ap (λ end. chars front ++ end) (chars-IsAscii (last ∷ []) ascii)) in
    rw text (keep_last (chars front) last (visible_not_white last ends.end))

-- a string with visible characters of ASCII at both ends has nothing to trim
pub trim_visible : (bytes : List ℕ) → IsUtf8 bytes → HasVisibleEnds bytes → trim_of bytes ≡ chars bytes
trim_visible bytes utf8 ends = ap drop_trailing_whitespace (visible_start bytes ends) ∙ visible_end bytes utf8 ends

-- a string with visible characters of ASCII at both ends has no white space at its start
pub no_leading_white : (bytes : List ℕ) → IsUtf8 bytes → HasVisibleEnds bytes → leading_white bytes ≡ 0
unfolding trim_start
no_leading_white bytes utf8 ends =
    let kept : trim_start bytes ≡ bytes = ap encode_utf8_all (visible_start bytes ends) ∙ encodes-chars bytes utf8 in
    omega (arith, ap length kept)
