-- The first character of the rest of an input, and the characters that end a number.
use Rattle.std.proofs.Common.{◌≡◌, ℕ, ◌*◌, false, eqb, ⊎_elim, List, [], ◌∷◌, ◌++◌, length, refl, sym, ap, subst, ◌∙◌}
use Rattle.std.proofs.Common.{arith, take, drop, ◌≤◌, take-append-drop, chars, encode_utf8_all, IsUtf8, IsAscii}
use Rattle.std.proofs.Common.{IsCharBoundary}
use Rattle.std.specs.Float.Numeral.{digits_len}
use Rattle.std.proofs.lemmas.Bool.{cases_lt}
use Rattle.std.proofs.lemmas.Bool.Decides.{nat_tests}
use Rattle.std.proofs.lemmas.Str.{encodes-chars, byte_from_char, length-le-encodes, chars-append, chars-IsAscii}
use Rattle.std.proofs.lemmas.Str.{IsUtf8-from_ascii, IsUtf8-drop, IsCharBoundary-from_take}
use Rattle.byte_unit_math.specs.Bounds.{scale}
use Rattle.byte_unit_base.specs.Errors.ViablePrefix.{in_fraction}
use Rattle.byte_unit_base.specs.Reading.Machines.{SizeScan, Whole, Fraction, Gap, is_digit, size_step}
use Rattle.byte_unit_base.specs.Reading.Machines.{size_parser_state, after_number}
use Rattle.byte_unit_base.specs.Reading.Ends.{IsFirst, EndsNumber, IsStopAt}
use Rattle.byte_unit_base.specs.Grammar.Spelling.{Flags}
use Rattle.byte_unit_base.specs.declared.stop.Reason.{Reason}
use Rattle.byte_unit_base.proofs.SizeRuns.{AtNumber}

-- the first character of bytes that are UTF-8

-- what holds of the first byte, and of each character past ASCII, holds of the first character that is encoded
first_of : (Has : ℕ → Type 0) → ((c : ℕ) → 128 ≤ c → Has c) → (bytes text : List ℕ) → bytes ≡ encode_utf8_all text
    → IsFirst Has bytes → IsFirst Has text
first_of Has wide bytes [] e first = tt
first_of Has wide [] (c ∷ cs) e first = absurd (omega (arith, ap length e, length-le-encodes (c ∷ cs)))
first_of Has wide (b ∷ bs) (c ∷ cs) e first =
    ⊎_elim (λ small. subst Has (byte_from_char (b ∷ bs) (encode_utf8_all cs) c e small) first) (λ large. wide c large)
    (cases_lt c 128)

-- what holds of the first byte, and of each character past ASCII, holds of the first character
pub first_char : (Has : ℕ → Type 0) → ((c : ℕ) → 128 ≤ c → Has c) → (bytes : List ℕ) → IsUtf8 bytes
    → IsFirst Has bytes → IsFirst Has (chars bytes)
first_char Has wide bytes utf8 first = first_of Has wide bytes (chars bytes) (sym (encodes-chars bytes utf8)) first

-- the first bytes of a text, and the rest of it

-- the characters of the bytes are the first bytes, if these are ASCII, and the characters of the rest
pub text_from : (bytes : List ℕ) (end : ℕ) → IsAscii (take end bytes) → chars bytes ≡ take end bytes ++ chars (drop end bytes)
text_from bytes end ascii = ap chars (sym (take-append-drop end bytes))
    ∙ (chars-append (take end bytes) (drop end bytes) (IsUtf8-from_ascii (take end bytes) ascii)
    ∙ ap (λ front. front ++ chars (drop end bytes)) (chars-IsAscii (take end bytes) ascii))

-- a character ends where the first bytes, if these are ASCII, end
pub boundary_at : (bytes : List ℕ) (end : ℕ) → IsUtf8 bytes → end ≤ length bytes → IsAscii (take end bytes)
    → IsCharBoundary bytes end
boundary_at bytes end utf8 within ascii =
    IsCharBoundary-from_take bytes end utf8 within (IsUtf8-from_ascii (take end bytes) ascii)

-- where the parser stops in the bytes of a string, one of its characters ends
pub boundary_of_stop : {flags : Flags} {bytes text : List ℕ} {index : ℕ} {reason : Reason} → bytes ≡ text
    → IsUtf8 bytes → IsStopAt flags bytes index reason → IsCharBoundary text index
boundary_of_stop {bytes = bytes} {index = index} same utf8 stop =
    subst (λ text. IsCharBoundary text index) same (boundary_at bytes index utf8 stop.within stop.ascii)

-- what follows ASCII bytes in UTF-8 is UTF-8
pub utf8_from : (bytes : List ℕ) (end : ℕ) → IsUtf8 bytes → end ≤ length bytes → IsAscii (take end bytes)
    → IsUtf8 (drop end bytes)
utf8_from bytes end utf8 within ascii = IsUtf8-drop bytes end utf8 (boundary_at bytes end utf8 within ascii)

-- digits

-- the character is no decimal digit
abbrev pub IsNoDigit : ℕ → Type 0
IsNoDigit c = is_digit c ≡ false

-- no character past ASCII is a decimal digit
pub wide_no_digit : (c : ℕ) → 128 ≤ c → IsNoDigit c
wide_no_digit c wide = grind (arith, nat_tests)

-- if the bytes do not start with a digit, their first character, if there is one, is no digit
pub no_digit_first : (bytes : List ℕ) → digits_len bytes ≡ 0 → IsFirst IsNoDigit bytes
no_digit_first [] e = tt
no_digit_first (b ∷ bs) e = grind (arith, nat_tests, e)

-- a number that ends

-- a character that is no digit and no point ends a whole part
pub ends_whole : (w n c : ℕ) → w * scale ≡ n → IsNoDigit c → eqb c 46 ≡ false → EndsNumber (Whole w) n c
unfolding size_step
ends_whole w n c at none other =
    record { step_is = rw (none, other) (ap (λ n. after_number n c) at); fault_is = λ flags. rw none refl }

-- a character that is no digit ends a fraction
pub ends_fraction : (s : SizeScan) (n c : ℕ) → AtNumber n s → size_parser_state s ≡ in_fraction → IsNoDigit c
    → EndsNumber s n c
unfolding size_step
ends_fraction (Fraction w f j) n c at index none =
    record { step_is = rw none (ap (λ n. after_number n c) at); fault_is = λ flags. rw none refl }
ends_fraction _ n c at index none = grind (arith, at, index)

-- after spaces, the next character, if there is one, goes on as after the number
pub ends_gap : (n : ℕ) (text : List ℕ) → IsFirst (EndsNumber (Gap n) n) text
unfolding size_step
ends_gap n [] = tt
ends_gap n (c ∷ cs) = record { step_is = refl; fault_is = λ flags. refl }
