-- Lemmas: the fields between blanks.
use Rattle.std.proofs.Common.{◌≡◌, ℕ, zero, suc, ◌<◌, Bool, true, false, not, ◌&&◌, cond, List, [], ◌∷◌, take, drop, get_or}
use Rattle.std.proofs.Common.{length, refl, ap, ◌∙◌, arith}
use Rattle.std.proofs.Math.Bool.{and-false}
use Rattle.std.specs.List.{onto_first}
use Rattle.byte_unit_command.specs.Fields.{begins_blank, blank_fields, is_blank}

-- whether a field ends after the byte at this index: it is no blank, and the next one, which is 0 at the end, is one
abbrev pub ends_there : List ℕ → ℕ → Bool
ends_there bytes index = not (is_blank (get_or bytes index 0)) && is_blank (get_or bytes (suc index) 0)

-- whether there is a blank at the beginning, by the first byte
first_blank : (bytes : List ℕ) → begins_blank bytes ≡ is_blank (get_or bytes 0 0)
first_blank [] = refl
first_blank (byte ∷ bytes) = refl

-- the fields with one more byte before them: it is a field alone if one ends after it, and else begins the first one
with_byte : (byte : ℕ) (bytes : List ℕ) (ends : Bool) → ends_there (byte ∷ bytes) 0 ≡ ends
    → blank_fields (byte ∷ bytes)
    ≡ cond ends ((byte ∷ []) ∷ blank_fields bytes) (onto_first byte (blank_fields bytes))
with_byte byte bytes ends is =
    ap (λ ends. cond ends ((byte ∷ []) ∷ blank_fields bytes) (onto_first byte (blank_fields bytes)))
    (ap (λ next. not (is_blank byte) && next) (first_blank bytes) ∙ is)

-- if the first field ends after this byte, the other fields are those of the bytes after it
pub blank_fields-cut : (bytes : List ℕ) (index : ℕ) → index < length bytes
    → ((k : ℕ) → k < index → ends_there bytes k ≡ false) → ends_there bytes index ≡ true
    → blank_fields bytes ≡ take (suc index) bytes ∷ blank_fields (drop (suc index) bytes)
blank_fields-cut [] index fits goes_on ends = absurd (omega (arith, fits))
blank_fields-cut (byte ∷ bytes) zero fits goes_on ends = with_byte byte bytes true ends
blank_fields-cut (byte ∷ bytes) (suc index) fits goes_on ends =
    with_byte byte bytes false (goes_on 0 (omega arith))
    ∙ ap (onto_first byte) (blank_fields-cut bytes index (omega (arith, fits))
    (λ k low. goes_on (suc k) (omega (arith, low))) ends)

-- if no field ends before the last byte, the bytes are one field
pub blank_fields-whole : (bytes : List ℕ) → ((k : ℕ) → suc k < length bytes → ends_there bytes k ≡ false)
    → blank_fields bytes ≡ bytes ∷ []
blank_fields-whole [] goes_on = refl
blank_fields-whole (byte ∷ []) goes_on = with_byte byte [] false (and-false (not (is_blank byte)))
blank_fields-whole (byte ∷ next ∷ bytes) goes_on =
    with_byte byte (next ∷ bytes) false (goes_on 0 (omega arith))
    ∙ ap (onto_first byte) (blank_fields-whole (next ∷ bytes) (λ k low. goes_on (suc k) (omega (arith, low))))
