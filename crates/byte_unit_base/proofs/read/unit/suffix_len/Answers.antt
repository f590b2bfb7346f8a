-- The mask has a bit for each byte, set if it is not the letter of `bits` there, and set after these letters. So its
-- trailing zeros are the letters before the first other byte.
use Rattle.std.proofs.Common.{◌≡◌, ℕ, ◌+◌, ◌%◌, ◌^◌, Bool, true, false, not, cond, eqb, T, [], ◌∷◌, ◌∙◌, ap, refl, ◌/◌}
use Rattle.std.proofs.Common.{◌&&◌, map, bit_or, arith}
use Rattle.std.specs.Char.{to_ascii_lowercase}
use Rattle.std.proofs.lemmas.Simd.{trailing_mask_l, mask_l-mod}
use Rattle.core.proofs.dec2flt.DigitsLemmas.{all_below, every_below, beq_is}
use mathlib.Core.Bool.{beq}
use lib.Count.{count_trailing_zeros}
use lib.Lanes.{mask_l, top}
use Rattle.byte_unit_base.proofs.read.unit.suffix_len.Goals as goal

-- with this bit a byte is a letter if it is the letter in either case, and is not 0
lower_is : (l : ℕ) → let is_letter = λ (c : ℕ). not (eqb l 0) && eqb (to_ascii_lowercase c) l in
    T (all_below (λ c. beq (eqb (bit_or c 32) l) (is_letter c)) 256)
    → (c : ℕ) → eqb (bit_or (c % 256) 32) l ≡ is_letter (c % 256)
lower_is l all c =
    let is_letter = λ (c : ℕ). not (eqb l 0) && eqb (to_ascii_lowercase c) l in
    beq_is _ _ (every_below (λ c. beq (eqb (bit_or c 32) l) (is_letter c)) 256 all (c % 256) (omega arith))

-- a lane is set if the byte in it is not the letter
not_set : (b : Bool) → not (top 7 (cond (not b) 255 0)) ≡ b
not_set true = refl
not_set false = refl

-- the trailing zeros of a mask are the lanes before the first that is set
zeros_are : (p q r s x y z : Bool)
    → let lanes = map (λ b. top 7 (cond (not b) 255 0)) (p ∷ q ∷ r ∷ s ∷ false ∷ x ∷ y ∷ z ∷ []) in
    count_trailing_zeros 64 (mask_l lanes % 2 ^ 64) ≡ cond p (1 + cond q (1 + cond r (1 + cond s 1 0) 0) 0) 0
zeros_are p q r s x y z =
    let lanes = map (λ b. top 7 (cond (not b) 255 0)) (p ∷ q ∷ r ∷ s ∷ false ∷ x ∷ y ∷ z ∷ []) in
    ap (count_trailing_zeros 64) (mask_l-mod lanes 64 (omega arith))
    ∙ (trailing_mask_l (λ b. b) 64 lanes (omega arith) (omega arith)
    ∙ (λ i. cond (not_set p i) (1 + cond (not_set q i) (1 + cond (not_set r i) (1 + cond (not_set s i) 1 0) 0) 0) 0))

-- the letters are b (98), i (105), t (116) and s (115), and the fifth byte is compared with 0, which is no letter
pub returns-clause-letters : goal.returns-clause-letters
returns-clause-letters c =
    let w = c.args.word in
    let same : w + 0 ≡ w = omega arith in
    rw (same, lower_is 98 tt w, lower_is 105 tt (w / 256), lower_is 116 tt (w / 256 / 256))
    (rw (lower_is 115 tt (w / 256 / 256 / 256), lower_is 0 tt (w / 256 / 256 / 256 / 256)) (zeros_are _ _ _ _ _ _ _))

-- there are at most four letters
pub returns-clause-bound : goal.returns-clause-bound
returns-clause-bound c = grind (arith, returns-clause-letters c)
