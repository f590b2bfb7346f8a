-- Offsets that ascend.
use Rattle.std.proofs.Common.{◌≡◌, ℕ, zero, suc, ◌+◌, ◌<◌, ◌≤◌, true, false, ℤ, pos, negsuc, ◌≤ℤ◌, List, [], ◌∷◌, length, get_or, drop}
use Rattle.std.proofs.Common.{arith, IsTrue, leb, sym, subst, refl, add-one, ◌↔◌, ◌∙◌, SFits, w64, to_z, of_z}
use Rattle.std.proofs.lemmas.Int.{to_z-of_z}
use Rattle.std.proofs.lemmas.Int.{ints}
use Rattle.std.proofs.lemmas.Bool.Decides.{nat_tests}
use Rattle.std.proofs.Math.IntN.{nat_abs}
use Rattle.std.specs.Int.Signed.{lt_z}
use Rattle.std.proofs.Math.Seq.{drop-cons}
use Rattle.std.proofs.Math.ListN.{drop_of_length-le}
use Rattle.byte_unit_c.specs.Many.{Ascends, position}

-- the order of integers is transitive
pub through : (a b c : ℤ) → a ≤ℤ b → b ≤ℤ c → a ≤ℤ c
through a b c p q = omega (arith, ints)

-- the low end is not above the high end
pub ends : (low high : ℤ) (xs : List ℤ) → Ascends low high xs → low ≤ℤ high
ends low high [] a = a
ends low high (x ∷ xs) a = through low x high a.0 (ends x high xs a.1)

-- each offset is between the ends
pub between : (low high : ℤ) (xs : List ℤ) (i : ℕ) → Ascends low high xs → i < length xs
    → (low ≤ℤ get_or xs i (pos 0)) × (get_or xs i (pos 0) ≤ℤ high)
between low high [] i a within = absurd (omega arith)
between low high (x ∷ xs) zero a within = (a.0, ends x high xs a.1)
between low high (x ∷ xs) (suc i) a within =
    let rest = between x high xs i a.1 (omega arith) in
    (through low x (get_or xs i (pos 0)) a.0 rest.0, rest.1)

-- an offset as it is read, from its 64 bits
pub as_read : (z offset : ℤ) → SFits w64 z → z ≡ offset → to_z w64 (of_z w64 z) ≡ offset
as_read z offset fits is = to_z-of_z w64 z fits ∙ is

-- an offset is a position
pub is_position : (z high : ℤ) (xs : List ℤ) (i : ℕ) → SFits w64 z → z ≡ get_or xs i (pos 0) → Ascends (pos 0) high xs
    → i < length xs → pos 0 ≤ℤ to_z w64 (of_z w64 z)
is_position z high xs i fits is a within =
    let F : ℤ → Type 0 = λ offset. pos 0 ≤ℤ offset in
    subst F (sym (as_read z (get_or xs i (pos 0)) fits is)) (between (pos 0) high xs i a within).0

-- no offset is below the one before it
rises_suc : (low high : ℤ) (xs : List ℤ) (i : ℕ) → Ascends low high xs → suc i < length xs
    → get_or xs i (pos 0) ≤ℤ get_or xs (suc i) (pos 0)
rises_suc low high [] i a within = absurd (omega arith)
rises_suc low high (x ∷ xs) zero a within = (between x high xs 0 a.1 (omega arith)).0
rises_suc low high (x ∷ xs) (suc i) a within = rises_suc x high xs i a.1 (omega arith)

-- no offset is below the one before it, with the index of the next offset as `i + 1`
pub rises : (low high : ℤ) (xs : List ℤ) (i : ℕ) → Ascends low high xs → i + 1 < length xs
    → get_or xs i (pos 0) ≤ℤ get_or xs (i + 1) (pos 0)
rises low high xs i a within =
    let F : ℕ → Type 0 = λ j. get_or xs i (pos 0) ≤ℤ get_or xs j (pos 0) in
    subst F (sym (add-one i)) (rises_suc low high xs i a (omega arith))

-- the offsets from i on are the offset i and those after it
split : (xs : List ℤ) (i : ℕ) (offset : ℤ) → i < length xs → offset ≡ get_or xs i (pos 0)
    → drop i xs ≡ offset ∷ drop (i + 1) xs
split xs i offset within is = rw is (rw (add-one, drop-cons xs i (pos 0)) refl)

-- what is left to ascend, after one more offset
pub next : (P : Type 0) (low high offset : ℤ) (xs : List ℤ) (i : ℕ) → i < length xs → offset ≡ get_or xs i (pos 0)
    → low ≤ℤ offset → P ↔ Ascends low high (drop i xs) → P ↔ Ascends offset high (drop (i + 1) xs)
next P low high offset xs i within is above same =
    let F : List ℤ → Type 0 = λ ys. Ascends low high ys in
    let e = split xs i offset within is in
    ((λ p. (subst F e (same.0 p)).1), (λ a. same.1 (subst F (sym e) (above, a))))

-- an offset below the low end does not ascend
pub falls : (low high offset : ℤ) (xs : List ℤ) (i : ℕ) → i < length xs → offset ≡ get_or xs i (pos 0)
    → Ascends low high (drop i xs) → low ≤ℤ offset
falls low high offset xs i within is a =
    let F : List ℤ → Type 0 = λ ys. Ascends low high ys in
    (subst F (split xs i offset within is) a).0

-- after the last offset, the low end has to be within the high end
pub last : (P : Type 0) (low high : ℤ) (xs : List ℤ) (i : ℕ) → length xs ≤ i → P ↔ Ascends low high (drop i xs)
    → P ↔ (low ≤ℤ high)
last P low high xs i past same =
    let F : List ℤ → Type 0 = λ ys. Ascends low high ys in
    let e = drop_of_length-le xs past in
    ((λ p. subst F e (same.0 p)), (λ h. same.1 (subst F (sym e) h)))

-- positions keep the order of the offsets
pub positions : (a b : ℤ) → a ≤ℤ b → position a ≤ position b
positions (pos m) (pos n) h = omega (arith, ints)
positions (pos m) (negsuc n) h = absurd (omega (arith, ints))
positions (negsuc m) b h = omega arith

-- if the test that `a` is below `b` fails, `b` is at most `a`
pub not_below : (a b : ℤ) → lt_z a b ≡ false → b ≤ℤ a
not_below a b e = grind (arith, ints)

-- if the test that `a` is below `b` passes, `b` is not at most `a`
pub not_both : (a b : ℤ) → lt_z a b ≡ true → b ≤ℤ a → ⊥
not_both a b e h = grind (arith, ints)

-- a number that is 0 or more passes the test of the code for at most `n` if and only if it is at most `n`
pub is_at_most : (z : ℤ) (n : ℕ) → pos 0 ≤ℤ z → IsTrue (leb (nat_abs z) n) ↔ (z ≤ℤ pos n)
is_at_most (pos m) n h = ((λ t. grind (arith, nat_tests, ints)), (λ l. grind (arith, nat_tests, ints)))
is_at_most (negsuc m) n h = absurd (omega (arith, ints))
