-- The units of a unit set from the largest to the smallest, and the search for the largest that has a property.
use Rattle.std.proofs.Common.{◌≡◌, ℕ, ◌+◌, ◌*◌, ◌<◌, ◌≤◌, ◌⊎◌, ⊎_elim, inl, inr, zero, suc, Bool, true, false, List, []}
use Rattle.std.proofs.Common.{◌∷◌, ◌++◌, length, drop, get_or, ◌&&◌, leb, arith, sym, ap, ◌∙◌, refl, rules, ◌/◌}
use Rattle.std.specs.List.{AllByRecursion}
use Rattle.std.proofs.lemmas.List.{drop_at, drop-drop}
use Rattle.std.proofs.lemmas.Bool.{and_parts, cases_lt, agree_below, agree_below_at}
use Rattle.std.proofs.lemmas.Bool.Decides.{nat_tests}
use Rattle.byte_unit_math.specs.Bounds.{unit_limit}
use Rattle.byte_unit_base.specs.Grammar.Shape.{Shape, shape, bits}
use Rattle.byte_unit_base.specs.Grammar.Version.{current}
use Rattle.byte_unit_choice.specs.Family.{HasKind, InFamily}
use Rattle.byte_unit_choice.specs.Multiples.{units_of_prefix, units_of_prefixes, prefix_count}
use Rattle.byte_unit_choice.specs.declared.choice.Family.{Family}
use Rattle.byte_unit_choice.specs.declared.choice.Family.TheVariants.{All}

-- the unit is one of these
abbrev pub IsIn : Shape → List Shape → Type 0
IsIn unit [] = ⊥
IsIn unit (x ∷ xs) = (x ≡ unit) ⊎ IsIn unit xs

-- no unit is larger than the bound or than the unit before it
abbrev pub falls : ℕ → List Shape → Bool
falls bound [] = true
falls bound (x ∷ xs) = leb (bits x) bound && falls (bits x) xs

-- each unit that has the property is one of these
abbrev pub Remain : (Shape → Type 0) → List Shape → Type 0
Remain Has units = (unit : Shape) → Has unit → IsIn unit units

-- a unit of the first list is in both lists put together
IsIn-left : (xs ys : List Shape) (unit : Shape) → IsIn unit xs → IsIn unit (xs ++ ys)
IsIn-left [] ys unit h = absurd h
IsIn-left (x ∷ xs) ys unit h = ⊎_elim inl (λ k. inr (IsIn-left xs ys unit k)) h

-- a unit of the second list is in both lists put together
IsIn-right : (xs ys : List Shape) (unit : Shape) → IsIn unit ys → IsIn unit (xs ++ ys)
IsIn-right [] ys unit h = h
IsIn-right (x ∷ xs) ys unit h = inr (IsIn-right xs ys unit h)

-- each unit of a prefix whose kind is in the unit set is in the list of the units of this prefix
in_prefix : (family : Family) (power : ℕ) (binary bit : Bool) → HasKind family bit
    → IsIn (shape power binary bit) (units_of_prefix family power)
in_prefix All power true false k = grind arith
in_prefix _ power binary bit k = grind arith

-- a unit of the set with one of the first n prefix letters is in their list
pub in_falling : (family : Family) (n : ℕ) (unit : Shape) → HasKind family unit.bit → 1 ≤ unit.power → unit.power ≤ n
    → IsIn unit (units_of_prefixes family n)
in_falling family zero unit kind some known = absurd (omega (arith, some, known))
in_falling family (suc n) unit kind some known =
    let here = units_of_prefix family (suc n) in
    let later = units_of_prefixes family n in
    ⊎_elim
    (λ below. IsIn-right here later unit (in_falling family n unit kind some (omega (arith, below))))
    (λ above.
    let same : unit.power ≡ suc n = omega (arith, above, known) in
    IsIn-left here later unit (rw (← same) (in_prefix family unit.power unit.binary unit.bit kind)))
    (cases_lt unit.power (suc n))

-- the units in the list of the first n prefix letters are units of the set
pub all_in_family : (family : Family) (n : ℕ) → n ≤ prefix_count
    → AllByRecursion (InFamily current family) (units_of_prefixes family n)
all_in_family family zero few = tt
all_in_family All (suc n) few = let rest = all_in_family All n (omega arith) in search rules
all_in_family family (suc n) few = let rest = all_in_family family n (omega arith) in search rules

-- no unit of a falling list is larger than the bound
pub le_of_falls : (xs : List Shape) (bound : ℕ) (unit : Shape) → falls bound xs ≡ true → IsIn unit xs
    → bits unit ≤ bound
le_of_falls [] bound unit h i = absurd i
le_of_falls (x ∷ xs) bound unit h i = grind (arith, nat_tests, le_of_falls xs (bits x) unit)

-- the units after any index of a falling list fall from the unit at the index
pub falls_after : (xs : List Shape) (bound i : ℕ) (d : Shape) → falls bound xs ≡ true → i < length xs
    → falls (bits (get_or xs i d)) (drop (suc i) xs) ≡ true
falls_after [] bound i d h within = absurd (omega (arith, within))
falls_after (x ∷ xs) bound zero d h within = (and_parts _ _ h).1
falls_after (x ∷ xs) bound (suc i) d h within = falls_after xs (bits x) i d (and_parts _ _ h).1 (omega (arith, within))

-- the units of the first n prefix letters fall, for each n up to the number of prefixes: evaluated one by one
known_lists_fall : (family : Family)
    → agree_below (λ n. falls unit_limit (units_of_prefixes family n)) (λ n. true) (prefix_count + 1) ≡ true
known_lists_fall All = refl
known_lists_fall _ = refl

-- the lists of the units of the current version fall
pub current_falls : (family : Family) (n : ℕ) → n ≤ prefix_count → falls unit_limit (units_of_prefixes family n) ≡ true
current_falls family n few =
    agree_below_at (λ k. falls unit_limit (units_of_prefixes family k)) (λ k. true) (prefix_count + 1) n
    (known_lists_fall family) (omega (arith, few))

-- the number of units of a unit set that have the same prefix letter
abbrev pub units_per_prefix : Family → ℕ
units_per_prefix family = length (units_of_prefixes family prefix_count) / prefix_count

-- each prefix letter has the same number of units in a unit set
length_of_prefix : (family : Family) (power : ℕ) → length (units_of_prefix family power) ≡ units_per_prefix family
length_of_prefix All power = omega arith
length_of_prefix _ power = omega arith

-- without the units of its last prefix letters, the list of units is that of the other letters
pub drop_prefixes : (family : Family) (dropped n : ℕ)
    → drop (units_per_prefix family * dropped) (units_of_prefixes family (dropped + n)) ≡ units_of_prefixes family n
drop_prefixes family zero n = grind arith
drop_prefixes family (suc d) n =
    let here = units_of_prefix family (suc (d + n)) in
    let later = units_of_prefixes family (d + n) in
    let each = units_per_prefix family in
    let sum : suc d + n ≡ suc (d + n) = omega arith in
    let count : each * suc d ≡ each + each * d = omega arith in
    ap (λ m. drop (each * suc d) (units_of_prefixes family m)) sum
    ∙ (ap (λ m. drop m (here ++ later)) count ∙ (sym (drop-drop (each * d) each (here ++ later))
    ∙ (ap (drop (each * d)) (drop_at here later each (length_of_prefix family (suc (d + n))))
    ∙ drop_prefixes family d n)))
