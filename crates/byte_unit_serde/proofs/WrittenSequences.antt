-- Lemmas on sequences that are written.
use Rattle.std.proofs.Common.{arith, ◌≡◌, ℕ, suc, ◌+◌, ◌<◌, ◌≤◌, List, ◌∷◌, length, drop, get_or, Result, sym, ◌∙◌, ap, subst}
use Rattle.std.proofs.Math.Seq.{drop-cons}
use Rattle.std.proofs.Math.ListN.{drop_of_length-le}
use Rattle.byte_unit_serde.specs.Returns.{Returns, WritingEach}

-- Whatever is returned for the rest of the values is returned for all of them.
abbrev pub Continues :
    {S E A : Type 0} → (A → Returns S Unit E) → Returns S Unit E → List A → List A → S → S → Type 0
Continues {S} {E} Writing end_returns values rest first last =
    (result : Result Unit E) (new : S) → WritingEach Writing end_returns rest last result new
    → WritingEach Writing end_returns values first result new

-- What ends the sequence is returned after all values.
pub continues_end :
    {S E A : Type 0} (Writing : A → Returns S Unit E) (end_returns : Returns S Unit E) (values : List A) (index : ℕ)
    (first last new : S) (result : Result Unit E)
    → Continues Writing end_returns values (drop index values) first last → length values ≤ index
    → end_returns last result new → WritingEach Writing end_returns values first result new
continues_end Writing end_returns values index first last new result before all ends =
    subst (λ rest. Continues Writing end_returns values rest first last) (drop_of_length-le values all) before result
    new ends

-- The values from an index on are the value at the index and the others after it.
pub drop_value : {A : Type 0} (values : List A) (index : ℕ) (value : A) → index < length values
    → value ≡ get_or values index value → drop index values ≡ value ∷ drop (index + 1) values
drop_value values index value below is =
    let next : suc index ≡ index + 1 = omega arith in
    drop-cons values index value below ∙ ap (λ from. get_or values index value ∷ drop from values) next
    ∙ ap (λ other. other ∷ drop (index + 1) values) (sym is)
