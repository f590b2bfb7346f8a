-- Ranges of fields, and which fields are in them.
use Rattle.std.specs.Prelude.{ℕ, ◌+◌, ◌<◌, ◌≤◌, ◌⊎◌, ◌↔◌, ⊤, List, [], ◌∷◌, ◌++◌, MatchOption}
use Rattle.std.specs.List.{All}
use Rattle.byte_unit_command.specs.declared.options.FieldRange.{FieldRange}

-- the number of a field, counted from 1, is in this range; a range without a last field goes to the end of the record
abbrev pub InRange : FieldRange → ℕ → Type 0
InRange range number = (range.first ≤ number) × MatchOption range.last ⊤ (λ last. number ≤ last)

-- the field with this number is converted: it is in one of the ranges
abbrev pub IsChosenField : List FieldRange → ℕ → Type 0
IsChosenField [] number = ⊥
IsChosenField (range ∷ ranges) number = InRange range number ⊎ IsChosenField ranges number

-- the same fields are in these ranges as in the others
abbrev pub ChooseSame : List FieldRange → List FieldRange → Type 0
ChooseSame ranges others = (number : ℕ) → IsChosenField ranges number ↔ IsChosenField others number

-- a field is in the range
abbrev pub HasField : FieldRange → Type 0
HasField range = MatchOption range.last ⊤ (λ last. range.first ≤ last)

-- a field is between the range and the next one
abbrev pub IsApart : FieldRange → FieldRange → Type 0
IsApart range next = MatchOption range.last ⊥ (λ last. last + 1 < next.first)

-- the ranges are in their order, with a field in each of them and between each two
abbrev pub AreApart : List FieldRange → Type 0
AreApart [] = ⊤
AreApart (range ∷ []) = HasField range
AreApart (range ∷ next ∷ ranges) = HasField range × IsApart range next × AreApart (next ∷ ranges)

-- the first of the ranges does not end before the field with this number
abbrev pub GoesTo : List FieldRange → ℕ → Type 0
GoesTo [] number = ⊤
GoesTo (range ∷ ranges) number = MatchOption range.last ⊤ (λ last. number ≤ last)

-- from the field with this number on, the ranges that are left choose the same fields; they are apart, and the first of
-- them does not end before it
pub record AreRangesFrom (ranges : List FieldRange) (number : ℕ) (left : List FieldRange) : Type 0 where
  pub same : (later : ℕ) → number ≤ later → IsChosenField ranges later ↔ IsChosenField left later
  pub apart : AreApart left
  pub goes : GoesTo left number

-- a range was added to ranges that begin no later: the ranges now choose its fields, too, and begin no later
pub record IsAdded (ranges : List FieldRange) (range : FieldRange) (new : List FieldRange) : Type 0 where
  pub apart : AreApart new
  pub same : ChooseSame (ranges ++ range ∷ []) new
  pub begun : All (λ each. each.first ≤ range.first) new
