-- Lemmas: which fields are in ranges.
use Rattle.std.proofs.Common.{◌≡◌, ℕ, zero, suc, ◌+◌, ◌<◌, ◌≤◌, ◌⊎◌, ◌↔◌, inl, inr, List, [], ◌∷◌, ◌++◌, length, arith}
use Rattle.std.proofs.Common.{Option, None, Some, MatchOption, append_assoc, refl, subst, sym, slice_index_or}
use Rattle.std.specs.Prelude.{⊤}
use Rattle.std.specs.List.{All, Contains}
use Rattle.std.specs.List.Sorted.{IsPermutation}
use Rattle.std.proofs.lemmas.List.Elements.{All-pop, All-push}
use Rattle.std.proofs.lemmas.List.Sorted.{Contains-permutation, IsPermutation-sym}
use Rattle.byte_unit_command.specs.Ranges.{AreApart, AreRangesFrom, ChooseSame, HasField, InRange, IsAdded}
use Rattle.byte_unit_command.specs.Ranges.{IsApart, IsChosenField}
use Rattle.byte_unit_command.specs.declared.options.FieldRange.{FieldRange}

-- what the code reads of ranges past their end
abbrev pub default_range : FieldRange
default_range = record { first = 0; last = None }

-- a range that has a field begins before the next one, if these are apart
first_below_next : (first next : ℕ) (last : Option ℕ) → MatchOption last ⊤ (λ last. first ≤ last)
    → MatchOption last ⊥ (λ last. last + 1 < next) → first < next
first_below_next first next None has apart = absurd apart
first_below_next first next (Some last) has apart = omega (arith, has, apart)

-- of ranges that are apart, none chooses a field before the first of them
pub none-before : (range : FieldRange) (others : List FieldRange) (number : ℕ) → AreApart (range ∷ others)
    → number < range.first → ¬ IsChosenField (range ∷ others) number
none-before range [] number apart early (inl is) = omega (arith, is.0, early)
none-before range [] number apart early (inr none) = none
none-before range (next ∷ others) number apart early (inl is) = omega (arith, is.0, early)
none-before range (next ∷ others) number apart early (inr more) =
    let below = first_below_next range.first next.first range.last apart.0 apart.1 in
    none-before next others number apart.2 (omega (arith, early, below)) more

-- of ranges that are apart, none chooses a field before the first of them, which the code gets by its index
pub none-before-first : (ranges : List FieldRange) (number : ℕ) → AreApart ranges
    → number < (slice_index_or ranges 0 default_range).first → ¬ IsChosenField ranges number
none-before-first [] number apart early = λ none. none
none-before-first (range ∷ others) number apart early = none-before range others number apart early

-- the ranges from one field on, and from the next one on, are those of all ranges
pub AreRangesFrom-step : (ranges left next : List FieldRange) (number : ℕ) → AreRangesFrom ranges number left
    → AreRangesFrom left (number + 1) next → AreRangesFrom ranges (number + 1) next
AreRangesFrom-step ranges left next number so_far step = record {
  same = λ later high.
      let before = so_far.same later (omega (arith, high)) in
      let after = step.same later high in
      (λ chosen. after.0 (before.0 chosen), λ chosen. before.1 (after.1 chosen));
  apart = step.apart;
  goes = step.goes;
}

-- a field in a range of the list is chosen; this is its index
chosen-at : (ranges : List FieldRange) (k : ℕ) (range : FieldRange) (number : ℕ) → k < length ranges
    → slice_index_or ranges k range ≡ range → InRange range number → IsChosenField ranges number
chosen-at [] k range number bound is within = absurd (omega arith)
chosen-at (first ∷ ranges) zero range number bound is within = inl (subst (λ range. InRange range number) (sym is) within)
chosen-at (first ∷ ranges) (suc k) range number bound is within =
    inr (chosen-at ranges k range number (omega arith) is within)

-- a field that is chosen is in a range of the list
chosen-range : (ranges : List FieldRange) (number : ℕ) → IsChosenField ranges number
    → (range : FieldRange) × Contains ranges range × InRange range number
chosen-range [] number none = absurd none
chosen-range (range ∷ ranges) number (inl within) = (range, (0, omega arith, refl), within)
chosen-range (range ∷ ranges) number (inr more) =
    let found = chosen-range ranges number more in
    (found.0, (suc found.1.0, omega (arith, found.1.1), found.1.2), found.2)

-- a field that is chosen is in the ranges in any other order
chosen-permutation : (ranges others : List FieldRange) (number : ℕ) → IsPermutation ranges others
    → IsChosenField ranges number → IsChosenField others number
chosen-permutation ranges others number permutation chosen =
    let found = chosen-range ranges number chosen in
    let there = Contains-permutation ranges others found.0 permutation found.1 in
    chosen-at others there.0 found.0 number there.1 there.2 found.2

-- ranges choose the same fields in any order
pub ChooseSame-permutation : (ranges others : List FieldRange) → IsPermutation ranges others → ChooseSame ranges others
ChooseSame-permutation ranges others permutation number = (
  chosen-permutation ranges others number permutation,
  chosen-permutation others ranges number (IsPermutation-sym ranges others permutation),
)

-- ranges that choose the same fields as others choose the same as these do
pub ChooseSame-trans : (ranges between others : List FieldRange) → ChooseSame ranges between → ChooseSame between others
    → ChooseSame ranges others
ChooseSame-trans ranges between others begun ended number = (
  λ chosen. (ended number).0 ((begun number).0 chosen),
  λ chosen. (begun number).1 ((ended number).1 chosen),
)

-- a field is in one of two lists of ranges, or in both together
pub chosen-append : (ranges others : List FieldRange) (number : ℕ)
    → IsChosenField (ranges ++ others) number ↔ (IsChosenField ranges number ⊎ IsChosenField others number)
chosen-append [] others number = (inr, λ chosen. elim chosen [ inl none ↦ absurd none | inr is ↦ is ])
chosen-append (range ∷ ranges) others number =
    let more = chosen-append ranges others number in (
      λ chosen. elim chosen [
        | inl is ↦ inl (inl is)
        | inr is ↦ elim (more.0 is) [ inl here ↦ inl (inr here) | inr there ↦ inr there ]
      ],
      λ chosen. elim chosen [
        | inl here ↦ elim here [ inl is ↦ inl is | inr is ↦ inr (more.1 (inl is)) ]
        | inr there ↦ inr (more.1 (inr there))
      ],
    )

-- ranges before some choose the same as others if those do that they replace
pub ChooseSame-before : (ranges others more : List FieldRange) → ChooseSame ranges others
    → ChooseSame (ranges ++ more) (others ++ more)
ChooseSame-before ranges others more same number =
    let first = chosen-append ranges more number in
    let second = chosen-append others more number in (
      λ chosen. second.1 (elim (first.0 chosen) [ inl is ↦ inl ((same number).0 is) | inr is ↦ inr is ]),
      λ chosen. first.1 (elim (second.0 chosen) [ inl is ↦ inl ((same number).1 is) | inr is ↦ inr is ]),
    )

-- the same, for what follows
pub ChooseSame-after : (before ranges others : List FieldRange) → ChooseSame ranges others
    → ChooseSame (before ++ ranges) (before ++ others)
ChooseSame-after before ranges others same number =
    let first = chosen-append before ranges number in
    let second = chosen-append before others number in (
      λ chosen. second.1 (elim (first.0 chosen) [ inl is ↦ inl is | inr is ↦ inr ((same number).0 is) ]),
      λ chosen. first.1 (elim (second.0 chosen) [ inl is ↦ inl is | inr is ↦ inr ((same number).1 is) ]),
    )

-- the last of ranges that are apart has a field
pub HasField-last : (before : List FieldRange) (last : FieldRange) → AreApart (before ++ last ∷ []) → HasField last
HasField-last [] last apart = apart
HasField-last (range ∷ []) last apart = apart.2
HasField-last (range ∷ next ∷ before) last apart = HasField-last (next ∷ before) last apart.2

-- ranges stay apart if the last one goes on
AreApart-longer : (before : List FieldRange) (last both : FieldRange) → both.first ≡ last.first → HasField both
    → AreApart (before ++ last ∷ []) → AreApart (before ++ both ∷ [])
AreApart-longer [] last both is has apart = has
AreApart-longer (range ∷ []) last both is has apart =
    (apart.0, subst (λ first. MatchOption range.last ⊥ (λ last. last + 1 < first)) (sym is) apart.1, has)
AreApart-longer (range ∷ next ∷ before) last both is has apart =
    (apart.0, apart.1, AreApart-longer (next ∷ before) last both is has apart.2)

-- ranges are apart with one more that is apart from the last one
AreApart-push : (before : List FieldRange) (last range : FieldRange) → IsApart last range → HasField range
    → AreApart (before ++ last ∷ []) → AreApart ((before ++ last ∷ []) ++ range ∷ [])
AreApart-push [] last range is_apart has apart = (apart, is_apart, has)
AreApart-push (first ∷ []) last range is_apart has apart = (apart.0, apart.1, (apart.2, is_apart, has))
AreApart-push (first ∷ next ∷ before) last range is_apart has apart =
    (apart.0, apart.1, AreApart-push (next ∷ before) last range is_apart has apart.2)

-- a range without a field adds nothing
pub IsAdded-none : (ranges : List FieldRange) (range : FieldRange) → AreApart ranges
    → All (λ each. each.first ≤ range.first) ranges → ((number : ℕ) → ¬ InRange range number)
    → IsAdded ranges range ranges
IsAdded-none ranges range apart begun none = record {
  apart = apart;
  same = λ number.
      let both = chosen-append ranges (range ∷ []) number in (
        λ chosen. elim (both.0 chosen) [
          | inl is ↦ is
          | inr more ↦ elim more [ inl is ↦ absurd (none number is) | inr never ↦ absurd never ]
        ],
        λ chosen. both.1 (inl chosen),
      );
  begun = begun;
}

-- two ranges choose the same fields as the one that has those of both
ChooseSame-both : (last range both : FieldRange)
    → ((number : ℕ) → InRange both number ↔ (InRange last number ⊎ InRange range number))
    → ChooseSame (last ∷ range ∷ []) (both ∷ [])
ChooseSame-both last range both same number = (
  λ chosen. elim chosen [
    | inl is ↦ inl ((same number).1 (inl is))
    | inr more ↦ elim more [ inl is ↦ inl ((same number).1 (inr is)) | inr never ↦ absurd never ]
  ],
  λ chosen. elim chosen [
    | inl is ↦ elim ((same number).0 is) [ inl first ↦ inl first | inr next ↦ inr (inl next) ]
    | inr never ↦ absurd never
  ],
)

-- a range was added to the last one
pub IsAdded-both : (before : List FieldRange) (last range both : FieldRange) → AreApart (before ++ last ∷ [])
    → All (λ each. each.first ≤ range.first) (before ++ last ∷ []) → both.first ≡ last.first → HasField both
    → ((number : ℕ) → InRange both number ↔ (InRange last number ⊎ InRange range number))
    → IsAdded (before ++ last ∷ []) range (before ++ both ∷ [])
IsAdded-both before last range both apart begun is has same =
    let Begun : FieldRange → Type 0 = λ each. each.first ≤ range.first in
    let parts = All-pop Begun (before ++ last ∷ []) before (Some last) refl begun in record {
      apart = AreApart-longer before last both is has apart;
      same = subst (λ ranges. ChooseSame ranges (before ++ both ∷ [])) (sym (append_assoc before (last ∷ []) (range ∷ [])))
          (ChooseSame-after before (last ∷ range ∷ []) (both ∷ []) (ChooseSame-both last range both same));
      begun = All-push Begun before both parts.0 (subst (λ first. first ≤ range.first) (sym is) parts.1);
    }

-- a range was added after the last one
pub IsAdded-next : (before : List FieldRange) (last range : FieldRange) → AreApart (before ++ last ∷ [])
    → All (λ each. each.first ≤ range.first) (before ++ last ∷ []) → IsApart last range → HasField range
    → IsAdded (before ++ last ∷ []) range ((before ++ last ∷ []) ++ range ∷ [])
IsAdded-next before last range apart begun is_apart has = record {
  apart = AreApart-push before last range is_apart has apart;
  same = λ number. (λ chosen. chosen, λ chosen. chosen);
  begun = All-push (λ each. each.first ≤ range.first) (before ++ last ∷ []) range begun (omega arith);
}
