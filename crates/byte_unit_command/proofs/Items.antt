-- Lemmas: the items of a list of fields.
use Rattle.std.proofs.Common.{◌≡◌, ◌≢◌, ◌<◌, ℕ, zero, suc, List, [], ◌∷◌, ◌++◌, length, get_or, Option, Some, None}
use Rattle.std.proofs.Common.{MatchOption, inl, inr, subst, sym, refl, ◌∙◌, arith, lit<, Bor}
use Rattle.std.specs.Char.{digit_value}
use Rattle.std.specs.Str.Parse.{AllDigits}
use Rattle.std.proofs.lemmas.Str.Pattern.{IsSplitOnceResult, split_after, split_parts}
use Rattle.byte_unit_command.specs.FieldList.{IsRangeStart, IsRangeEnd, IsRange, AreRanges}
use Rattle.byte_unit_command.specs.Positive.{IsPositive}
use Rattle.byte_unit_command.specs.declared.options.FieldRange.{FieldRange}

-- a hyphen (45) is not a digit
hyphen_is_no_digit : (c : ℕ) → digit_value c < 10 → c ≢ 45
hyphen_is_no_digit c digit is =
    let wrong : 36 < 10 = subst (λ c. digit_value c < 10) is digit in
    absurd (omega arith)

-- digits have no hyphen
digits_lack_hyphens : (text : List ℕ) → AllDigits 10 text → (i : ℕ) → i < length text → get_or text i 0 ≢ 45
digits_lack_hyphens [] digits i bound = absurd (omega arith)
digits_lack_hyphens (c ∷ cs) digits zero bound = hyphen_is_no_digit c digits.0
digits_lack_hyphens (c ∷ cs) digits (suc i) bound = digits_lack_hyphens cs digits.1 i (omega arith)

-- a text with a hyphen is not digits
pub hyphens_are_no_digits : (before after : List ℕ) → AllDigits 10 (before ++ 45 ∷ after) → ⊥
hyphens_are_no_digits [] after digits = hyphen_is_no_digit 45 digits.0 refl
hyphens_are_no_digits (c ∷ cs) after digits = hyphens_are_no_digits cs after digits.1

-- nothing before a first hyphen of a range is a hyphen
firsts_lack_hyphens : (before : List ℕ) (first : ℕ) → IsRangeStart before first → (i : ℕ) → i < length before
    → get_or before i 0 ≢ 45
firsts_lack_hyphens [] first is i bound = absurd (omega arith)
firsts_lack_hyphens (c ∷ cs) first is i bound = digits_lack_hyphens (c ∷ cs) is.is_numeral.1 i bound

-- a range, cut at its first hyphen (45): without one it is a number, and else a first and a last field; `is_numeral.1`
-- says that a text has digits alone
pub cut_range : (item : List ℕ) (range : FieldRange) (r : Option (Bor (List ℕ) × Bor (List ℕ)))
    → IsSplitOnceResult 45 item r → IsRange item range
    → MatchOption r (IsPositive item range.first × (range.last ≡ Some range.first))
    (λ parts. IsRangeStart parts.0.now range.first × IsRangeEnd parts.1.now range.first range.last)
cut_range item range None split (inl single) = single
cut_range item range None split (inr (before, after, item_is, is_first, is_last)) =
    absurd (split_after 45 item before after None split (lit< tt) item_is
    (firsts_lack_hyphens before range.first is_first))
cut_range item range (Some parts) split (inl single) =
    let whole = (split_parts 45 item (Some parts) split (lit< tt)).0 in
    absurd (hyphens_are_no_digits parts.0.now parts.1.now (subst (AllDigits 10) whole single.0.is_numeral.1))
cut_range item range (Some parts) split (inr (before, after, item_is, is_first, is_last)) =
    let same = split_after 45 item before after (Some parts) split (lit< tt) item_is
    (firsts_lack_hyphens before range.first is_first) in (
      subst (λ text. IsRangeStart text range.first) (sym same.0) is_first,
      subst (λ text. IsRangeEnd text range.first range.last) (sym same.1) is_last,
    )

-- a text is at most one first field
one_first : (before : List ℕ) (first other : ℕ) → IsRangeStart before first → IsRangeStart before other → first ≡ other
one_first [] first other is is_too = is ∙ sym is_too
one_first (c ∷ cs) first other is is_too = sym is.value ∙ is_too.value

-- no field before the first hyphen: the item is no range
pub without_first : (item : List ℕ) (r : Option (Bor (List ℕ) × Bor (List ℕ))) (parts : Bor (List ℕ) × Bor (List ℕ))
    → IsSplitOnceResult 45 item r → r ≡ Some parts → ((first : ℕ) → ¬ IsRangeStart parts.0.now first)
    → (range : FieldRange) → ¬ IsRange item range
without_first item r parts split is none range is_range =
    none range.first (cut_range item range (Some parts) (subst (IsSplitOnceResult 45 item) is split) is_range).0

-- no last field after the first hyphen: the item is no range
pub without_last : (item : List ℕ) (r : Option (Bor (List ℕ) × Bor (List ℕ))) (parts : Bor (List ℕ) × Bor (List ℕ))
    (first : ℕ) → IsSplitOnceResult 45 item r → r ≡ Some parts → IsRangeStart parts.0.now first
    → ((last : Option ℕ) → ¬ IsRangeEnd parts.1.now first last) → (range : FieldRange) → ¬ IsRange item range
without_last item r parts first split is is_first none range is_range =
    let cut = cut_range item range (Some parts) (subst (IsSplitOnceResult 45 item) is split) is_range in
    let same = one_first parts.0.now range.first first cut.0 is_first in
    none range.last (subst (λ first. IsRangeEnd parts.1.now first range.last) same cut.1)

-- an item without a hyphen that is no positive number is no range
pub without_number : (item : List ℕ) (r : Option (Bor (List ℕ) × Bor (List ℕ))) → IsSplitOnceResult 45 item r → r ≡ None
    → ((number : ℕ) → ¬ IsPositive item number) → (range : FieldRange) → ¬ IsRange item range
without_number item r split is none range is_range =
    none range.first (cut_range item range None (subst (IsSplitOnceResult 45 item) is split) is_range).0

-- if one more text is one more range, the texts with it are the ranges with it
pub AreRanges-append : (texts : List (List ℕ)) (ranges : List FieldRange) (text : List ℕ) (range : FieldRange)
    → AreRanges texts ranges → IsRange text range → AreRanges (texts ++ text ∷ []) (ranges ++ range ∷ [])
AreRanges-append [] [] text range are is = (is, tt)
AreRanges-append [] (first ∷ ranges) text range are is = absurd are
AreRanges-append (first ∷ texts) [] text range are is = absurd are
AreRanges-append (first ∷ texts) (one ∷ ranges) text range are is =
    (are.0, AreRanges-append texts ranges text range are.1 is)

-- each of the texts is a range
pub AreRanges-at : (texts : List (List ℕ)) (ranges : List FieldRange) (text : List ℕ) (k : ℕ) → AreRanges texts ranges
    → k < length texts → text ≡ get_or texts k text → (range : FieldRange) × IsRange text range
AreRanges-at [] ranges text k are bound is = absurd (omega arith)
AreRanges-at (first ∷ texts) [] text k are bound is = absurd are
AreRanges-at (first ∷ texts) (one ∷ ranges) text zero are bound is =
    (one, subst (λ text. IsRange text one) (sym is) are.0)
AreRanges-at (first ∷ texts) (one ∷ ranges) text (suc k) are bound is =
    AreRanges-at texts ranges text k are.1 (omega arith) is
