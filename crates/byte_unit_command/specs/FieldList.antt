-- A list of fields, as `--field` takes it: ranges between commas.
use Rattle.std.specs.Prelude.{◌≡◌, ℕ, ◌≤◌, ◌⊎◌, ⊤, List, [], ◌∷◌, ◌++◌, ◌==◌, Option, None, Some}
use Rattle.std.specs.List.{slice_split}
use Rattle.byte_unit_command.specs.Positive.{IsPositive}
use Rattle.byte_unit_command.specs.Ranges.{ChooseSame}
use Rattle.byte_unit_command.specs.declared.options.FieldRange.{FieldRange}

-- the first field of a range, before its hyphen: 1 if nothing is there
abbrev pub IsRangeStart : List ℕ → ℕ → Type 0
IsRangeStart [] first = first ≡ 1
IsRangeStart (c ∷ cs) first = IsPositive (c ∷ cs) first

-- the last field of a range, after its hyphen: there is none if nothing is there, and it is not before the first
abbrev pub IsRangeEnd : List ℕ → ℕ → Option ℕ → Type 0
IsRangeEnd [] first last = last ≡ None
IsRangeEnd (c ∷ cs) first last = (number : ℕ) × IsPositive (c ∷ cs) number × (first ≤ number) × (last ≡ Some number)

-- the text is this range: `N`, or `N-M`, where either number can be left out
abbrev pub IsRange : List ℕ → FieldRange → Type 0
IsRange text range =
    IsPositive text range.first × (range.last ≡ Some range.first)
    ⊎ (before after : List ℕ) × (text ≡ before ++ 45 ∷ after) × IsRangeStart before range.first
    × IsRangeEnd after range.first range.last

-- these texts are these ranges, in their order
abbrev pub AreRanges : List (List ℕ) → List FieldRange → Type 0
AreRanges [] [] = ⊤
AreRanges [] (range ∷ ranges) = ⊥
AreRanges (text ∷ texts) [] = ⊥
AreRanges (text ∷ texts) (range ∷ ranges) = IsRange text range × AreRanges texts ranges

-- the text is a list of these ranges: they are between its commas (44), in their order
abbrev pub IsFieldList : List ℕ → List FieldRange → Type 0
IsFieldList text ranges = AreRanges (slice_split (λ c. c == 44) text) ranges

-- the fields of a list, as ranges, or `None` if the text is no such list
abbrev pub IsListReading : List ℕ → Option (List FieldRange) → Type 0
IsListReading text None = (ranges : List FieldRange) → ¬ IsFieldList text ranges
IsListReading text (Some fields) = (listed : List FieldRange) × IsFieldList text listed × ChooseSame listed fields
