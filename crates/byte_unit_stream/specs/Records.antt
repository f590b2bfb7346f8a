-- The records of an input, which is a list of bytes. A record ends at the end byte, which is not part of it.
use Rattle.std.specs.Prelude.{ℕ, List, [], ◌∷◌, ◌==◌}
use Rattle.std.specs.List.{slice_split}

-- the subslices between the end bytes, empty ones included
abbrev pub split_by : ℕ → List ℕ → List (List ℕ)
split_by end bytes = slice_split (λ byte. byte == end) bytes

-- all subslices but the last
abbrev pub but_last : List (List ℕ) → List (List ℕ)
but_last [] = []
but_last (part ∷ []) = []
but_last (part ∷ next ∷ others) = part ∷ but_last (next ∷ others)

-- all subslices, without the last one if it is empty
abbrev pub but_empty_last : List (List ℕ) → List (List ℕ)
but_empty_last [] = []
but_empty_last ([] ∷ []) = []
but_empty_last ((byte ∷ bytes) ∷ []) = (byte ∷ bytes) ∷ []
but_empty_last (part ∷ next ∷ others) = part ∷ but_empty_last (next ∷ others)

-- the records of an input: a last one without an end byte is one too, if it is not empty
abbrev pub records_of : ℕ → List ℕ → List (List ℕ)
records_of end bytes = but_empty_last (split_by end bytes)

-- the records of an input that have an end byte
abbrev pub finished_records : ℕ → List ℕ → List (List ℕ)
finished_records end bytes = but_last (split_by end bytes)
