-- Records that come in chunks. A chunk has the ends of some, and the beginning of the next one.
use Rattle.std.specs.Prelude.{◌≡◌, ℕ, List, [], ◌∷◌, ◌++◌, ◌==◌, if◌then◌else◌}

-- the records that end in these bytes, if `part` is the part of the first one that came before them
abbrev pub ended_records : ℕ → List ℕ → List ℕ → List (List ℕ)
ended_records end part [] = []
ended_records end part (byte ∷ bytes) =
    if byte == end then part ∷ ended_records end [] bytes else ended_records end (part ++ byte ∷ []) bytes

-- the part of an unfinished record that there is after these bytes, if `part` is the part before them
abbrev pub begun_record : ℕ → List ℕ → List ℕ → List ℕ
begun_record end part [] = part
begun_record end part (byte ∷ bytes) =
    if byte == end then begun_record end [] bytes else begun_record end (part ++ byte ∷ []) bytes

-- no record ends in these bytes
abbrev pub IsUnbroken : ℕ → List ℕ → Type 0
IsUnbroken end bytes = (part : List ℕ)
    → (ended_records end part bytes ≡ []) × (begun_record end part bytes ≡ part ++ bytes)

-- the list of this record, or no record if it is empty
abbrev pub nonempty_record : List ℕ → List (List ℕ)
nonempty_record [] = []
nonempty_record (byte ∷ bytes) = (byte ∷ bytes) ∷ []
