-- Lemmas: where the first record of some bytes ends, found byte by byte or in blocks. Fields end in the same way, at a
-- delimiter.
use Rattle.std.proofs.Common.{◌≡◌, ◌≢◌, ◌+◌, ◌<◌, ◌≤◌, ℕ, zero, suc, List, [], ◌∷◌, ◌++◌, take, drop, get_or, length}
use Rattle.std.proofs.Common.{arith, false, eqb, refl, sym, ap, subst, ◌∙◌, append_assoc, false-eqb, take-append-drop}
use Rattle.std.proofs.Math.Seq.{drop-cons}
use Rattle.std.proofs.lemmas.Bool.{eq-eqb, ne_eqb}
use Rattle.std.proofs.lemmas.List.{take_more}
use Rattle.byte_unit_stream.specs.Chunks.{ended_records, begun_record, IsUnbroken}
use Rattle.byte_unit_stream.specs.Records.{split_by}
use Rattle.byte_unit_stream.proofs.ChunkRecords.{ended_records-append, begun_record-append, split_by-ended_records}

-- if no record ends before a place, and the byte there is no end byte, no record ends before the next place
pub IsUnbroken-other_byte : (end : ℕ) (bytes : List ℕ) (place : ℕ) → place < length bytes → IsUnbroken end (take place bytes)
    → get_or bytes place 0 ≢ end → IsUnbroken end (take (place + 1) bytes)
IsUnbroken-other_byte end bytes place fits unbroken is_other part =
    let front = take place bytes in
    let byte = get_or bytes place 0 ∷ [] in
    let more = take_more bytes place 0 fits in
    let none = ne_eqb (get_or bytes place 0) end is_other in (
      rw (more, ended_records-append end part front byte, (unbroken part).0, (unbroken part).1, none) refl,
      rw (more, begun_record-append end part front byte, (unbroken part).1, none) (append_assoc part front byte),
    )

-- if no record ends before a place, and none of the next bytes is an end byte, no record ends before the place after
-- them
pub IsUnbroken-other_bytes : (end : ℕ) (bytes : List ℕ) (place count : ℕ) → place + count ≤ length bytes → IsUnbroken end (take place bytes)
    → ((k : ℕ) → place ≤ k → k < place + count → eqb (get_or bytes k 0) end ≡ false) → IsUnbroken end (take (place + count) bytes)
IsUnbroken-other_bytes end bytes place zero fits unbroken none = subst (λ to. IsUnbroken end (take to bytes)) (omega arith) unbroken
IsUnbroken-other_bytes end bytes place (suc count) fits unbroken none =
    let front = IsUnbroken-other_bytes end bytes place count (omega arith) unbroken (λ k low high. none k low (omega arith)) in
    let is_other = false-eqb (get_or bytes (place + count) 0) end (sym (none (place + count) (omega arith) (omega arith))) in
    let next : place + count + 1 ≡ place + suc count = omega arith in
    subst (λ to. IsUnbroken end (take to bytes)) next (IsUnbroken-other_byte end bytes (place + count) (omega arith) front is_other)

-- the first record that ends in these bytes ends at this place
abbrev pub EndsAt : ℕ → List ℕ → ℕ → Type 0
EndsAt end bytes place = (place < length bytes) × (get_or bytes place 0 ≡ end) × IsUnbroken end (take place bytes)

-- the records of bytes in which the first record ends at this place
module _ (end : ℕ) (part bytes : List ℕ) (place : ℕ) (ends : EndsAt end bytes place) where
  -- the end byte is between the bytes before the place and those after it
  parts : bytes ≡ take place bytes ++ end ∷ drop (place + 1) bytes
  parts =
      let next : suc place ≡ place + 1 = omega arith in
      sym (take-append-drop place bytes) ∙ ap (λ rest. take place bytes ++ rest) (drop-cons bytes place 0 ends.0
      ∙ ap (λ byte. byte ∷ drop (suc place) bytes) ends.1 ∙ ap (λ from. end ∷ drop from bytes) next)

  -- the record that ends at this place is the first one, and the records of the bytes after it follow
  pub ended_records-EndsAt : ended_records end part bytes ≡ (part ++ take place bytes) ∷ ended_records end [] (drop (place + 1) bytes)
  ended_records-EndsAt =
      ap (ended_records end part) parts ∙ ended_records-append end part (take place bytes) (end ∷ drop (place + 1) bytes)
      ∙ rw ((ends.2 part).0, (ends.2 part).1, eq-eqb end end refl) refl

  -- the unfinished record is that of the bytes after this place
  pub begun_record-EndsAt : begun_record end part bytes ≡ begun_record end [] (drop (place + 1) bytes)
  begun_record-EndsAt =
      ap (begun_record end part) parts ∙ begun_record-append end part (take place bytes) (end ∷ drop (place + 1) bytes)
      ∙ rw (eq-eqb end end refl) refl

-- the subslices of bytes in which none ends: the bytes themselves
pub split_by-IsUnbroken : (end : ℕ) (bytes : List ℕ) → IsUnbroken end bytes → split_by end bytes ≡ bytes ∷ []
split_by-IsUnbroken end bytes unbroken = rw (split_by-ended_records end bytes, (unbroken []).0, (unbroken []).1) refl

-- the subslices of bytes in which the first one ends at this place: that one, then the subslices of the rest
pub split_by-EndsAt : (end : ℕ) (bytes : List ℕ) (place : ℕ) → EndsAt end bytes place
    → split_by end bytes ≡ take place bytes ∷ split_by end (drop (place + 1) bytes)
split_by-EndsAt end bytes place ends =
    let others = split_by-ended_records end (drop (place + 1) bytes) in
    let begun = begun_record-EndsAt end [] bytes place ends in
    rw (split_by-ended_records end bytes, ended_records-EndsAt end [] bytes place ends, begun, others) refl
