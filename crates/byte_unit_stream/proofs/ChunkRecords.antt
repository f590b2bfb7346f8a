-- Lemmas: the records of bytes that come in chunks are those of the whole input.
use Rattle.std.proofs.Common.{◌≡◌, ◌≢◌, ℕ, List, [], ◌∷◌, ◌++◌, length, true, false, cond}
use Rattle.std.proofs.Common.{eqb, arith, refl, sym, ap, ◌∙◌, append_assoc, append-nil, ◌==◌}
use Rattle.std.proofs.lemmas.List.{nil_from_length}
use Rattle.std.proofs.lemmas.Bool.{eqb-true, eqb-false}
use Rattle.std.proofs.lemmas.Bool.Decides.{nat_tests}
use Rattle.std.specs.List.{onto_first}
use Rattle.byte_unit_stream.specs.Records.{split_by, but_last, but_empty_last, records_of, finished_records}
use Rattle.byte_unit_stream.specs.Chunks.{ended_records, begun_record, nonempty_record}

-- the subslices, with these bytes put before the first of them; these bytes alone if there are none
abbrev onto : List ℕ → List (List ℕ) → List (List ℕ)
onto part [] = part ∷ []
onto part (own ∷ others) = (part ++ own) ∷ others

-- there is a first subslice, so the list is not empty
abbrev pub IsSplit : List (List ℕ) → Type 0
IsSplit split = (own : List ℕ) × (others : List (List ℕ)) × (split ≡ own ∷ others)

-- a last subslice is taken off
but_last-snoc : (front : List (List ℕ)) (last : List ℕ) → but_last (front ++ last ∷ []) ≡ front
but_last-snoc [] last = refl
but_last-snoc (part ∷ []) last = refl
but_last-snoc (part ∷ next ∷ others) last = ap (λ records. part ∷ records) (but_last-snoc (next ∷ others) last)

-- a last subslice is taken off if it is empty
but_empty_last-snoc : (front : List (List ℕ)) (last : List ℕ)
    → but_empty_last (front ++ last ∷ []) ≡ front ++ nonempty_record last
but_empty_last-snoc [] [] = refl
but_empty_last-snoc [] (byte ∷ bytes) = refl
but_empty_last-snoc (part ∷ []) last = ap (λ records. part ∷ records) (but_empty_last-snoc [] last)
but_empty_last-snoc (part ∷ next ∷ others) last =
    ap (λ records. part ∷ records) (but_empty_last-snoc (next ∷ others) last)

module _ (end : ℕ) where
  -- the records that end in two chunks are those of the first, then those of the second
  pub ended_records-append : (part front back : List ℕ)
      → ended_records end part (front ++ back) ≡ ended_records end part front ++ ended_records end (begun_record end part front) back
  ended_records-append part [] back = refl
  ended_records-append part (byte ∷ front) back =
      grind (arith, nat_tests, ended_records-append [] front back, ended_records-append (part ++ byte ∷ []) front back)

  -- the unfinished record after two chunks is the one after the second, begun by the one after the first
  pub begun_record-append : (part front back : List ℕ)
      → begun_record end part (front ++ back) ≡ begun_record end (begun_record end part front) back
  begun_record-append part [] back = refl
  begun_record-append part (byte ∷ front) back =
      grind (arith, nat_tests, begun_record-append [] front back, begun_record-append (part ++ byte ∷ []) front back)

  -- an input has a first subslice, even if it has no bytes
  pub split_by_IsSplit : (bytes : List ℕ) → IsSplit (split_by end bytes)
  split_by_IsSplit [] = ([], [], refl)
  split_by_IsSplit (byte ∷ bytes) =
      let split = split_by_IsSplit bytes in
      elim (eqb byte end) as (λ ends. IsSplit (cond ends ([] ∷ split_by end bytes)
      (onto_first byte (split_by end bytes))))
      [ true ↦ ([], split_by end bytes, refl) | false ↦ (byte ∷ split.0, split.1, ap (onto_first byte) split.2) ]

  -- the subslices, with `part` put before the first, are the records that end, and the unfinished record
  split_by-onto : (part bytes : List ℕ)
      → onto part (split_by end bytes) ≡ ended_records end part bytes ++ begun_record end part bytes ∷ []
  split_by-onto part [] = ap (λ own. own ∷ []) (append-nil part)
  split_by-onto part (byte ∷ bytes) =
      let split = split_by_IsSplit bytes in
      grind (
        arith,
        nat_tests,
        append-nil part,
        split.2,
        append_assoc part (byte ∷ []) split.0,
        split_by-onto [] bytes,
        split_by-onto (part ++ byte ∷ []) bytes,
      )

  -- the subslices of an input are the records that end in it, then the unfinished record
  pub split_by-ended_records : (bytes : List ℕ)
      → split_by end bytes ≡ ended_records end [] bytes ++ begun_record end [] bytes ∷ []
  split_by-ended_records bytes = grind (arith, (split_by_IsSplit bytes).2, split_by-onto [] bytes)

  -- the finished records of an input are the records that end in it
  finished_records-ended_records : (bytes : List ℕ) → finished_records end bytes ≡ ended_records end [] bytes
  finished_records-ended_records bytes = ap but_last (split_by-ended_records bytes) ∙ but_last-snoc _ _

  -- the records of an input are the records that end in it, then the unfinished record if it is not empty
  pub records_of-ended_records : (bytes : List ℕ)
      → records_of end bytes ≡ ended_records end [] bytes ++ nonempty_record (begun_record end [] bytes)
  records_of-ended_records bytes = ap but_empty_last (split_by-ended_records bytes) ∙ but_empty_last-snoc _ _

  -- `part` is the unfinished record after the bytes that were read; a piece is the chunk that comes after them
  module _ (read : List ℕ) {part : List ℕ} (begun : part ≡ begun_record end [] read) where
    -- the finished records of what was read, then the records that end in the next piece, are the finished ones of both
    pub finished_records-piece : (piece : List ℕ)
        → finished_records end read ++ ended_records end part piece ≡ finished_records end (read ++ piece)
    finished_records-piece piece =
        rw (begun, finished_records-ended_records read, finished_records-ended_records (read ++ piece))
        (sym (ended_records-append [] read piece))

    -- the unfinished record after the next piece is that of both
    pub begun_record-piece : (piece : List ℕ) → begun_record end part piece ≡ begun_record end [] (read ++ piece)
    begun_record-piece piece = rw (begun, begun_record-append [] read piece) refl

    -- the finished records, then the unfinished one if it is not empty, are all records of what was read
    pub records_of-begun : finished_records end read ++ nonempty_record part ≡ records_of end read
    records_of-begun = rw (begun, finished_records-ended_records read, records_of-ended_records read) refl

-- a part whose length is tested to be 0 is empty
pub empty_from_length : (part : List ℕ) (count : ℕ) → count ≡ length part → true ≡ (count == 0) → part ≡ []
empty_from_length part count count_is none = nil_from_length part (sym count_is ∙ eqb-true count 0 (sym none))

-- a part whose length is tested not to be 0 is not empty
pub nonempty_from_length : (part : List ℕ) (count : ℕ) → count ≡ length part → false ≡ (count == 0) → part ≢ []
nonempty_from_length part count count_is some none = eqb-false count 0 (sym some) (count_is ∙ ap length none)

-- a part that is not empty is a record
pub nonempty_record-nonempty : (part : List ℕ) → part ≢ [] → nonempty_record part ≡ part ∷ []
nonempty_record-nonempty [] some = absurd (some refl)
nonempty_record-nonempty (_ ∷ _) some = refl
