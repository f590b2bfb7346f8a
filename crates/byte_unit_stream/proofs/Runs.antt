-- Lemmas: the loop of a run, read by read.
use Rattle.std.proofs.Common.{◌≡◌, ℕ, List, [], ◌∷◌, ◌++◌, Result, Ok, Err, refl, sym, ap, subst, ◌∙◌, append_assoc}
use Rattle.std.proofs.Common.{append-nil, inl, inr}
use Rattle.std.specs.Prelude.{⊤}
use Rattle.byte_unit_stream.specs.Beginnings.{IsBeginningOf}
use Rattle.byte_unit_stream.specs.Chunks.{ended_records, begun_record, nonempty_record}
use Rattle.byte_unit_stream.specs.Records.{records_of, finished_records}
use Rattle.byte_unit_stream.specs.Runs.{IsEnd, IsLeft}
use Rattle.byte_unit_stream.specs.RecordSteps.{AreConverted, AreSteps, IsAll, IsEndedEarly, IsSomeFirst, IsStep}
use Rattle.byte_unit_stream.specs.RecordSteps.{Progress, Relation, start_at}
use Rattle.byte_unit_stream.specs.declared.run.RunError.{RunError}
use Rattle.byte_unit_stream.specs.declared.run.RunError.TheVariants.{Memory, Read, Write, Ended}
use Rattle.byte_unit_stream.proofs.Beginnings.{IsBeginningOf-after}
use Rattle.byte_unit_stream.proofs.ChunkRecords.{finished_records-piece, begun_record-piece, records_of-begun}
use Rattle.byte_unit_stream.proofs.RecordSteps.{AreConverted-failed, AreConverted-then, IsSomeFirst-converted, behind}

-- between two reads: the finished records of what was read are converted, and the rest is the unfinished record
pub record IsServed {S E : Type 0} (relation : Relation S E) (end : ℕ) (start : S) (read written messages part : List ℕ)
    (state : S) : Type 0 where
  pub steps : AreSteps relation (finished_records end read) (start_at start)
      (record { state = state; out = written; messages = messages })
  pub begun : part ≡ begun_record end [] read

-- a list to which nothing is appended
appended-nothing : (front more : List ℕ) → more ≡ [] → front ++ more ≡ front
appended-nothing front more none = ap (λ more. front ++ more) none ∙ append-nil front

module _ {S E : Type 0} {relation : Relation S E} {end : ℕ} {start state : S} {read written messages part : List ℕ}
    (served : IsServed relation end start read written messages part state) where
  -- the finished records of what was read
  abbrev finished : List (List ℕ)
  finished = finished_records end read

  -- the progress between the two reads
  abbrev between : Progress S
  between = record { state = state; out = written; messages = messages }

  -- what is written and told is that of the finished records
  pub IsAll-now : IsAll relation finished (start_at start) written messages
  IsAll-now = record { new = between; steps = served.steps; out_is = refl; messages_are = refl }

  -- what a call leaves that converts records after the finished ones, as what converts all of both
  AreConverted-all : (records all : List (List ℕ)) → finished ++ records ≡ all → (new : Progress S)
      (result : Result ⊤ (RunError E)) → AreConverted relation records (start_at state) new result
      → AreConverted relation all (start_at start) (behind written messages new) result
  AreConverted-all records all same new result at =
      let before : AreSteps relation finished (start_at start) (behind written messages (start_at state)) =
      rw (append-nil written, append-nil messages) served.steps in
      subst (λ all. AreConverted relation all (start_at start) (behind written messages new) result) same
      (AreConverted-then relation written messages finished records (start_at start) (start_at state) new result before at)

  -- the records that end in the next piece follow
  module _ (piece : List ℕ) where
    -- those records
    abbrev ended : List (List ℕ)
    ended = ended_records end part piece

    -- the finished records after the piece
    abbrev after : List (List ℕ)
    after = finished_records end (read ++ piece)

    -- the finished records before the piece, then those that end in it
    same-after : finished ++ ended ≡ after
    same-after = finished_records-piece end read served.begun piece

    -- converting them keeps the invariant
    pub IsServed-piece : (new : Progress S) (next_part : List ℕ) → AreSteps relation ended (start_at state) new
        → next_part ≡ begun_record end part piece
        → IsServed relation end start (read ++ piece) (written ++ new.out) (messages ++ new.messages) next_part
        new.state
    IsServed-piece new next_part steps part_is = record {
      steps = AreConverted-all ended after same-after new (Ok tt) steps;
      begun = part_is ∙ begun_record-piece end read served.begun piece;
    }

    -- what an error in the piece leaves written and told is right for a run that ends with this error
    pub IsLeft-piece : (complete : Type 0) (last : S) (new : Progress S) (error : RunError E)
        → AreConverted relation ended (start_at state) new (Err error)
        → IsLeft relation end start (read ++ piece) complete (Err error) last (written ++ new.out)
        (messages ++ new.messages)
    IsLeft-piece complete last new Memory at = inl (AreConverted-all ended after same-after new (Err Memory) at)
    IsLeft-piece complete last new (Ended reason) at =
        inl (AreConverted-all ended after same-after new (Err (Ended reason)) at)
    IsLeft-piece complete last new Read at = absurd at
    IsLeft-piece complete last new Write at = absurd at

    -- so is a beginning of what waited, if the write of it has failed; no messages about the piece are told then
    pub IsLeft-unwritten : (complete : Type 0) (last : S) (new : Progress S) (result : Result ⊤ (RunError E))
        → AreConverted relation ended (start_at state) new result → (more : List ℕ) → IsBeginningOf more new.out
        → IsLeft relation end start (read ++ piece) complete (Err Write) last (written ++ more) messages
    IsLeft-unwritten complete last new result at more begins =
        let first = IsSomeFirst-converted relation after (start_at start) (behind written messages new) result
        (AreConverted-all ended after same-after new result at) in
        inl (
          (written ++ new.out, first.0, first.1, IsBeginningOf-after written more new.out begins),
          (written, record { first = finished; is_beginning = (ended, sym same-after); all = IsAll-now }),
        )

  -- the input was read to its end, and the last record follows, if it is not empty
  module _ (complete : Type 0) (at_end : complete) where
    -- the finished records and the last one
    same-all : finished ++ nonempty_record part ≡ records_of end read
    same-all = records_of-begun end read served.begun

    -- if the last record is converted, all are
    all-steps : (new : Progress S) → AreSteps relation (nonempty_record part) (start_at state) new
        → AreSteps relation (records_of end read) (start_at start) (behind written messages new)
    all-steps new steps = AreConverted-all (nonempty_record part) (records_of end read) same-all new (Ok tt) steps

    -- what is told if the last record could not be converted is right for a run that ends with its error
    pub IsLeft-last : (last : S) (new : Progress S) (error : RunError E)
        → IsStep relation part (start_at state) new (Err error) → nonempty_record part ≡ part ∷ []
        → IsLeft relation end start read complete (Err error) last written (messages ++ new.messages)
    IsLeft-last last new Memory (_, none) is = inl (record {
      first = finished;
      is_beginning = ([], sym (append-nil finished));
      all = record {
        new = between;
        steps = served.steps;
        out_is = refl;
        messages_are = appended-nothing messages new.messages none;
      };
    })
    IsLeft-last last new (Ended reason) at is = inr (
      at_end,
      inl (subst (λ out. IsEndedEarly relation (records_of end read) (start_at start) reason out
          (messages ++ new.messages)) (appended-nothing written new.out at.2) (AreConverted-all (part ∷ [])
          (records_of end read) (ap (λ last. finished ++ last) (sym is) ∙ same-all) new (Err (Ended reason))
          (AreConverted-failed relation part [] (start_at state) new (Ended reason) at))),
    )
    IsLeft-last last new Read at is = absurd at
    IsLeft-last last new Write at is = absurd at

    -- what is written and told after the last record is right for a run that ends with that result
    pub IsLeft-end : (last : S) (new : Progress S) → AreSteps relation (nonempty_record part) (start_at state) new
        → (result : Result ⊤ (RunError E)) (more : List ℕ) → IsEnd relation new last result more
        → IsLeft relation end start read complete result last (written ++ more) (messages ++ new.messages)
    IsLeft-end last new steps (Ok _) more (out, closes, more_is, last_is) = (
      at_end,
      behind written messages new,
      out,
      all-steps new steps,
      closes,
      ap (λ more. written ++ more) more_is ∙ sym (append_assoc written new.out out),
      refl,
      last_is,
    )
    IsLeft-end last new steps (Err Memory) more none = inr (
      at_end,
      (
        messages,
        subst (λ written. IsAll relation finished (start_at start) written messages)
            (sym (appended-nothing written more none)) IsAll-now,
      ),
      (
        written ++ new.out,
        record {
          new = behind written messages new;
          steps = all-steps new steps;
          out_is = refl;
          messages_are = refl;
        },
      ),
    )
    IsLeft-end last new steps (Err (Ended reason)) more (fails, more_is) = inr (
      at_end,
      inr (
        behind written messages new,
        all-steps new steps,
        fails,
        ap (λ more. written ++ more) more_is,
        refl,
      ),
    )
    IsLeft-end last new steps (Err Write) more (out, either, begins) = inr (
      at_end,
      behind written messages new,
      out,
      all-steps new steps,
      either,
      subst (IsBeginningOf (written ++ more)) (sym (append_assoc written new.out out))
          (IsBeginningOf-after written more (new.out ++ out) begins),
      refl,
    )
    IsLeft-end last new steps (Err Read) more at = absurd at
