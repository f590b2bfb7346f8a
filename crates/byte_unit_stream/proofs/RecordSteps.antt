-- Lemmas: steps one after another.
use Rattle.std.proofs.Common.{◌≡◌, ℕ, ◌+◌, List, [], ◌∷◌, ◌++◌, drop, take, Result, Ok, Err, OnOk, refl, sym, ap, subst, ◌∙◌}
use Rattle.std.proofs.Common.{append_assoc, append-nil}
use Rattle.std.specs.Prelude.{⊤}
use Rattle.byte_unit_stream.specs.Chunks.{ended_records}
use Rattle.byte_unit_stream.specs.RecordSteps.{Adds, AreConverted, AreSteps, IsSomeFirst, IsStep, Progress, Relation}
use Rattle.byte_unit_stream.specs.RecordSteps.{start_at}
use Rattle.byte_unit_stream.specs.declared.run.RunError.{RunError}
use Rattle.byte_unit_stream.specs.declared.run.RunError.TheVariants.{Memory, Read, Write, Ended}
use Rattle.byte_unit_stream.proofs.Beginnings.{IsBeginningOf-after}
use Rattle.byte_unit_stream.proofs.Ends.{EndsAt, ended_records-EndsAt}

-- the same progress, after other output and other messages
abbrev pub behind : {S : Type 0} → List ℕ → List ℕ → Progress S → Progress S
behind out messages now = record { state = now.state; out = out ++ now.out; messages = messages ++ now.messages }

-- if nothing waits, the progress is that of a run that is in its state and has not begun
pub start_at-state : {S : Type 0} (now : Progress S) (state : S) → now ≡ start_at state → now ≡ start_at now.state
start_at-state now state is = is ∙ ap (λ state. start_at state) (sym (ap (λ now. now.state) is))

-- whatever the conversion of the other records returns, that of all records does
abbrev pub Continues : {S E : Type 0} → Relation S E → List (List ℕ) → Progress S → List (List ℕ) → Progress S → Type 0
Continues {S} {E} relation all start others now =
    (new : Progress S) (result : Result ⊤ (RunError E)) → AreConverted relation others now new result
    → AreConverted relation all start new result

module _ {S E : Type 0} (relation : Relation S E) where
  -- steps do the same, whatever output and messages came before
  AreSteps-behind : (front told : List ℕ) (records : List (List ℕ)) (old new : Progress S)
      → AreSteps relation records old new → AreSteps relation records (behind front told old) (behind front told new)
  AreSteps-behind front told [] old new same = ap (behind front told) same
  AreSteps-behind front told (bytes ∷ records) old new (between, adds, rest) = (
    behind front told between,
    record {
      out = adds.out;
      messages = adds.messages;
      step = adds.step;
      out_is = ap (λ out. front ++ out) adds.out_is ∙ sym (append_assoc front old.out adds.out);
      messages_are = ap (λ messages. told ++ messages) adds.messages_are
          ∙ sym (append_assoc told old.messages adds.messages);
    },
    AreSteps-behind front told records between new rest,
  )

  -- steps over two lists of records, one after the other, are steps over the lists joined
  AreSteps-then : (front told : List ℕ) (before records : List (List ℕ)) (old between new : Progress S)
      → AreSteps relation before old (behind front told between) → AreSteps relation records between new
      → AreSteps relation (before ++ records) old (behind front told new)
  AreSteps-then front told [] records old between new same steps =
      subst (λ at. AreSteps relation records at (behind front told new)) same
      (AreSteps-behind front told records between new steps)
  AreSteps-then front told (bytes ∷ before) records old between new (next, adds, rest) steps =
      (next, adds, AreSteps-then front told before records next between new rest steps)

  -- if a call converts the one record of a list, it converts the list
  pub AreSteps-one : (records : List (List ℕ)) (bytes same : List ℕ) (old new : Progress S) (result : Result ⊤ (RunError E))
      → IsStep relation same old new result → same ≡ bytes → records ≡ bytes ∷ []
      → OnOk result (AreSteps relation records old new)
  AreSteps-one records bytes same old new (Ok _) adds same_is records_are =
      subst (λ records. AreSteps relation records old new) (sym records_are)
      (new, subst (λ bytes. Adds relation bytes old new) same_is adds, refl)
  AreSteps-one records bytes same old new (Err _) at same_is records_are = tt

  -- if a call that converts a record fails, the loop over the records from it on fails by its error
  pub AreConverted-failed : (bytes : List ℕ) (after : List (List ℕ)) (old new : Progress S) (error : RunError E)
      → IsStep relation bytes old new (Err error) → AreConverted relation (bytes ∷ after) old new (Err error)
  AreConverted-failed bytes after old new Memory (out_is, messages_are) = record {
    first = [];
    is_beginning = (bytes ∷ after, refl);
    all = record { new = old; steps = refl; out_is = out_is; messages_are = messages_are };
  }
  AreConverted-failed bytes after old new (Ended reason) (own, ends, out_is, messages_are) = record {
    before = [];
    bytes = bytes;
    after = after;
    new = old;
    own = own;
    records_are = refl;
    steps = refl;
    ends = ends;
    out_is = out_is;
    messages_are = messages_are;
  }
  AreConverted-failed bytes after old new Read at = absurd at
  AreConverted-failed bytes after old new Write at = absurd at

  -- records that follow others are converted after them, behind the output and the messages so far
  pub AreConverted-then : (front told : List ℕ) (before records : List (List ℕ)) (old between new : Progress S)
      (result : Result ⊤ (RunError E)) → AreSteps relation before old (behind front told between)
      → AreConverted relation records between new result
      → AreConverted relation (before ++ records) old (behind front told new) result
  AreConverted-then front told before records old between new (Ok _) steps at =
      AreSteps-then front told before records old between new steps at
  AreConverted-then front told before records old between new (Err Memory) steps at = record {
    first = before ++ at.first;
    is_beginning = IsBeginningOf-after before at.first records at.is_beginning;
    all = record {
      new = behind front told at.all.new;
      steps = AreSteps-then front told before at.first old between at.all.new steps at.all.steps;
      out_is = ap (λ out. front ++ out) at.all.out_is;
      messages_are = ap (λ messages. told ++ messages) at.all.messages_are;
    };
  }
  AreConverted-then front told before records old between new (Err (Ended reason)) steps at = record {
    before = before ++ at.before;
    bytes = at.bytes;
    after = at.after;
    new = behind front told at.new;
    own = at.own;
    records_are = ap (λ more. before ++ more) at.records_are
        ∙ sym (append_assoc before at.before (at.bytes ∷ at.after));
    steps = AreSteps-then front told before at.before old between at.new steps at.steps;
    ends = at.ends;
    out_is = ap (λ out. front ++ out) at.out_is;
    messages_are = ap (λ messages. told ++ messages) at.messages_are
        ∙ sym (append_assoc told at.new.messages at.own);
  }
  AreConverted-then front told before records old between new (Err Read) steps at = absurd at
  AreConverted-then front told before records old between new (Err Write) steps at = absurd at

  -- once the first record of some bytes is converted, the others are left
  pub Continues-next : {end place : ℕ} {next_rest next_part : List ℕ} {now next : Progress S} (part rest : List ℕ)
      → EndsAt end rest place → Adds relation (part ++ take place rest) now next → next_part ≡ []
      → next_rest ≡ drop (place + 1) rest
      → Continues relation (ended_records end part rest) now (ended_records end next_part next_rest) next
  Continues-next {end} {place} {next_rest} {next_part} {now} {next} part rest ends adds part_is rest_is new result at =
      let bytes = part ++ take place rest in
      rw (ended_records-EndsAt end part rest place ends) (AreConverted-then [] [] (bytes ∷ [])
      (ended_records end [] (drop (place + 1) rest)) now next new result (next, adds, refl) (rw (part_is, rest_is) at at))

  -- whatever a call returns that converts records, its output is that of some first ones
  pub IsSomeFirst-converted : (records : List (List ℕ)) (old new : Progress S) (result : Result ⊤ (RunError E))
      → AreConverted relation records old new result
      → (messages : List ℕ) × IsSomeFirst relation records old new.out messages
  IsSomeFirst-converted records old new (Ok _) steps = (
    new.messages,
    record {
      first = records;
      is_beginning = ([], sym (append-nil records));
      all = record { new = new; steps = steps; out_is = refl; messages_are = refl };
    },
  )
  IsSomeFirst-converted records old new (Err Memory) at = (new.messages, at)
  IsSomeFirst-converted records old new (Err (Ended reason)) at = (
    at.new.messages,
    record {
      first = at.before;
      is_beginning = (at.bytes ∷ at.after, at.records_are);
      all = record { new = at.new; steps = at.steps; out_is = at.out_is; messages_are = refl };
    },
  )
  IsSomeFirst-converted records old new (Err Read) at = absurd at
  IsSomeFirst-converted records old new (Err Write) at = absurd at
