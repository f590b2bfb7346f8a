-- A run converts the records of its input, one after another: each is a step. What a run leaves is said here once, for
-- any steps.
use Rattle.std.specs.Prelude.{◌≡◌, ⊤, ℕ, ◌≤◌, ◌<◌, List, [], ◌∷◌, ◌++◌, length, slice_index, Result, Ok, Err}
use Rattle.byte_unit_stream.specs.Beginnings.{IsBeginningOf}
use Rattle.byte_unit_stream.specs.declared.run.RunError.{RunError}
use Rattle.byte_unit_stream.specs.declared.run.RunError.TheVariants.{Memory, Ended}

-- what steps do, over the states `S` of a run and the reasons `E` for which it ends early
pub record Relation (S E : Type 0) : Type 1 where
  -- a record is converted: the state before, its bytes, the state after, the output, the messages
  pub step : S → List ℕ → S → List ℕ → List ℕ → Type 0
  -- a record ends the run: the state before, its bytes, the reason, the messages
  pub ends : S → List ℕ → E → List ℕ → Type 0
  -- what is written after the last record: the state, the output
  pub closes : S → List ℕ → Type 0
  -- nothing can be written there: the state, the reason
  pub fails : S → E → Type 0

-- how far a run has come: its state, its output and its messages so far
pub record Progress (S : Type 0) : Type 0 where
  pub state : S
  pub out : List ℕ
  pub messages : List ℕ

-- a run in this state, without output or messages
abbrev pub start_at : {S : Type 0} → S → Progress S
start_at state = record { state = state; out = []; messages = [] }

-- the first `len` bytes are a record: its end byte comes after it, or the end of the bytes
pub record IsRecordAt (end : ℕ) (bytes : List ℕ) (len : ℕ) : Type 0 where
  pub within : len ≤ length bytes
  pub after : len < length bytes → slice_index bytes len ≡ end

-- the record was converted
pub record Adds {S E : Type 0} (relation : Relation S E) (bytes : List ℕ) (old new : Progress S) : Type 0 where
  pub out : List ℕ
  pub messages : List ℕ
  pub step : relation.step old.state bytes new.state out messages
  pub out_is : new.out ≡ old.out ++ out
  pub messages_are : new.messages ≡ old.messages ++ messages

-- these records were converted, one after another
abbrev pub AreSteps : {S E : Type 0} → Relation S E → List (List ℕ) → Progress S → Progress S → Type 0
AreSteps relation [] old new = new ≡ old
AreSteps {S} relation (bytes ∷ records) old new =
    (between : Progress S) × Adds relation bytes old between × AreSteps relation records between new

-- all these records were converted, and this is the output and these are the messages
pub record IsAll {S E : Type 0} (relation : Relation S E) (records : List (List ℕ)) (old : Progress S)
    (out messages : List ℕ) : Type 0 where
  pub new : Progress S
  pub steps : AreSteps relation records old new
  pub out_is : out ≡ new.out
  pub messages_are : messages ≡ new.messages

-- the same of the first of these records, for some number of them
pub record IsSomeFirst {S E : Type 0} (relation : Relation S E) (records : List (List ℕ)) (old : Progress S)
    (out messages : List ℕ) : Type 0 where
  pub first : List (List ℕ)
  pub is_beginning : IsBeginningOf first records
  pub all : IsAll relation first old out messages

-- the same of the records before one that ends the run for this reason, whose own messages follow
pub record IsEndedEarly {S E : Type 0} (relation : Relation S E) (records : List (List ℕ)) (old : Progress S)
    (reason : E) (out messages : List ℕ) : Type 0 where
  pub before : List (List ℕ)
  pub bytes : List ℕ
  pub after : List (List ℕ)
  pub new : Progress S
  pub own : List ℕ
  pub records_are : records ≡ before ++ bytes ∷ after
  pub steps : AreSteps relation before old new
  pub ends : relation.ends new.state bytes reason own
  pub out_is : out ≡ new.out
  pub messages_are : messages ≡ new.messages ++ own

-- what a call leaves that converts one record
abbrev pub IsStep : {S E : Type 0} → Relation S E → List ℕ → Progress S → Progress S → Result ⊤ (RunError E) → Type 0
IsStep relation bytes old new (Ok _) = Adds relation bytes old new
IsStep relation bytes old new (Err Memory) = (new.out ≡ old.out) × (new.messages ≡ old.messages)
IsStep relation bytes old new (Err (Ended reason)) =
    (own : List ℕ) × relation.ends old.state bytes reason own × (new.out ≡ old.out)
    × (new.messages ≡ old.messages ++ own)
IsStep relation bytes old new (Err _) = ⊥

-- what a call leaves that appends what follows the last record
abbrev pub IsClosed : {S E : Type 0} → Relation S E → Progress S → Progress S → Result ⊤ (RunError E) → Type 0
IsClosed relation old new (Ok _) =
    (last : List ℕ) × relation.closes old.state last × (new.out ≡ old.out ++ last) × (new.state ≡ old.state)
IsClosed relation old new (Err Memory) = ⊤
IsClosed relation old new (Err (Ended reason)) = relation.fails old.state reason × (new.out ≡ old.out)
IsClosed relation old new (Err _) = ⊥

-- what a call leaves that converts these records
abbrev pub AreConverted : {S E : Type 0} → Relation S E → List (List ℕ) → Progress S → Progress S
    → Result ⊤ (RunError E) → Type 0
AreConverted relation records old new (Ok _) = AreSteps relation records old new
AreConverted relation records old new (Err Memory) = IsSomeFirst relation records old new.out new.messages
AreConverted relation records old new (Err (Ended reason)) =
    IsEndedEarly relation records old reason new.out new.messages
AreConverted relation records old new (Err _) = ⊥
