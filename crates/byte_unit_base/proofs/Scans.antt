-- A state machine that reads an input character by character, over any set of states: what it returns, the longest
-- viable prefix and the error after it.
--
-- A step or a run that is known to succeed, as `goes`, `t`, `u` or `next`, is the state after it, that it leads there,
-- and, if there is a third part, that the rest of the text leads on from there. What a field of `IsScanOf` gives, as
-- `r` or `g`, is a state or a rest of the input, and then what is known of it.
use Rattle.std.proofs.Common.{◌≡◌, ℕ, ◌⊎◌, inl, inr, List, [], ◌∷◌, ◌++◌, Option, Some, None, Result, Ok, Err}
use Rattle.std.proofs.Common.{option_and_then, sym, refl, ap, subst, ◌∙◌, append-nil, ⊎_elim, append_assoc, ◌↔◌, All}
use Rattle.std.proofs.lemmas.List.Elements.{All-nil, All-cons}
use Rattle.byte_unit_base.specs.Grammar.Version.{current}
use Rattle.byte_unit_base.specs.Errors.ViablePrefix.{ParserState}
use Rattle.byte_unit_base.specs.Errors.Fault.{Fault, fault_at, fault_at_end, IsFaultAfter, IsFirstFault}
use Rattle.byte_unit_base.specs.Reading.Ends.{IsFirst}
use Rattle.byte_unit_base.specs.Laws.Readers.{IsOneAnswer, CanBecome}
use Rattle.byte_unit_base.specs.Laws.Parsed.{GivesAnswer}
use Rattle.byte_unit_base.specs.Reading.Machines.{Scan, run, read}
use Rattle.byte_unit_base.proofs.Options.{none_or_some, some_passed}

-- the state after a text

-- from this state, there is a state after the text, and it has the property
pub record RunsTo {S : Type 0} (step : S → ℕ → Option S) (Holds : S → Type 0) (s : S) (text : List ℕ) : Type 0 where
  pub state : S
  pub run_is : run step s text ≡ Some state
  pub holds : Holds state

-- the steps of any state machine
module _ {S : Type 0} (step : S → ℕ → Option S) where
  -- if the first character has a step, the rest is read from the next state
  pub run_step : (s t : S) (c : ℕ) (xs : List ℕ) → step s c ≡ Some t → run step s (c ∷ xs) ≡ run step t xs
  run_step s t c xs e = ap (option_and_then (λ u. run step u xs)) e

  -- if there is a state after the first of two texts, the second is read from there
  pub run_through : (s t : S) (xs ys : List ℕ) → run step s xs ≡ Some t → run step s (xs ++ ys) ≡ run step t ys
  run_through s t [] ys e = let same : s ≡ t = cc in ap (λ u. run step u ys) same
  run_through s t (c ∷ xs) ys e =
      let u = some_passed (λ v. run step v xs) t (step s c) e in
      run_step s u.0 c (xs ++ ys) u.1 ∙ run_through u.0 t xs ys u.2

  -- there is a state after the beginning of a text, if there is one after the text
  pub run_before : (s u : S) (xs ys : List ℕ) → run step s (xs ++ ys) ≡ Some u → (t : S) × (run step s xs ≡ Some t)
  run_before s u [] ys e = (s, refl)
  run_before s u (c ∷ xs) ys e =
      let next = some_passed (λ v. run step v (xs ++ ys)) u (step s c) e in
      let t = run_before next.0 u xs ys next.2 in
      (t.0, run_step s next.0 c xs next.1 ∙ t.1)

  -- what holds of each character that has a step holds of each character of a text that is read
  pub run_all : (Has : ℕ → Type 0) → ((s t : S) (c : ℕ) → step s c ≡ Some t → Has c) → (text : List ℕ) (s t : S)
      → run step s text ≡ Some t → All Has text
  run_all Has each [] s t e = All-nil Has
  run_all Has each (c ∷ cs) s t e =
      let u = some_passed (λ v. run step v cs) t (step s c) e in
      All-cons Has c cs (each s u.0 c u.1) (run_all Has each cs u.0 t u.2)

  -- a text after a text
  pub runs_then : {P Q : S → Type 0} {s : S} {xs ys : List ℕ} → RunsTo step P s xs → ((t : S) → P t → RunsTo step Q t ys)
      → RunsTo step Q s (xs ++ ys)
  runs_then {s = s} {xs = xs} {ys = ys} first second =
      let next = second first.state first.holds in
      record {
        state = next.state;
        run_is = run_through s first.state xs ys first.run_is ∙ next.run_is;
        holds = next.holds;
      }

  -- no further character is read: the rest is empty, or its first character has no step
  abbrev pub CannotStep : S → List ℕ → Type 0
  CannotStep s rest = IsFirst (λ c. step s c ≡ None) rest

-- a property of the state and of the text that led to it, which each step keeps
module _ {S : Type 0} (step : S → ℕ → Option S) (Holds : S → List ℕ → Type 0)
    (keeps : (s t : S) (c : ℕ) (text : List ℕ) → step s c ≡ Some t → Holds s text → Holds t (text ++ c ∷ [])) where
  -- what holds at the start, and after each step if before it, holds at the state after a text
  pub run_keeps : (xs front : List ℕ) (s t : S) → run step s xs ≡ Some t → Holds s front → Holds t (front ++ xs)
  run_keeps [] front s t e p =
      let k : s ≡ t = cc in subst (λ u. Holds u (front ++ [])) k (subst (Holds s) (sym (append-nil front)) p)
  run_keeps (c ∷ xs) front s t e p =
      let u = some_passed (λ v. run step v xs) t (step s c) e in
      subst (Holds t) (append_assoc front (c ∷ []) xs)
      (run_keeps xs (front ++ c ∷ []) u.0 t u.2 (keeps s u.0 c front u.1 p))

-- a state machine with the results at its states
module _ {S Meaning : Type 0} (scan : Scan S Meaning) where
  -- if the next character has a step, the result is that of the rest from the next state
  pub read_some : (s t : S) (c : ℕ) (cs : List ℕ) → scan.step s c ≡ Some t → read scan s (c ∷ cs) ≡ read scan t cs
  read_some s t c cs e = rw (e, read) refl

  -- if the next character has no step, the result is the error at it, by the parser state
  pub read_none : (s : S) (c : ℕ) (cs : List ℕ) → scan.step s c ≡ None
      → read scan s (c ∷ cs) ≡ Err (fault_at current scan.flags (scan.parser_state s) c)
  read_none s c cs e = rw (e, read) refl

  -- the result for two texts is that for the second, from the state after the first
  pub read_through : (s t : S) (xs ys : List ℕ) → run scan.step s xs ≡ Some t → read scan s (xs ++ ys) ≡ read scan t ys
  read_through s t [] ys h = let e : s ≡ t = cc in ap (λ u. read scan u ys) e
  read_through s t (c ∷ xs) ys h =
      let u = some_passed (λ v. run scan.step v xs) t (scan.step s c) h in
      read_some s u.0 c (xs ++ ys) u.1 ∙ read_through u.0 t xs ys u.2

-- the result for an input that ends here: this error, or if there is none (`None`), a meaning of the input
abbrev pub EndsIn : {Meaning : Type 0} → (Meaning → Type 0) → Option Fault → Result Meaning Fault → Type 0
EndsIn Means (Some fault) answer = answer ≡ Err fault
EndsIn {Meaning} Means None answer = (meaning : Meaning) × Means meaning × (answer ≡ Ok meaning)

-- the result is a meaning of the input, or its error
abbrev pub IsAnswer : {Meaning : Type 0} → (Meaning → Type 0) → (Fault → Type 0) → Result Meaning Fault → Type 0
IsAnswer Means Fails (Ok meaning) = Means meaning
IsAnswer Means Fails (Err fault) = Fails fault

-- a result that is a meaning of the input, or its error, and that is each meaning and each error of it, is exactly these
pub gives_answer : {Meaning : Type 0} {Means : Meaning → Type 0} {Fails : Fault → Type 0} {r : Result Meaning Fault}
    → IsAnswer Means Fails r → ((meaning : Meaning) → Means meaning → r ≡ Ok meaning)
    → ((fault : Fault) → Fails fault → r ≡ Err fault) → GivesAnswer Meaning Means Fails r
gives_answer {Means = Means} {Fails = Fails} answer meaning_given fault_given = record {
  is_meaning = λ meaning. (λ e. subst (IsAnswer Means Fails) e answer, meaning_given meaning);
  is_fault = λ fault. (λ e. subst (IsAnswer Means Fails) e answer, fault_given fault);
}

-- if a result is exactly the meaning of an input, or its error, the input has exactly one of these
pub one_of_given : {Meaning : Type 0} {Means : Meaning → Type 0} {Fails : Fault → Type 0} {r : Result Meaning Fault}
    → GivesAnswer Meaning Means Fails r → IsOneAnswer Meaning Means Fails
one_of_given {Meaning} {Means} {Fails} {r} given = record {
  some = elim r as (λ x. r ≡ x → ((meaning : Meaning) × Means meaning) ⊎ ((fault : Fault) × Fails fault)) [
    | Ok meaning ↦ λ e. inl (meaning, (given.is_meaning meaning).0 e)
    | Err fault ↦ λ e. inr (fault, (given.is_fault fault).0 e)
  ] refl;
  one_meaning = λ m n h k. let e = sym ((given.is_meaning m).1 h) ∙ (given.is_meaning n).1 k in cc;
  one_fault = λ f g h k. let e = sym ((given.is_fault f).1 h) ∙ (given.is_fault g).1 k in cc;
  not_both = λ m f h k.
      let e = sym ((given.is_meaning m).1 h) ∙ (given.is_fault f).1 k in absurd (let z : ⊥ = cc in z);
}

-- no longer beginning of the input is a viable prefix
abbrev pub NoLongerFront : (ParserState → List ℕ → Type 0) → List ℕ → List ℕ → Type 0
NoLongerFront IsViable front rest =
    (farther : ParserState) (next others : List ℕ) → rest ≡ next ++ others → IsViable farther (front ++ next) → next ≡ []

-- after the text the state machine has a state, which has this parser state
abbrev pub IsScanned : {S Meaning : Type 0} → Scan S Meaning → ParserState → List ℕ → Type 0
IsScanned scan parser_state = RunsTo scan.step (λ s. scan.parser_state s ≡ parser_state) scan.start

-- the state machine accepts exactly the inputs that have a meaning, and its states are exactly those after the viable
-- prefixes. `Reached` is what is known of the text that led to a state. All the laws of the parsers rest on it
pub record IsScanOf {S Meaning : Type 0} (scan : Scan S Meaning) (Reached : S → List ℕ → Type 0)
    (IsViable : ParserState → List ℕ → Type 0)
    (Means : List ℕ → Meaning → Type 0) : Type 0 where
  -- the first state is that of no text, and each step adds its character to the text
  pub starts : Reached scan.start []
  pub steps : (s t : S) (c : ℕ) (text : List ℕ) → scan.step s c ≡ Some t → Reached s text → Reached t (text ++ c ∷ [])
  -- the text that led to a state is a viable prefix with its parser state, and there is a state after each such prefix
  pub front : (s : S) (text : List ℕ) → Reached s text → IsViable (scan.parser_state s) text
  pub front_read : (parser_state : ParserState) (text : List ℕ) → IsViable parser_state text
      → IsScanned scan parser_state text
  -- an input that ends in a state has the error of its parser state, or a meaning
  pub ends : (s : S) (text : List ℕ) → Reached s text
      → EndsIn (Means text) (fault_at_end (scan.parser_state s)) (scan.at_end s)
  -- the result for an input that has a meaning is this meaning
  pub meaning_read : (text : List ℕ) (meaning : Meaning) → Means text meaning
      → RunsTo scan.step (λ s. scan.at_end s ≡ Ok meaning) scan.start text
  -- each state can be completed: with some rest, the input has a meaning
  pub goes_on : (s : S) → (rest : List ℕ) × (meaning : Meaning) × (read scan s rest ≡ Ok meaning)

-- a state machine that accepts exactly the inputs which have a meaning, and whose states are those after viable
-- prefixes
module _ {S Meaning : Type 0} {scan : Scan S Meaning} {Reached : S → List ℕ → Type 0}
    {IsViable : ParserState → List ℕ → Type 0}
    {Means : List ℕ → Meaning → Type 0} (is : IsScanOf scan Reached IsViable Means) where
  -- what is known at a state holds of the text that led to it
  pub reached : (text : List ℕ) (s : S) → run scan.step scan.start text ≡ Some s → Reached s text
  reached text s e = run_keeps scan.step Reached is.steps text [] scan.start s e is.starts

  -- the result is a meaning of the text, or its error
  abbrev Answers : List ℕ → Result Meaning Fault → Type 0
  Answers text = IsAnswer (Means text) (IsFirstFault IsViable current scan.flags text)

  -- if the state machine stops after a text, no longer beginning of the input is a viable prefix
  pub no_longer_front : (s : S) (front rest : List ℕ) → run scan.step scan.start front ≡ Some s
      → CannotStep scan.step s rest
      → NoLongerFront IsViable front rest
  no_longer_front s front rest e stops farther [] others r f = refl
  no_longer_front s front [] e stops farther (x ∷ xs) others r f = absurd (let k : ⊥ = cc in k)
  no_longer_front s front (c ∷ cs) e stops farther (x ∷ xs) others r f =
      let g = is.front_read farther (front ++ x ∷ xs) f in
      let through = run_through scan.step scan.start s front (x ∷ xs) e in
      absurd (let k : ⊥ = cc (g.run_is, through) in k)

  -- the error where the state machine stops is the error of the input
  abbrev pub first_fault : (s : S) (text front rest : List ℕ) (fault : Fault) → text ≡ front ++ rest
      → run scan.step scan.start front ≡ Some s
      → CannotStep scan.step s rest → IsFaultAfter current scan.flags (scan.parser_state s) rest fault
      → IsFirstFault IsViable current scan.flags text fault
  first_fault s text front rest fault t e stops h = record {
    parser_state = scan.parser_state s;
    front = front;
    rest = rest;
    longest = record {
      text_is = t;
      is_front = is.front s front (reached front s e);
      longest = no_longer_front s front rest e stops;
    };
    fault_is = h;
  }

  -- the result at the end of an input is a meaning of it, or its error, by the error of the parser state
  answer_at_end : (s : S) (text front : List ℕ) → text ≡ front ++ [] → run scan.step scan.start front ≡ Some s
      → (o : Option Fault) → fault_at_end (scan.parser_state s) ≡ o → EndsIn (Means text) o (scan.at_end s)
      → Answers text (scan.at_end s)
  answer_at_end s text front t e None at ends = subst (Answers text) (sym ends.2) ends.1
  answer_at_end s text front t e (Some fault) at ends =
      subst (Answers text) (sym ends) (first_fault s text front [] fault t e tt at)

  -- from the state after a beginning of the input, the result for the rest is a meaning of the input, or its error
  answer_from : (s : S) (text front rest : List ℕ) → text ≡ front ++ rest → run scan.step scan.start front ≡ Some s
      → Answers text (read scan s rest)
  answer_from s text front [] t e =
      let whole : front ≡ text = sym (t ∙ append-nil front) in
      answer_at_end s text front t e (fault_at_end (scan.parser_state s)) refl
      (is.ends s text (subst (Reached s) whole (reached front s e)))
  answer_from s text front (c ∷ cs) t e =
      ⊎_elim
      (λ stops. subst (Answers text) (sym (read_none scan s c cs stops))
      (first_fault s text front (c ∷ cs) _ t e stops refl))
      (λ goes. subst (Answers text) (sym (read_some scan s goes.0 c cs goes.1))
      (answer_from goes.0 text (front ++ c ∷ []) cs (t ∙ sym (append_assoc front (c ∷ []) cs))
      (run_through scan.step scan.start s front (c ∷ []) e ∙ run_step scan.step s goes.0 c [] goes.1)))
      (none_or_some (scan.step s c))

  -- the result for an input is its meaning or its error
  pub reads_meaning_or_fault : (text : List ℕ)
      → IsAnswer (Means text) (IsFirstFault IsViable current scan.flags text) (read scan scan.start text)
  reads_meaning_or_fault text = answer_from scan.start text [] text refl refl

  -- the result for an input that has a meaning is this meaning
  pub reads_meaning : (text : List ℕ) (meaning : Meaning) → Means text meaning → read scan scan.start text ≡ Ok meaning
  reads_meaning text meaning h =
      let r = is.meaning_read text meaning h in
      ap (read scan scan.start) (sym (append-nil text)) ∙ (read_through scan scan.start r.state text [] r.run_is ∙ r.holds)

  -- after the longest viable prefix, the result for the rest is the error of its parser state
  fault_of_rest : (s : S) (front rest : List ℕ) (fault : Fault) → Reached s front → NoLongerFront IsViable front rest
      → IsFaultAfter current scan.flags (scan.parser_state s) rest fault → read scan s rest ≡ Err fault
  fault_of_rest s front [] fault r longest h =
      subst (λ o. EndsIn (Means front) o (scan.at_end s)) h (is.ends s front r)
  fault_of_rest s front (c ∷ cs) fault r longest h =
      let none = ⊎_elim (λ e. e)
      (λ t. absurd (let farther = longest _ (c ∷ []) cs refl (is.front t.0 _ (is.steps s t.0 c front t.1 r)) in
      let k : ⊥ = cc in k))
      (none_or_some (scan.step s c)) in
      read_none scan s c cs none ∙ ap Err (sym h)

  -- the result for an input that has an error is this error
  pub reads_fault : (text : List ℕ) (fault : Fault) → IsFirstFault IsViable current scan.flags text fault
      → read scan scan.start text ≡ Err fault
  reads_fault text fault h =
      let r = is.front_read h.parser_state h.front h.longest.is_front in
      let rest = fault_of_rest r.state h.front h.rest fault (reached h.front r.state r.run_is) h.longest.longest
      (rw (← r.holds) at h.fault_is) in
      ap (read scan scan.start) h.longest.text_is
      ∙ (read_through scan scan.start r.state h.front h.rest r.run_is ∙ rest)

  -- the result for an input is exactly its meaning, or exactly its error
  pub reads : (text : List ℕ)
      → GivesAnswer Meaning (Means text) (IsFirstFault IsViable current scan.flags text) (read scan scan.start text)
  reads text = gives_answer (reads_meaning_or_fault text) (reads_meaning text) (reads_fault text)

  -- each input has exactly one meaning, or exactly one error, and not both
  pub one_answer : (text : List ℕ) → IsOneAnswer Meaning (Means text) (IsFirstFault IsViable current scan.flags text)
  one_answer text = one_of_given (reads text)

  -- the viable prefixes are exactly the beginnings of the inputs that have a meaning
  pub fronts_are_beginnings : (text : List ℕ)
      → ((parser_state : ParserState) × IsViable parser_state text) ↔ CanBecome Meaning Means text
  fronts_are_beginnings text = (
    λ f.
        let r = is.front_read f.0 text f.1 in
        let g = is.goes_on r.state in
        let e = read_through scan scan.start r.state text g.0 r.run_is ∙ g.2 in
        (g.0, g.1, ((reads (text ++ g.0)).is_meaning g.1).0 e),
    λ b.
        let r = is.meaning_read (text ++ b.0) b.1 b.2 in
        let t = run_before scan.step scan.start r.state text b.0 r.run_is in
        (scan.parser_state t.0, is.front t.0 text (reached text t.0 t.1)),
  )
