-- Lemmas: what is appended for fields and for a record.
use Rattle.std.proofs.Common.{◌≡◌, ℕ, suc, ◌-◌, List, [], ◌∷◌, ◌++◌, Result, IsErrAnd}
use Rattle.std.specs.Prelude.{⊤}
use Rattle.std.proofs.Common.{refl, sym, ap, subst, ◌∙◌, arith, append_assoc, append-nil, inl}
use Rattle.byte_unit_command.specs.CallEnds.{AddsFields, Appends, Ends, IsEarly, Keeps}
use Rattle.byte_unit_command.specs.Converted.{converting}
use Rattle.byte_unit_command.specs.Field.{Found}
use Rattle.byte_unit_command.specs.Fields.{between_of, fields_of}
use Rattle.byte_unit_command.specs.Output.{IsFieldOutput, IsRecord, Output, Passes, copied, messages_in, other}
use Rattle.byte_unit_command.specs.Output.{together}
use Rattle.byte_unit_command.specs.Ranges.{IsChosenField}
use Rattle.byte_unit_command.specs.State.{RunState, next_context}
use Rattle.byte_unit_command.specs.Sums.{Counts}
use Rattle.byte_unit_command.specs.declared.error.EndReason.{EndReason}
use Rattle.byte_unit_command.proofs.Results.{error-passed}
use Rattle.byte_unit_command.proofs.Tallies.{Counts-append, Counts-none}
use Rattle.byte_unit_stream.specs.RecordSteps.{Adds, Progress}
use Rattle.byte_unit_stream.specs.declared.run.RunError.{RunError}
use Rattle.byte_unit_stream.specs.declared.run.RunError.TheVariants.{Memory}

-- nothing is appended
pub Appends-none : (old : Progress RunState) → Appends (copied []) old old
Appends-none old = record {
  state_is = refl;
  counts = Counts-none old.state.context.options old.state.tally;
  out_is = sym (append-nil old.out);
  messages_are = sym (append-nil old.messages);
}

-- one output is appended after another
pub Appends-then : {first second : Output} {old between new : Progress RunState} → Appends first old between
    → Appends second between new → Appends (record {
      text = first.text ++ second.text;
      found = first.found ++ second.found;
      messages = first.messages ++ second.messages;
    }) old new
Appends-then {first} {second} {old} {between} {new} begun ended = record {
  state_is = ended.state_is ∙ ap (λ (state : RunState). record state { tally = new.state.tally }) begun.state_is;
  counts = Counts-append old.state.context.options old.state.tally between.state.tally new.state.tally first.found
      second.found begun.counts (subst (λ (state : RunState). Counts state.context.options between.state.tally second.found
      new.state.tally) begun.state_is ended.counts);
  out_is = ended.out_is ∙ ap (λ out. out ++ second.text) begun.out_is ∙ append_assoc old.out first.text second.text;
  messages_are = ended.messages_are ∙ ap (λ messages. messages ++ second.messages) begun.messages_are
      ∙ append_assoc old.messages first.messages second.messages;
}

-- more bytes are appended after an output
pub Appends-more : {first : Output} {old between : Progress RunState} → Appends first old between
    → (more out : List ℕ) → out ≡ between.out ++ more
    → Appends (record first { text = first.text ++ more }) old (record between { out = out })
Appends-more {first} {old} {between} begun more out out_is = record {
  state_is = begun.state_is;
  counts = begun.counts;
  out_is = out_is ∙ ap (λ out. out ++ more) begun.out_is ∙ append_assoc old.out first.text more;
  messages_are = begun.messages_are;
}

-- one field gives its own output
together-one : (between : List ℕ) (output : Output) → together between (output ∷ []) ≡ output
together-one between output =
    let Of : List Found → List ℕ → Output = λ found messages. record
    { text = output.text; found = found; messages = messages } in
    ap (λ found. Of found (messages_in (output ∷ []))) (append-nil output.found)
    ∙ ap (Of output.found) (append-nil output.messages)

-- one field was added
pub AddsFields-one : (number : ℕ) (field : List ℕ) (old new : Progress RunState) (output : Output)
    → IsFieldOutput old.state.context number field output → Passes old.state.context.options output.found
    → Appends output old new → AddsFields number (field ∷ []) old new
AddsFields-one number field old new output is passes appends =
    let options = old.state.context.options in
    let one = sym (together-one (between_of options) output) in record {
      outputs = output ∷ [];
      are_fields = (is, tt);
      passes = subst (λ (output : Output). Passes options output.found) one passes;
      appends = subst (λ output. Appends output old new) one appends;
    }

-- a field that is not chosen was copied
pub AddsFields-other : (number : ℕ) (field : List ℕ) (old : Progress RunState) (out : List ℕ)
    → ¬ IsChosenField old.state.context.options.fields.now number → out ≡ old.out ++ field
    → AddsFields number (field ∷ []) old (record old { out = out })
AddsFields-other number field old out not_chosen out_is =
    AddsFields-one number field old (record old { out = out }) (copied field) (other not_chosen refl) (λ mode. refl)
    (Appends-more (Appends-none old) field out out_is)

-- the run at the next record
abbrev pub at_next : Progress RunState → Progress RunState
at_next old = record old { state = record old.state { context = next_context old.state.context } }

-- the same, with one header record less to come
abbrev pub started : Progress RunState → Progress RunState
started old = record old {
  state = record old.state { context = next_context old.state.context; header = old.state.header - 1 };
}

-- one record is converted: a header record or another one; `mark` is its end byte
module _ (bytes : List ℕ) (old between : Progress RunState) (out : List ℕ)
    (out_is : out ≡ between.out ++ old.state.context.options.output_end ∷ []) where
  -- a record is converted if what it gives was appended, and then its end byte
  Adds-record : (output : Output) → IsRecord (next_context old.state.context) old.state.header bytes output
      → Passes old.state.context.options output.found → Appends output (started old) between
      → Adds converting bytes old (record between { out = out })
  Adds-record output is_record passes appends =
      let mark = old.state.context.options.output_end ∷ [] in record {
        out = output.text ++ mark;
        messages = output.messages;
        step = record {
          output = output;
          is_record = is_record;
          passes = passes;
          counts = appends.counts;
          out_is = refl;
          messages_are = refl;
          new_is = appends.state_is;
        };
        out_is = (Appends-more appends mark out out_is).out_is;
        messages_are = appends.messages_are;
      }

  -- a header record is converted if it was copied
  pub Adds-header : (left : ℕ) → old.state.header ≡ suc left → Appends (copied bytes) (started old) between
      → Adds converting bytes old (record between { out = out })
  Adds-header left some = Adds-record (copied bytes)
      (subst (λ header. IsRecord (next_context old.state.context) header bytes (copied bytes)) (sym some) refl)
      (λ mode. refl)

  -- any other record is converted if its fields were added
  pub Adds-fields : old.state.header ≡ 0
      → AddsFields 1 (fields_of old.state.context.options bytes) (at_next old) between
      → Adds converting bytes old (record between { out = out })
  Adds-fields none adds =
      let whole = together (between_of old.state.context.options) adds.outputs in
      let left : old.state.header ≡ old.state.header - 1 = omega (arith, none) in
      let At : ℕ → Progress RunState = λ header. record old
      { state = record old.state { context = next_context old.state.context; header = header } } in
      Adds-record whole (subst (λ header. IsRecord (next_context old.state.context) header bytes whole) (sym none)
      (adds.outputs, adds.are_fields, refl)) adds.passes
      (subst (λ header. Appends whole (At header) between) left adds.appends)

-- a call ends early that is out of memory
pub memory-passed : (number : ℕ) (fields : List (List ℕ)) (old new : Progress RunState)
    (result : Result ⊤ (RunError EndReason)) → IsErrAnd result (λ error. error ≡ Memory) → Keeps old new
    → Ends number fields old new result
memory-passed number fields old new result passed keeps =
    error-passed (λ _. AddsFields number fields old new) (IsEarly number fields old new) result Memory passed
    (record { keeps = keeps; why = inl refl })
