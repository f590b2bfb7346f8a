-- Lemmas: the loop over the fields of a record.
use Rattle.std.proofs.Common.{◌≡◌, ◌≤◌, ℕ, ◌+◌, List, [], ◌∷◌, ◌++◌, length, Some, refl, sym, ap, subst, ◌∙◌}
use Rattle.std.proofs.Common.{arith, append_assoc, append-nil, inl, inr, true, false, cond, not, ◌&&◌, take, drop, Option}
use Rattle.std.proofs.Common.{length-drop, length-append, map}
use Rattle.std.proofs.lemmas.List.Concat.{flat_map-append}
use Rattle.std.proofs.lemmas.List.Splits.{join_with_byte-slice_split}
use Rattle.std.specs.List.{flat_map, join_with_byte, onto_first}
use Rattle.byte_unit_command.specs.Field.{Found}
use Rattle.byte_unit_command.specs.Fields.{EndsFirst, begins_blank, between_by, between_of, blank_fields}
use Rattle.byte_unit_command.specs.Fields.{fields_by, fields_of, is_blank}
use Rattle.byte_unit_command.specs.Output.{AreFieldOutputs, IsFieldOutput, Output, Passes, copied, found_in, joined}
use Rattle.byte_unit_command.specs.Output.{messages_in}
use Rattle.byte_unit_command.specs.Output.{other, together}
use Rattle.byte_unit_command.specs.Sums.{has_rejected}
use Rattle.byte_unit_command.specs.CallEnds.{AddsFields, Aborts, Appends, IsEarly}
use Rattle.byte_unit_command.specs.Ranges.{IsChosenField}
use Rattle.byte_unit_command.specs.State.{Context, RunState}
use Rattle.byte_unit_stream.specs.Records.{split_by}
use Rattle.byte_unit_stream.specs.RecordSteps.{Progress}
use Rattle.byte_unit_command.specs.declared.error.EndReason.{EndReason}
use Rattle.byte_unit_command.specs.declared.options.Options.{Options}
use Rattle.byte_unit_command.specs.declared.options.Separator.{Separator}
use Rattle.byte_unit_command.specs.declared.options.Separator.TheVariants.{Byte, Blanks}
use Rattle.byte_unit_stream.specs.declared.run.RunError.{RunError}
use Rattle.byte_unit_stream.proofs.Beginnings.{IsBeginningOf-trans}
use Rattle.byte_unit_stream.proofs.ChunkRecords.{split_by_IsSplit, IsSplit}
use Rattle.byte_unit_command.proofs.Converting.{Appends-more, Appends-none, Appends-then}
use Rattle.byte_unit_command.proofs.Tallies.{Passes-append}

-- what two lists of fields give
AreFieldOutputs-append : (context : Context) (number : ℕ) (front back : List (List ℕ)) (begun ended : List Output)
    → AreFieldOutputs context number front begun → AreFieldOutputs context (number + length front) back ended
    → AreFieldOutputs context number (front ++ back) (begun ++ ended)
AreFieldOutputs-append context number [] back [] ended _ are =
    let none : number + length {A = List ℕ} [] ≡ number = omega arith in
    subst (λ number. AreFieldOutputs context number back ended) none are
AreFieldOutputs-append context number [] back (output ∷ begun) ended never are = absurd never
AreFieldOutputs-append context number (field ∷ front) back [] ended never are = absurd never
AreFieldOutputs-append context number (field ∷ front) back (output ∷ begun) ended (is, begin) are =
    let after : number + length (field ∷ front) ≡ number + 1 + length front = omega arith in (
      is,
      AreFieldOutputs-append context (number + 1) front back begun ended begin
          (subst (λ number. AreFieldOutputs context number back ended) after are),
    )

-- an output by its parts
abbrev made : List ℕ → List Found → List ℕ → Output
made text found messages = record { text = text; found = found; messages = messages }

-- equal parts make equal outputs
made-same : {text same_text : List ℕ} {found same_found : List Found} {messages same_messages : List ℕ}
    → text ≡ same_text → same_found ≡ found → same_messages ≡ messages
    → made text found messages ≡ made same_text same_found same_messages
made-same {text} {same_text} {found} {same_found} {messages} {same_messages} text_is found_is messages_are =
    ap (λ text. made text found messages) text_is ∙ ap (λ found. made same_text found messages) (sym found_is)
    ∙ ap (made same_text same_found) (sym messages_are)

-- what fields give together, with the bytes between two fields after each of them
abbrev followed : List ℕ → List Output → Output
followed between outputs = record (together between outputs) {
  text = flat_map (λ output. output.text ++ between) outputs;
}

-- the texts of some fields and of one more at least, joined
joined-append : (between : List ℕ) (begun : List Output) (next : Output) (others : List Output)
    → flat_map (λ output. output.text ++ between) begun ++ (together between (next ∷ others)).text
    ≡ (together between (begun ++ next ∷ others)).text
joined-append between [] next others = refl
joined-append between (output ∷ []) next others =
    ap (λ text. text ++ (together between (next ∷ others)).text) (append-nil (output.text ++ between))
joined-append between (output ∷ second ∷ begun) next others =
    append_assoc (output.text ++ between) (flat_map (λ (output : Output). output.text ++ between) (second ∷ begun))
    (together between (next ∷ others)).text
    ∙ ap (λ more. output.text ++ between ++ more) (joined-append between (second ∷ begun) next others)

-- what some fields and then others give together, of which there is one at least
together-append : (context : Context) (number : ℕ) (between : List ℕ) (begun : List Output) (fields : List (List ℕ))
    (ended : List Output) → IsSplit fields → AreFieldOutputs context number fields ended
    → made ((followed between begun).text ++ (together between ended).text) (found_in begun ++ found_in ended)
    (messages_in begun ++ messages_in ended) ≡ together between (begun ++ ended)
together-append context number between begun fields [] (own, others, is) are =
    absurd (subst (λ fields. AreFieldOutputs context number fields []) is are)
together-append context number between begun fields (next ∷ ended) split are =
    made-same (joined-append between begun next ended)
    (flat_map-append (λ (output : Output). output.found) begun (next ∷ ended))
    (flat_map-append (λ (output : Output). output.messages) begun (next ∷ ended))

-- some fields and then one more, each followed
followed-one : (context : Context) (number : ℕ) (between : List ℕ) (begun : List Output) (field : List ℕ)
    (ended : List Output) → AreFieldOutputs context number (field ∷ []) ended
    → made ((followed between begun).text ++ (together between ended).text ++ between)
    (found_in begun ++ found_in ended) (messages_in begun ++ messages_in ended) ≡ followed between (begun ++ ended)
followed-one context number between begun field [] never = absurd never
followed-one context number between begun field (output ∷ second ∷ ended) (is, never) = absurd never
followed-one context number between begun field (output ∷ []) are =
    let Text = λ (output : Output). output.text ++ between in
    let text : flat_map Text begun ++ output.text ++ between ≡ flat_map Text (begun ++ output ∷ []) =
    append_assoc (flat_map Text begun) output.text between
    ∙ ap (λ more. flat_map Text begun ++ more) (sym (append-nil (Text output)))
    ∙ sym (flat_map-append Text begun (output ∷ [])) in
    made-same text (flat_map-append (λ (output : Output). output.found) begun (output ∷ []))
    (flat_map-append (λ (output : Output). output.messages) begun (output ∷ []))

-- fields none of which is chosen are copied
AreFieldOutputs-copied : (context : Context) (fields : List (List ℕ)) (number : ℕ)
    → ((later : ℕ) → number ≤ later → ¬ IsChosenField context.options.fields.now later)
    → AreFieldOutputs context number fields (map copied fields)
AreFieldOutputs-copied context [] number past = tt
AreFieldOutputs-copied context (field ∷ fields) number past = (
  other (past number (omega arith)) refl,
  AreFieldOutputs-copied context fields (number + 1) (λ later high. past later (omega (arith, high))),
)

-- copied fields together
together-copied : (between : List ℕ) (fields : List (List ℕ))
    → together between (map copied fields) ≡ copied (joined between fields)
together-copied between [] = refl
together-copied between (field ∷ []) = refl
together-copied between (field ∷ next ∷ fields) =
    ap (λ (rest : Output). record rest { text = field ++ between ++ rest.text }) (together-copied between (next ∷ fields))

-- the fields between delimiters, joined by the delimiter
joined-split : (delimiter : ℕ) (fields : List (List ℕ)) → joined (delimiter ∷ []) fields
    ≡ join_with_byte delimiter fields
joined-split delimiter [] = refl
joined-split delimiter (field ∷ []) = refl
joined-split delimiter (field ∷ next ∷ others) =
    append_assoc field (delimiter ∷ []) (joined (delimiter ∷ []) (next ∷ others))
    ∙ ap (λ rest. field ++ delimiter ∷ rest) (joined-split delimiter (next ∷ others))

-- one more byte before the first field
joined-byte : (byte : ℕ) (fields : List (List ℕ)) → joined [] (onto_first byte fields) ≡ byte ∷ joined [] fields
joined-byte byte [] = refl
joined-byte byte (field ∷ []) = refl
joined-byte byte (field ∷ next ∷ others) = refl

-- there is a first field between blanks, so the list is not empty
blank_fields_IsSplit : (bytes : List ℕ) → IsSplit (blank_fields bytes)
blank_fields_IsSplit [] = ([], [], refl)
blank_fields_IsSplit (byte ∷ bytes) =
    let split = blank_fields_IsSplit bytes in
    elim (not (is_blank byte) && begins_blank bytes) as (λ ends. IsSplit (cond ends ((byte ∷ []) ∷ blank_fields bytes)
    (onto_first byte (blank_fields bytes)))) [
      | true ↦ (byte ∷ [], blank_fields bytes, refl)
      | false ↦ (byte ∷ split.0, split.1, ap (onto_first byte) split.2)
    ]

-- the fields between blanks, joined
joined-blanks : (bytes : List ℕ) → joined [] (blank_fields bytes) ≡ bytes
joined-blanks [] = refl
joined-blanks (byte ∷ bytes) =
    let split = blank_fields_IsSplit bytes in
    let Whole : List (List ℕ) → Type 0 = λ fields. joined [] fields ≡ byte ∷ joined [] (blank_fields bytes) in
    let alone : Whole ((byte ∷ []) ∷ blank_fields bytes) =
    subst (λ fields. joined [] ((byte ∷ []) ∷ fields) ≡ byte ∷ joined [] fields) (sym split.2) refl in
    let both : Whole (blank_fields (byte ∷ bytes)) =
    elim (not (is_blank byte) && begins_blank bytes) as (λ ends. Whole (cond ends ((byte ∷ []) ∷ blank_fields bytes)
    (onto_first byte (blank_fields bytes)))) [ true ↦ alone | false ↦ joined-byte byte (blank_fields bytes) ] in
    both ∙ ap (λ rest. byte ∷ rest) (joined-blanks bytes)

-- fields that are separated
module _ (options : Options) (separator : Separator) (is : options.separator ≡ Some separator) (bytes : List ℕ) where
  -- there is a first field, so the list of the fields is not empty
  pub fields_IsSplit : IsSplit (fields_of options bytes)
  fields_IsSplit =
      subst (λ separator. IsSplit (fields_by separator bytes)) (sym is) (elim separator as
      (λ separator. IsSplit (fields_by (Some separator) bytes))
      [ Byte mark ↦ split_by_IsSplit mark bytes | Blanks ↦ blank_fields_IsSplit bytes ])

  -- the fields with the bytes between them are the record
  fields_joined : joined (between_of options) (fields_of options bytes) ≡ bytes
  fields_joined =
      let Whole : Option Separator → Type 0 =
      λ separator. joined (between_by separator) (fields_by separator bytes) ≡ bytes in
      subst Whole (sym is) (elim separator as (λ separator. Whole (Some separator)) [
        | Byte mark ↦ joined-split mark (split_by mark bytes) ∙ join_with_byte-slice_split mark bytes
        | Blanks ↦ joined-blanks bytes
      ])

-- between two fields of a record: those before are added, each with the bytes after it, and the rest gives the others
pub record IsSplitting (bytes : List ℕ) (old : Progress RunState) (number : ℕ) (rest : List ℕ)
    (new : Progress RunState) : Type 0 where
  pub before : List (List ℕ)
  pub outputs : List Output
  pub fields_are : fields_of old.state.context.options bytes ≡ before ++ fields_of old.state.context.options rest
  pub number_is : number ≡ 1 + length before
  pub are_fields : AreFieldOutputs old.state.context 1 before outputs
  pub passes : Passes old.state.context.options (found_in outputs)
  pub appends : Appends (followed (between_of old.state.context.options) outputs) old new
  pub few : number + length rest ≤ 1 + length bytes

-- before the first field nothing is appended, and the whole record is left
pub IsSplitting-start : (bytes : List ℕ) (old : Progress RunState) → IsSplitting bytes old 1 bytes old
IsSplitting-start bytes old = record {
  before = [];
  outputs = [];
  fields_are = refl;
  number_is = refl;
  are_fields = tt;
  passes = λ mode. refl;
  appends = Appends-none old;
  few = omega arith;
}

module _ {bytes : List ℕ} {old : Progress RunState} {number : ℕ} {rest : List ℕ} {new : Progress RunState}
    (so_far : IsSplitting bytes old number rest new) where
  -- the new progress, with the context at the start, which does not change
  abbrev now : Progress RunState
  now = record new { state = record old.state { tally = new.state.tally } }

  now_is : new ≡ now
  now_is = ap (λ state. record new { state = state }) so_far.appends.state_is

  abbrev options : Options
  options = old.state.context.options

  abbrev between : List ℕ
  between = between_of options

  -- what the fields before have appended
  appended : Appends (followed between so_far.outputs) old now
  appended = subst (Appends (followed between so_far.outputs) old) now_is so_far.appends

  -- what the next fields give, too
  are-more : (fields : List (List ℕ)) (outputs : List Output) → AreFieldOutputs old.state.context number fields outputs
      → AreFieldOutputs old.state.context 1 (so_far.before ++ fields) (so_far.outputs ++ outputs)
  are-more fields outputs are = AreFieldOutputs-append old.state.context 1 so_far.before fields so_far.outputs outputs
      so_far.are_fields (subst (λ number. AreFieldOutputs old.state.context number fields outputs) so_far.number_is are)

  -- the invariant holds after one more field and the bytes after it, `mark`
  pub IsSplitting-step : (mark : List ℕ) → mark ≡ between → (n : ℕ) → EndsFirst options.separator rest n
      → (next : Progress RunState) → AddsFields number (take n rest ∷ []) new next
      → (out : List ℕ) → out ≡ next.out ++ mark → (behind : List ℕ) → behind ≡ drop (n + length mark) rest
      → IsSplitting bytes old (number + 1) behind (record next { out = out })
  IsSplitting-step mark mark_is n ends next adds_new out out_is behind behind_now =
      let behind_is = behind_now ∙ ap (λ (mark : List ℕ). drop (n + length mark) rest) mark_is in
      let field = take n rest in
      let others = fields_of options behind in
      let adds = subst (λ at. AddsFields number (field ∷ []) at next) now_is adds_new in
      let same = followed-one old.state.context number between so_far.outputs field adds.outputs adds.are_fields in record {
        before = so_far.before ++ field ∷ [];
        outputs = so_far.outputs ++ adds.outputs;
        fields_are =
            so_far.fields_are ∙ ap (λ more. so_far.before ++ more) (ends.2
            ∙ ap (λ behind. field ∷ fields_of options behind) (sym behind_is))
            ∙ sym (append_assoc so_far.before (field ∷ []) others);
        number_is = omega (arith, so_far.number_is, length-append so_far.before (field ∷ []));
        are_fields = are-more (field ∷ []) adds.outputs adds.are_fields;
        passes = subst (λ (output : Output). Passes options output.found) same
            (Passes-append options (found_in so_far.outputs) (found_in adds.outputs) so_far.passes adds.passes);
        appends = subst (λ output. Appends output old (record next { out = out })) same
            (Appends-more (Appends-then appended adds.appends) between out
            (out_is ∙ ap (λ mark. next.out ++ mark) mark_is));
        few = omega (
          arith,
          so_far.few,
          ap (λ (behind : List ℕ). length behind) behind_is,
          length-drop (n + length between) rest,
          ends.0,
          ends.1,
        );
      }

  -- adding the other fields adds those of the whole record
  with-others : IsSplit (fields_of options rest) → (next : Progress RunState)
      → AddsFields number (fields_of options rest) now next → AddsFields 1 (fields_of options bytes) old next
  with-others split next adds =
      let same = together-append old.state.context number between so_far.outputs (fields_of options rest) adds.outputs split
      adds.are_fields in record {
        outputs = so_far.outputs ++ adds.outputs;
        are_fields = subst (λ fields. AreFieldOutputs old.state.context 1 fields (so_far.outputs ++ adds.outputs))
            (sym so_far.fields_are) (are-more (fields_of options rest) adds.outputs adds.are_fields);
        passes = subst (λ (output : Output). Passes options output.found) same
            (Passes-append options (found_in so_far.outputs) (found_in adds.outputs) so_far.passes adds.passes);
        appends = subst (λ output. Appends output old next) same (Appends-then appended adds.appends);
      }

  -- if the rest is the last field, adding it adds the fields of the whole record
  pub AddsFields-last : fields_of options rest ≡ rest ∷ [] → (next : Progress RunState)
      → AddsFields number (rest ∷ []) new next → AddsFields 1 (fields_of options bytes) old next
  AddsFields-last last next adds =
      with-others (rest, [], last) next
      (subst (λ fields. AddsFields number fields now next) (sym last)
      (subst (λ at. AddsFields number (rest ∷ []) at next) now_is adds))

  -- if no other field is chosen, copying the rest adds the fields of the whole record
  pub AddsFields-copied : (separator : Separator) → options.separator ≡ Some separator
      → ((later : ℕ) → number ≤ later → ¬ IsChosenField options.fields.now later)
      → (out : List ℕ) → out ≡ new.out ++ rest
      → AddsFields 1 (fields_of options bytes) old (record new { out = out })
  AddsFields-copied separator is past out out_is =
      let fields = fields_of options rest in
      let same = sym (together-copied between fields ∙ ap copied (fields_joined options separator is rest)) in
      subst (λ (at : Progress RunState). AddsFields 1 (fields_of options bytes) old (record at { out = out }))
      (sym now_is) (with-others (fields_IsSplit options separator is rest) (record now { out = out }) (record {
        outputs = map copied fields;
        are_fields = AreFieldOutputs-copied old.state.context fields number past;
        passes = subst (λ (output : Output). Passes options output.found) same (λ mode. refl);
        appends = subst (λ output. Appends output now (record now { out = out })) same
            (Appends-more (Appends-none now) rest out out_is);
      }))

  -- if one of the next fields is rejected in the mode `abort`, one of the record is
  Aborts-next : (fields others : List (List ℕ)) → fields_of options rest ≡ fields ++ others → (next : Progress RunState)
      → Aborts number fields now next → Aborts 1 (fields_of options bytes) old next
  Aborts-next fields others next_are next aborts =
      let at = aborts.are_messages in
      let count : number + length at.before ≡ 1 + length (so_far.before ++ at.before) =
      omega (arith, so_far.number_is, length-append so_far.before at.before) in
      let found = flat_map-append (λ (output : Output). output.found) so_far.outputs at.outputs in
      let messages = flat_map-append (λ (output : Output). output.messages) so_far.outputs at.outputs in
      let before = messages_in so_far.outputs in record {
        mode = aborts.mode;
        messages = before ++ aborts.messages;
        are_messages = record {
          before = so_far.before ++ at.before;
          field = at.field;
          after = at.after ++ others;
          outputs = so_far.outputs ++ at.outputs;
          own = at.own;
          fields_are =
              so_far.fields_are ∙ ap (λ more. so_far.before ++ more) (next_are
              ∙ ap (λ fields. fields ++ others) at.fields_are ∙ append_assoc at.before (at.field ∷ at.after) others)
              ∙ sym (append_assoc so_far.before at.before (at.field ∷ (at.after ++ others)));
          are_fields = are-more at.before at.outputs at.are_fields;
          none_before = ap has_rejected found ∙ Passes-append options (found_in so_far.outputs) (found_in at.outputs)
              so_far.passes (λ _. at.none_before) aborts.mode;
          is_field = subst (λ number. IsFieldOutput old.state.context number at.field at.own) count at.is_field;
          is_rejected = at.is_rejected;
          messages_are =
              ap (λ more. before ++ more) at.messages_are
              ∙ sym (append_assoc before (messages_in at.outputs) at.own.messages)
              ∙ ap (λ begun. begun ++ at.own.messages) (sym messages);
        };
        messages_are =
            aborts.messages_are ∙ ap (λ begun. begun ++ aborts.messages) so_far.appends.messages_are
            ∙ append_assoc old.messages before aborts.messages;
      }

  -- if the next fields end the call early, the record does
  pub IsEarly-next : (fields others : List (List ℕ)) → fields_of options rest ≡ fields ++ others
      → (next : Progress RunState) (error : RunError EndReason) → IsEarly number fields new next error
      → IsEarly 1 (fields_of options bytes) old next error
  IsEarly-next fields others next_are next error early_new =
      let early = subst (λ at. IsEarly number fields at next error) now_is early_new in record {
        keeps = (
          IsBeginningOf-trans old.out new.out next.out (_, appended.out_is) early.keeps.0,
          IsBeginningOf-trans old.messages new.messages next.messages (_, appended.messages_are) early.keeps.1,
          early.keeps.2,
        );
        why = elim early.why [
          | inl memory ↦ inl memory
          | inr (is, aborts) ↦ inr (is, Aborts-next fields others next_are next aborts)
        ];
      }
