-- A field that is not a size adds a copy of itself, and a message about it.
use Rattle.std.proofs.Common.{◌≡◌, ◌+◌, ◌∷◌, [], None, refl, rules, inr, subst, arith}
use Rattle.byte_unit_command.specs.CallEnds.{state_of}
use Rattle.byte_unit_command.specs.Output.{IsFieldOutput, Output, rejected}
use Rattle.byte_unit_command.specs.declared.options.Invalid.TheVariants.{Abort}
use Rattle.byte_unit_command.proofs.Converting.{AddsFields-one, memory-passed}
use Rattle.byte_unit_stream.proofs.Beginnings.{IsBeginningOf-same, IsBeginningOf-self}
use Rattle.byte_unit_command.proofs.converter.Converter.add_rejected.Goals as goal

-- out of memory for the message
pub returns-in_err-add_reject_notice : goal.returns-in_err-add_reject_notice
returns-in_err-add_reject_notice g c =
    let old = state_of c.args.self.now in
    memory-passed c.args.number (c.args.field.now ∷ []) old _ _ c.from_residual.ensures.1
    (IsBeginningOf-self old.out, c.add_reject_notice.ensures.kept, refl)

-- in the mode `abort` the field ends the run; `told` is a triple: the message, that it is one, and where it was appended
pub returns-then-eq : goal.returns-then-eq
returns-then-eq g c =
    let old = state_of c.args.self.now in
    let field = c.args.field.now in
    let told = c.in_ok-add_reject_notice.ensures.ok in
    let mode : old.state.context.options.invalid ≡ Abort = search rules in
    let own : Output = record { text = field; found = None ∷ []; messages = told.0 } in
    let first : c.args.number ≡ c.args.number + 0 = omega arith in record {
      keeps = (IsBeginningOf-self old.out, (told.0, told.2), refl);
      why = inr (
        refl,
        record {
          mode = mode;
          messages = told.0;
          are_messages = record {
            before = [];
            field = field;
            after = [];
            outputs = [];
            own = own;
            fields_are = refl;
            are_fields = tt;
            none_before = refl;
            is_field = subst (λ number. IsFieldOutput old.state.context number field own) first
                (rejected told.0 c.requires.chosen c.requires.none told.1 refl);
            is_rejected = refl;
            messages_are = refl;
          };
          messages_are = told.2;
        },
      );
    }

-- out of memory for the copy of the field
pub returns-in_err-extend_from_slice : goal.returns-in_err-extend_from_slice
returns-in_err-extend_from_slice g c =
    let old = state_of c.args.self.now in
    let told = c.in_ok-add_reject_notice.ensures.ok in
    memory-passed c.args.number (c.args.field.now ∷ []) old _ _ c.from_residual-in_err-extend_from_slice.ensures.1 (
      IsBeginningOf-same old.out c.in_err-extend_from_slice.ensures.items (IsBeginningOf-self old.out),
      (told.0, told.2),
      refl,
    )

-- the copy of the field is appended, after the message about it
pub returns : goal.returns
returns g c =
    let old = state_of c.args.self.now in
    let field = c.args.field.now in
    let told = c.in_ok-add_reject_notice.ensures.ok in
    let goes_on : ¬ (old.state.context.options.invalid ≡ Abort) = search rules in
    AddsFields-one c.args.number field old _ (record { text = field; found = None ∷ []; messages = told.0 })
    (rejected told.0 c.requires.chosen c.requires.none told.1 refl) (λ abort. absurd (goes_on abort)) (record {
      state_is = refl;
      counts = c.reject.ensures old.state.context.options;
      out_is = c.in_ok-extend_from_slice.ensures.items;
      messages_are = told.2;
    })
