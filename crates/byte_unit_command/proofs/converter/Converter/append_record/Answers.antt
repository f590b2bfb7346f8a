-- A header record is copied, and the fields of any other are added; the end byte follows.
use Rattle.std.proofs.Common.{◌≡◌, ◌-◌, ◌++◌, List, ℕ, suc, ap, subst, sym, ◌∙◌, arith}
use Rattle.byte_unit_command.specs.CallEnds.{AddsFields, Appends, state_of}
use Rattle.byte_unit_command.specs.Fields.{fields_of}
use Rattle.byte_unit_command.specs.Output.{copied}
use Rattle.byte_unit_command.specs.State.{RunState}
use Rattle.byte_unit_stream.specs.RecordSteps.{Progress}
use Rattle.byte_unit_command.proofs.Converting.{Adds-header, Adds-fields, Appends-more, Appends-none, at_next, started}
use Rattle.byte_unit_command.proofs.converter.Converter.append_record.Goals.{then-self-gt0+in_ok-extend_from_slice}
use Rattle.byte_unit_command.proofs.converter.Converter.append_record.Goals.{else-self-gt0+in_ok-add_fields}
use Rattle.byte_unit_command.proofs.converter.Converter.append_record.Goals as goal

-- a run with this number of the last record
abbrev numbered : Progress RunState → ℕ → Progress RunState
numbered old number = record old { state = record old.state { context = record old.state.context { number = number } } }

-- a header record was copied
header-copied : (bytes out : List ℕ) (old between : Progress RunState) (number : ℕ)
    → number ≡ (at_next old).state.context.number → out ≡ old.out ++ bytes
    → between ≡ record (numbered old number) {
      state = record (numbered old number).state
          { header = old.state.header - 1 };
      out = out;
    } → Appends (copied bytes) (started old) between
header-copied bytes out old between number number_is out_is between_is =
    let At : ℕ → Progress RunState = λ number. record (numbered old number)
    { state = record (numbered old number).state { header = old.state.header - 1 }; out = out } in
    subst (Appends (copied bytes) (started old)) (sym (between_is ∙ ap At number_is))
    (Appends-more (Appends-none (started old)) bytes out out_is)

-- the record is appended with its end byte: a copy of a header record, or the fields of any other
pub returns : goal.returns
returns g c =
    let bytes = c.args.bytes.now in
    let old = state_of c.args.self.now in
    let between = state_of c.if-self-gt0.self in
    let out = c.extend_from_slice-2.new.self.items in
    let out_is = c.in_ok-extend_from_slice-2.ensures.items in
    let number = c.saturating_add-self in
    elim c.if-self-gt0.branch [
      | then-self-gt0+in_ok-extend_from_slice w ↦
          let some : old.state.header ≡ suc (old.state.header - 1) = omega (arith, w.if-self-gt0.true) in
          Adds-header bytes old between out out_is (old.state.header - 1) some
          (header-copied bytes w.extend_from_slice.new.self.items old between number.result number.ensures
          w.in_ok-extend_from_slice.ensures.items (ap state_of w.self-is))
      | else-self-gt0+in_ok-add_fields w ↦
          let none : old.state.header ≡ 0 = omega (arith, w.if-self-gt0.false) in
          let fields = fields_of old.state.context.options bytes in
          Adds-fields bytes old between out out_is none
          (subst (AddsFields 1 fields (at_next old)) (sym (ap state_of w.self-is))
          (subst (λ number. AddsFields 1 fields (numbered old number) (state_of w.add_fields.new.self)) number.ensures
          w.in_ok-add_fields.ensures))
    ]
