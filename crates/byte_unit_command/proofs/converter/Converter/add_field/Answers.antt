-- A field that is not chosen is copied. A size adds its text, and the messages about it if it is beyond a limit.
use Rattle.std.proofs.Common.{◌++◌, ◌∷◌, [], Some, ap, sym, subst, refl, ◌∙◌}
use Rattle.byte_unit_command.specs.CallEnds.{state_of}
use Rattle.byte_unit_command.specs.Field.{IsPlaced}
use Rattle.byte_unit_command.specs.Fields.{separating_blank_by, columns_by}
use Rattle.byte_unit_command.specs.Formatted.{IsFormatted}
use Rattle.byte_unit_command.specs.Output.{size}
use Rattle.byte_unit_command.proofs.Converting.{AddsFields-one, AddsFields-other, Appends-more}
use Rattle.byte_unit_command.proofs.converter.Converter.add_field.Goals as goal

-- a field that is not chosen: the copy of it is what is appended
pub returns-then-not-chosen : goal.returns-then-not-chosen
returns-then-not-chosen g c =
    AddsFields-other c.args.number c.args.field.now (state_of c.args.self.now) _ (c.requires.no c.if-not-chosen.true)
    c.in_ok-extend_from_slice.ensures.items

-- a chosen field that is a size: its text is appended, and it is counted
pub returns : goal.returns
returns g c =
    let options = c.args.self.now.context.options.now in
    let number = c.args.number in
    let field = c.args.field.now in
    let told = c.in_ok-count.ensures in
    let gap = c.separating_blank.result.now in
    let formatted = c.in_ok-add_in_width.ensures.ok in
    let gap_is = c.separating_blank.ensures
    ∙ ap (λ separator. separating_blank_by separator number field) (sym c.requires.separator) in
    let width_is = c.columns_in-width.ensures
    ∙ ap (λ separator. columns_by separator options.width number field) (sym c.requires.separator) in
    let placed : IsPlaced options number field c.in-Some.size (gap ++ formatted.0) = record {
      formatted = formatted.0;
      is_formatted = subst (λ width. IsFormatted (record options { width = width }) c.in-Some.size formatted.0) width_is
          formatted.1;
      text_is = ap (λ gap. gap ++ formatted.0) gap_is;
    } in
    AddsFields-one number field (state_of c.args.self.now) _
    (record { text = gap ++ formatted.0; found = Some c.in-Some.size ∷ []; messages = told.messages })
    (size c.in-Some.size (gap ++ formatted.0) told.messages (c.requires.yes c.if-not-chosen.false)
    c.in-Some.ensures.some placed told.are_messages refl) (λ mode. refl)
    (Appends-more (Appends-more told.appends gap c.extend_from_slice-2.new.self.items
    c.in_ok-extend_from_slice-2.ensures.items) formatted.0 c.add_in_width.new.text.items formatted.2)
