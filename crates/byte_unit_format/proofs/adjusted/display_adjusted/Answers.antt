-- The number, a space and the name are written, one after the other. What is written whatever the options of the
-- formatter is written without options.
use Rattle.std.proofs.Common.{refl, subst, sym}
use Rattle.std.specs.Fmt.{IsDefaultSpec}
use Rattle.std.proofs.Output.{has_written_styled_append, has_written_styled_of_eq}
use Rattle.byte_unit_format.proofs.ShownForms.{written_text}
use Rattle.byte_unit_format.proofs.adjusted.display_adjusted.Goals as goal

-- The digits, the space and the name are written; `front` is the first two.
pub returns-clause-styled : goal.returns-clause-styled
returns-clause-styled g c = λ flush ok.
    let digits = c.in_ok-fmt.ensures.styled flush refl in
    let space = c.in_ok-write_str.ensures.styled digits.flush refl in
    let front = has_written_styled_append _ _ _ _ _ _ digits space in
    has_written_styled_of_eq _ _ _ _ _
    (written_text c.args.kind c.args.size c.args.unit c.number_in_unit.ensures c.as_str.ensures)
    (has_written_styled_append _ _ _ _ _ _ front (c.write_str-2.ensures.styled space.flush ok))

-- The formatter has no options, so what was written is the text itself.
pub returns-clause-plain : goal.returns-clause-plain
returns-clause-plain g c = λ plain ok.
    let styled = returns-clause-styled g c plain.flush ok in
    let bare = subst IsDefaultSpec (sym styled.spec) plain.bare in
    record { wrote = styled.wrote; plain = record { bare = bare; flush = styled.flush } }
