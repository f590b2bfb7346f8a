-- `ExceededBounds` writes three parts, one after the other: the words before the number, the number, and the words
-- after it.
use Rattle.std.proofs.Common.{refl}
use Rattle.std.proofs.Output.{has_written_styled_append}
use Rattle.byte_unit_base.proofs.errors.ValueParseErrorDisplay.fmt.Goals as goal

pub returns-in_ok-fmt-in-ExceededBounds-clause-styled : goal.returns-in_ok-fmt-in-ExceededBounds-clause-styled
returns-in_ok-fmt-in-ExceededBounds-clause-styled g c = rw c.in-ExceededBounds.is λ flush ok.
    let before = c.in_ok-write_str-in-ExceededBounds.ensures.styled flush refl in
    let number = c.in_ok-fmt-in-ExceededBounds.ensures.styled before.flush refl in
    let both = has_written_styled_append _ _ _ _ _ _ before number in
    has_written_styled_append _ _ _ _ _ _ both (c.write_str-in-ExceededBounds.ensures.styled number.flush ok)
