-- What is written has the length that is returned, and each adjusted text is as long.
use Rattle.std.proofs.Common.{ap, length, ◌∙◌}
use Rattle.byte_unit_format.proofs.AdjustedForms.{adjusted_form_unique}
use Rattle.byte_unit_format.proofs.adjusted.adjusted_len.Goals as goal

pub returns-clause-exact : goal.returns-clause-exact
returns-clause-exact c = λ other is_other.
    let written = c.write_adjusted.ensures.written in
    written.needed_is ∙ ap length (adjusted_form_unique written.is_form is_other)
