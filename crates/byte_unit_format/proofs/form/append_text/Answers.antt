-- The parts of the text are appended. A size has only one text, so its length is known.
use Rattle.std.proofs.Common.{arith}
use Rattle.byte_unit_format.proofs.TextParts.{appends_form}
use Rattle.byte_unit_format.proofs.WrittenForms.{text_length_unique}
use Rattle.byte_unit_format.proofs.form.append_text.Goals as goal

pub returns : goal.returns
returns g c = grind (arith, appends_form, text_length_unique)
