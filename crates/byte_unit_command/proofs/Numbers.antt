-- Lemmas: texts that begin a buffer.
use Rattle.std.proofs.Common.{ℕ, ◌≤◌, List, length}
use Rattle.byte_unit.specs.Written.{WritesForm}
use Rattle.byte_unit_command.specs.Formatted.{BeginsWithForm}
use Rattle.byte_unit_command.proofs.Texts.{written_bytes}

-- what was written begins with the text
pub begins_with : {IsForm : List ℕ → Type 0} {old new : List ℕ} {needed : ℕ} → WritesForm IsForm old new needed
    → needed ≤ length old → BeginsWithForm IsForm new needed
begins_with writes room = record {
  form = writes.form;
  is_form = writes.is_form;
  len_is = writes.needed_is;
  begins = written_bytes writes room;
}
