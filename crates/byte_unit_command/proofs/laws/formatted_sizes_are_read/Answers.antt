-- From the library's laws: the form with a unit and the digits are parsed as the size, and words change nothing there.
use Rattle.byte_unit_command.proofs.Again.{formatted_is_read}
use Rattle.byte_unit_command.proofs.laws.formatted_sizes_are_read.Goals as goal

-- a size formatted in a lossless form, without a width, is parsed as that size
pub returns : goal.returns
returns c =
    formatted_is_read c.size_form_reads_back.ensures c.plain_form_reads_back.ensures
    c.words_change_no_accepted_text.ensures
