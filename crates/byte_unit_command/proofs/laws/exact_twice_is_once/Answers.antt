-- The formatted text is parsed as the size, a text is parsed as at most one size, and a size has one exact form.
use Rattle.byte_unit_command.proofs.Again.{exact_again}
use Rattle.byte_unit_command.proofs.laws.exact_twice_is_once.Goals as goal

-- converting a text in the form `exact`, without a width, once more gives the same text
pub returns : goal.returns
returns c = exact_again c.formatted_sizes_are_read.ensures c.size_has_one_form.ensures
