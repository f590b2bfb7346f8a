-- The law is the statement of a lemma.
use Rattle.byte_unit_choice.proofs.LaterChoices.{number_times_chosen}
use Rattle.byte_unit_choice.proofs.laws.number_times_unit_is_size.Goals as goal

pub returns : goal.returns
returns c = number_times_chosen
