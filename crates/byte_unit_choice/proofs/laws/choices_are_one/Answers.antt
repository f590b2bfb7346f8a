-- The law is the statement of a lemma.
use Rattle.byte_unit_choice.proofs.OneChoice.{one_choice}
use Rattle.byte_unit_choice.proofs.laws.choices_are_one.Goals as goal

pub returns : goal.returns
returns c = one_choice
