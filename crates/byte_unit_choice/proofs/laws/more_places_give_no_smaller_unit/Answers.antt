-- The law is the statement of a lemma.
use Rattle.byte_unit_choice.proofs.LaterChoices.{no_smaller}
use Rattle.byte_unit_choice.proofs.laws.more_places_give_no_smaller_unit.Goals as goal

pub returns : goal.returns
returns c = no_smaller
