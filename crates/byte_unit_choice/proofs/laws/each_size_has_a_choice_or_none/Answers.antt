-- The law is the statement of a lemma.
use Rattle.byte_unit_choice.proofs.SomeChoice.{choice_or_none}
use Rattle.byte_unit_choice.proofs.laws.each_size_has_a_choice_or_none.Goals as goal

pub returns : goal.returns
returns c = choice_or_none
