-- The law is the statement of a lemma.
use Rattle.byte_unit_math.proofs.Texts.{expansions_by_division}
use Rattle.byte_unit_math.proofs.laws.expansions_are_found_by_division.Goals as goal

pub returns : goal.returns
returns c = expansions_by_division
