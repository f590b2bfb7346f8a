-- The law is the statement of a lemma.
use Rattle.byte_unit_math.proofs.Powers.{exact_by_powers}
use Rattle.byte_unit_math.proofs.laws.exact_by_powers.Goals as goal

pub returns : goal.returns
returns c = exact_by_powers
