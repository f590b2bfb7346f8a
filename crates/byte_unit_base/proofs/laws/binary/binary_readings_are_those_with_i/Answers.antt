-- The law is the statement of a lemma.
use Rattle.byte_unit_base.proofs.BinaryTexts.{readings_with_i}
use Rattle.byte_unit_base.proofs.laws.binary.binary_readings_are_those_with_i.Goals as goal

pub returns : goal.returns
returns c = readings_with_i
