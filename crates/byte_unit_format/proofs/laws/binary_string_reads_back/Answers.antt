-- The law is the statement of a lemma.
use Rattle.byte_unit_format.proofs.BinaryStrings.{binary_string_reads_back}
use Rattle.byte_unit_format.proofs.laws.binary_string_reads_back.Goals as goal

pub returns : goal.returns
returns c = binary_string_reads_back
