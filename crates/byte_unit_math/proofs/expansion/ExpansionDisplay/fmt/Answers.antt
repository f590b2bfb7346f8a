-- The whole part is written, and then the point with the digits.
use Rattle.std.proofs.Common.{arith}
use Rattle.std.proofs.Output.{has_written_styled_append, has_written_styled_of_eq}
use Rattle.byte_unit_math.proofs.expansion.ExpansionDisplay.fmt.Goals as goal

-- `both` is that the whole part and the fraction have been written.
pub returns-clause-styled : goal.returns-clause-styled
returns-clause-styled g c = grind (arith, has_written_styled_append, has_written_styled_of_eq)
