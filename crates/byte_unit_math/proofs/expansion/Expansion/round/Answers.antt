-- With no more digits than places the number is its own nearest decimal.
use Rattle.std.proofs.Common.{arith}
use Rattle.byte_unit_math.proofs.Cut.{IsTrimmed-view, length_of_view, rounded_to_itself}
use Rattle.byte_unit_math.proofs.expansion.Expansion.round.Goals as goal

-- No digit is cut off.
pub returns-then-self-places : goal.returns-then-self-places
returns-then-self-places c = grind (arith, IsTrimmed-view, length_of_view, rounded_to_itself)
