-- The unit of a literal is computed as its size is.
use Rattle.std.proofs.Common.{arith}
use Rattle.byte_unit.proofs.OnLiterals.{adjusted_computed, byte_unit_on_literals}
use Rattle.byte_unit_uses.proofs.literal.adjusted_unit.Goals as goal

-- the unit is that of the literal, by computation on the string
pub returns-clause-unit : goal.returns-clause-unit
unfolding byte_unit_on_literals
returns-clause-unit c = grind (arith, adjusted_computed)
