-- Each iteration divides by five; what is left times the powers found is the number.
use Rattle.std.proofs.Common.{arith}
use Rattle.byte_unit_math.proofs.TwosFives.{FivesOff-more, FivesOff-few}
use Rattle.byte_unit_math.proofs.factors.divide_out_fives.Goals as goal

-- There are few fives in the number.
pub overflow_add-fives : goal.overflow_add-fives
overflow_add-fives c = omega (arith, FivesOff-few _ _ _ _ (omega arith) c.loop-left.invariant)

-- One more five is divided out.
pub loop-left-preserved : goal.loop-left-preserved
loop-left-preserved c = FivesOff-more _ _ _ _ _ c.loop-left.invariant (omega arith)
