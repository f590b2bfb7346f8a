-- What is left, times five to the count, is the number.
use Rattle.byte_unit_math.proofs.TwosFives.{FivesOff}
use Rattle.byte_unit_math.proofs.factors.divide_out_fives.Given as goal

abbrev pub invariant-loop-left : goal.invariant-loop-left
invariant-loop-left l = FivesOff l.number l.left 0 l.fives

-- A division by five leaves less.
abbrev pub decreases-loop-left : goal.decreases-loop-left
decreases-loop-left l = l.left
