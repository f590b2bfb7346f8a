-- What is left, times the powers of 2 and 5 found, is the size.
use Rattle.byte_unit_math.proofs.TwosFives.{FivesOff}
use Rattle.byte_unit_math.proofs.factors.factors_of.Given as goal

abbrev pub invariant-loop-left : goal.invariant-loop-left
invariant-loop-left l = FivesOff l.size l.left l.twos l.fives

-- A division by five leaves less.
abbrev pub decreases-loop-left : goal.decreases-loop-left
decreases-loop-left l = l.left
