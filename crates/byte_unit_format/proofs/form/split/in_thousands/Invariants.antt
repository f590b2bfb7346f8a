-- Each iteration divides the size by one more thousand, and leaves nothing.
use Rattle.byte_unit_format.proofs.FewPlaces.{IsDivided}
use Rattle.byte_unit_format.proofs.form.split.in_thousands.Given as goal

-- The size is the whole part and the thousandths in the prefix so far.
abbrev pub invariant-groups : goal.invariant-groups
invariant-groups l = IsDivided l.size l.whole l.thousandths l.power

-- The whole part falls.
abbrev pub decreases-groups : goal.decreases-groups
decreases-groups l = l.whole
