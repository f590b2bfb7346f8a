-- What is left of the size, times the powers of 2 and 5 found, is the size, and neither 2 nor 5 divides it.
use Rattle.std.proofs.Common.{◌≢◌, ◌+◌, ◌%◌, ◌≤◌, arith, sym}
use Rattle.std.specs.Int.{trailing_zeros, w128}
use Rattle.byte_unit_math.proofs.TwosFives.{FivesOff, FivesOff-trailing_zeros, FivesOff-more, FivesOff-joined}
use Rattle.byte_unit_math.proofs.TwosFives.{FivesOff-few}
use Rattle.byte_unit_math.proofs.factors.factors_of.Goals.{Joined-left}
use Rattle.byte_unit_math.proofs.factors.factors_of.Goals as goal

-- The shift leaves the odd part of the size.
pub loop-left-init : goal.loop-left-init
loop-left-init c = FivesOff-trailing_zeros c.args.size c.requires.positive (omega arith)

-- There are few fives in the size.
pub overflow_add-fives : goal.overflow_add-fives
overflow_add-fives c = omega (arith, FivesOff-few _ _ _ _ c.requires.bound c.loop-left.invariant)

-- One more five is divided out.
pub loop-left-preserved : goal.loop-left-preserved
loop-left-preserved c = FivesOff-more _ _ _ _ _ c.loop-left.invariant (omega arith)

-- `short.result` is what is left in 64 bits, and the number of fives found there.
pub overflow_add-fives-then-left : goal.overflow_add-fives-then-left
overflow_add-fives-then-left c =
    let short = c.divide_out_fives-short in
    let off = FivesOff-joined _ _ _ _ short.result.0 short.result.1 c.loop-left.invariant
    (omega (arith, short.ensures.product, c.if-left.true)) short.ensures.odd in
    omega (arith, FivesOff-few _ _ _ _ c.requires.bound off)

-- What is left in the end and the factors found represent the size, in both branches.
all_off : (c : Joined-left) → FivesOff c.args.size c.if-left.left (trailing_zeros w128 c.args.size) c.if-left.fives
all_off c = grind (arith, FivesOff-joined)

-- What is left is not divisible by 5.
no_five : (c : Joined-left) → c.if-left.left % 5 ≢ 0
no_five c = grind arith

-- The exponents of 2 and 5 are together at most 99, since the size is below 10^30 < 2^100.
few : (c : Joined-left) → trailing_zeros w128 c.args.size + c.if-left.fives ≤ 99
few c = FivesOff-few _ _ _ _ c.requires.bound (all_off c)

-- The exponents together are at most 99.
pub overflow_add-twos : goal.overflow_add-twos
overflow_add-twos c = omega (arith, few (goal.at.overflow_add-twos c).Joined-left)

-- The exponents together are at most 99, so two more fit 32 bits.
pub overflow_add-twos-2 : goal.overflow_add-twos-2
overflow_add-twos-2 c = omega (arith, few (goal.at.overflow_add-twos-2 c).Joined-left)

-- What is left, times the powers of 2 and 5 found, is the size.
pub returns-clause-product : goal.returns-clause-product
returns-clause-product c = sym (all_off (goal.at.returns-clause-product c).Joined-left).product

-- Neither 2 nor 5 divides what is left.
pub returns-clause-powers : goal.returns-clause-powers
returns-clause-powers c = grind (arith, all_off)

-- The exponents together are at most 99.
pub returns-clause-bound : goal.returns-clause-bound
returns-clause-bound c = omega (arith, few (goal.at.returns-clause-bound c).Joined-left)
