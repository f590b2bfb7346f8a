-- The divisor 2^twos * 5^fives divides 10^93.
use Rattle.byte_unit_math.proofs.Expanding.{new_is_exact}
use Rattle.byte_unit_math.proofs.expansion.Expansion.new.Goals as goal

-- The division ends within 93 digits.
pub divide-requires-clause-ends : goal.divide-requires-clause-ends
divide-requires-clause-ends c =
    rw (c.div_rem-whole.ensures.quotient, c.div_rem-whole.ensures.rest)
    (new_is_exact c.args.numerator c.power_of_two.result c.power_of_five.result c.args.twos c.args.fives
    c.power_of_two.ensures c.power_of_five.ensures c.requires.den)
