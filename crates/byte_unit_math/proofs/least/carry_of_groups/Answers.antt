-- The two groups of seven digits are the half.
use Rattle.byte_unit_math.proofs.RoundedUp.{rounded_up_in_groups}
use Rattle.byte_unit_math.proofs.least.carry_of_groups.Goals as goal

pub returns-clause-rounded : goal.returns-clause-rounded
returns-clause-rounded c =
    rounded_up_in_groups c.args.digits c.args.unit_size c.args.carry _ _ c.carry_of_group-part.ensures.rounded
    c.carry_of_group.ensures.rounded
