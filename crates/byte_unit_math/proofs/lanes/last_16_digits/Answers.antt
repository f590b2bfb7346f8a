-- The bytes of the eight lanes are the digits of eight pairs, which are those of the number.
use Rattle.std.proofs.Common.{◌∙◌}
use Rattle.byte_unit_math.proofs.PairsInLanes.{digits_of_lanes, digits_of_pairs, pairs_below, pairs_of}
use Rattle.byte_unit_math.proofs.lanes.last_16_digits.Goals as goal

pub returns : goal.returns
returns c =
    let n = c.args.n in
    digits_of_lanes (pairs_of n) (pairs_below n c.requires) ∙ digits_of_pairs n c.requires
