-- If no unit is chosen, the number is the size itself, in `B` or `Bit`, and no step is counted for its places.
use Rattle.std.proofs.Common.{◌≡◌, ◌*◌, arith}
use Rattle.byte_unit_math.specs.Bounds.{scale}
use Rattle.byte_unit_choice.proofs.Choosing.{own_number}
use Rattle.byte_unit_choice.proofs.SizePowers.{counted_whole}
use Rattle.byte_unit_choice.proofs.choice.recoverable_unit.Goals as goal

-- the size itself times its base unit
pub returns-in-None-clause-exact : goal.returns-in-None-clause-exact
returns-in-None-clause-exact c = grind (arith, own_number)

-- the size itself takes no step for places
pub returns-in-None-clause-steps : goal.returns-in-None-clause-steps
returns-in-None-clause-steps c =
    let value : c.from_digits.result ≡ c.args.size * scale = omega (arith, c.from_digits.ensures) in
    counted_whole c.args.size c.from_digits.result _ _ value c.in-None.ensures.steps_of_none
