-- Each row of the table is five times the row before it.
use Rattle.std.proofs.Common.{◌∙◌, arith}
use Rattle.byte_unit_math.proofs.Scales.{powers_from_at}
use Rattle.byte_unit_math.proofs.tens.power_of_five.Goals as goal

pub returns : goal.returns
returns c = powers_from_at 5 49 1 c.args.exponent (omega (arith, c.requires)) ∙ omega arith
