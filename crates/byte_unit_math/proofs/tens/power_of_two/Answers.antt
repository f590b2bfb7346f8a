-- The power is at most 2^93, so it fits 128 bits.
use Rattle.std.proofs.Common.{arith}
use Rattle.std.proofs.Math.Nat.{mod-eq_of_lt, pow-le-pow_right}
use Rattle.byte_unit_math.proofs.tens.power_of_two.Goals as goal

pub returns : goal.returns
returns c = grind (arith, mod-eq_of_lt, pow-le-pow_right)
