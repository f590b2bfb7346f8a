-- Each iteration takes off a zero at the end; what is left is the same number without trailing zeros.
use Rattle.std.proofs.Common.{arith}
use Rattle.byte_unit_math.proofs.ShortDecimals.{HasDigits-tenth}
use Rattle.byte_unit_math.proofs.decimal.Decimal.from_digits.Goals as goal

pub loop-left-preserved : goal.loop-left-preserved
loop-left-preserved c = HasDigits-tenth _ _ _ c.loop-left.invariant (omega arith) (omega arith)
