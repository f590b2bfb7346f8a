-- The last digits of n, those that `rest` does not have, are written from `start` to `end`.
use Rattle.byte_unit_math.proofs.WrittenDigits.{IsWritten}
use Rattle.byte_unit_math.proofs.decimal_digits.put_u128_wide.Given as goal

abbrev pub invariant-loop-rest : goal.invariant-loop-rest
invariant-loop-rest l = IsWritten l.n l.end l.fn.bytes l.rest l.start l.bytes

-- The digits that are not written yet, as a number.
abbrev pub decreases-loop-rest : goal.decreases-loop-rest
decreases-loop-rest l = l.rest
