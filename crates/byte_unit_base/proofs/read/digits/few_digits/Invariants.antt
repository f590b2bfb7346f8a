use Rattle.core.specs.Prelude.{◌-◌, length}
use Rattle.core.proofs.dec2flt.DigitsLemmas.{HasRead}
use Rattle.byte_unit_base.proofs.read.digits.few_digits.Given as goal

-- the digits before `end` have this value
abbrev pub invariant-digits : goal.invariant-digits
invariant-digits l = HasRead l.line l.from 0 l.end l.value

-- the number of bytes that are left
abbrev pub decreases-digits : goal.decreases-digits
decreases-digits l = length l.line - l.end
