-- The digits that are left are those at the start, without some zeros at their end.
use Rattle.std.proofs.Common.{◌-◌, ◌*◌, ◌^◌}
use Rattle.byte_unit_math.specs.Bounds.{places_of_decimal}
use Rattle.byte_unit_math.proofs.ShortDecimals.{HasDigits}
use Rattle.byte_unit_math.proofs.decimal.Decimal.from_digits.Given as goal

abbrev pub invariant-loop-left : goal.invariant-loop-left
invariant-loop-left l = HasDigits (l.digits * 10 ^ (places_of_decimal - l.places)) l.short l.left

-- The number of places that are left.
abbrev pub decreases-loop-left : goal.decreases-loop-left
decreases-loop-left l = l.left
