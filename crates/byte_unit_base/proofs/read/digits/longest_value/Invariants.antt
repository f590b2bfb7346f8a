-- The value of the digits so far, below the limit.
use Rattle.std.proofs.Common.{◌≡◌, ◌<◌, ◌≤◌, ◌-◌, length, take}
use Rattle.std.specs.Str.Parse.{digits_value}
use Rattle.byte_unit_math.specs.Bounds.{whole_limit}
use Rattle.byte_unit_base.proofs.read.digits.longest_value.Given as goal

-- `count` is within the digits, and `value`, that of the digits before it, is below the limit
abbrev pub invariant-digits : goal.invariant-digits
invariant-digits l =
    (l.count ≤ length l.digits) × (l.value < whole_limit) × (l.value ≡ digits_value 10 (take l.count l.digits))

-- the number of digits that are left
abbrev pub decreases-digits : goal.decreases-digits
decreases-digits l = length l.digits - l.count
