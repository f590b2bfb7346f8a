-- The digits so far are those of the long division by the denominator times 10^10, of which each digit of a group is a
-- step.
use Rattle.std.proofs.Common.{◌≡◌, ◌≢◌, ◌-◌, ◌+◌, ◌*◌, ◌^◌}
use Rattle.byte_unit_math.specs.Bounds.{expansion_places}
use Rattle.byte_unit_math.proofs.Expanding.{IsDividing, IsPending, pending_rest}
use Rattle.byte_unit_math.proofs.expansion.divide.Given as goal

abbrev pub invariant-loop-rest : goal.invariant-loop-rest
invariant-loop-rest l = IsDividing ((l.fn.whole * l.fn.den + l.fn.remainder) * 10 ^ 10) (l.fn.den * 10 ^ 10) l.fn.whole
    (l.rest * 10 ^ 10) l.places l.digits

-- The number of places that are left.
abbrev pub decreases-loop-rest : goal.decreases-loop-rest
decreases-loop-rest l = expansion_places - l.places

abbrev pub invariant-loop-count : goal.invariant-loop-count
invariant-loop-count l = record {
  pending : IsPending l.den l.left l.shifted l.count;
  divides :
      IsDividing ((l.fn.whole * l.fn.den + l.fn.remainder) * 10 ^ 10) (l.fn.den * 10 ^ 10) l.fn.whole
      (pending_rest l.den l.left l.shifted l.count) l.places l.digits;
  places_are : l.places ≡ l.initial.places + l.count;
  some : l.count ≡ 0 → pending_rest l.den l.left l.shifted l.count ≢ 0;
}

-- The number of digits of the group that are left.
abbrev pub decreases-loop-count : goal.decreases-loop-count
decreases-loop-count l = 10 - l.count
