use Rattle.std.proofs.Common.{◌*◌, drop, map}
use Rattle.byte_unit_choice.specs.Choice.{IsEligibleUnit}
use Rattle.byte_unit_choice.proofs.Falling.{Remain}
use Rattle.byte_unit_choice.proofs.Rows.{unit_in}
use Rattle.byte_unit_choice.proofs.choice.largest_unit.Given as goal

-- each unit of the type that is not above the size is in this row or in a later one
abbrev pub invariant-loop-row : goal.invariant-loop-row
invariant-loop-row l = Remain (IsEligibleUnit l.fn.family l.unit_type (l.fn.size * l.fn.own_bits))
    (drop l.row-index (map unit_in l.row-items))
