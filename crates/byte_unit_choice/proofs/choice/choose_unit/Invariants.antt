use Rattle.std.proofs.Common.{◌≡◌, drop, map}
use Rattle.byte_unit_choice.proofs.Rows.{HasPowers, unit_in}
use Rattle.byte_unit_choice.proofs.Falling.{Remain}
use Rattle.byte_unit_choice.proofs.choice.choose_unit.Given as goal

-- each unit whose exponents of 2 and 5 are small enough is in this row or in a later one, and the loop has counted no
-- step
abbrev pub invariant-loop-row : goal.invariant-loop-row
invariant-loop-row l = record {
  remain : Remain (HasPowers l.fn.family l.in_bits l.most_twos l.most_fives)
      (drop l.row-index (map unit_in l.row-items));
  steps : l.steps ≡ l.initial.steps;
}
