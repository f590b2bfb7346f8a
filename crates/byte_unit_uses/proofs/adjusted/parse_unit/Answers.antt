-- A string that is a number and a unit is not rejected, and gives that unit.
use Rattle.byte_unit_uses.proofs.adjusted.parse_unit.Goals as goal

-- this error is never returned for a string that is a number and a unit
pub returns-in_err-unit-clause-complete : goal.returns-in_err-unit-clause-complete
returns-in_err-unit-clause-complete c = λ number unit is. absurd (c.in_err-unit.ensures.reads number unit is)

-- a string that is a number and a unit gives that unit; `.0` of what is parsed is on the number, `.1` on the unit
pub returns-clause-complete : goal.returns-clause-complete
returns-clause-complete c = λ number unit is. (c.in_ok-unit.ensures.reads number unit is).1
