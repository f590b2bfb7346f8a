-- A string that is a number and a unit has no position of an error; else it is that where the parser stops.
use Rattle.byte_unit_base.proofs.Positions.{no_size_position}
use Rattle.byte_unit_base.proofs.size.error_position.Goals as goal

pub returns-in-Ok : goal.returns-in-Ok
returns-in-Ok c = no_size_position _ c.args.s.now _ c.in-Ok.ensures

pub returns-in-Err : goal.returns-in-Err
returns-in-Err c = c.in-Err.ensures.position
