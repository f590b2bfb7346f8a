-- The line is a number, spaces and a unit, one after the other, or stops at one of these.
use Rattle.std.proofs.lemmas.List.{take_rest}
use Rattle.byte_unit_base.proofs.UnitEnds.{stops_in_unit}
use Rattle.byte_unit_base.proofs.read.read_number_and_unit.Goals as goal

-- after the number, which is `found`: its end and its value; `stop` is what the parser of the unit keeps, and its place
pub returns-in-Err-read_unit : goal.returns-in-Err-read_unit
returns-in-Err-read_unit g c =
    let line = c.args.line.now in
    let end = c.in-Ok.found.0 in
    let spaces = c.leading_spaces in
    let stop = c.in-Err-read_unit.stop in
    stops_in_unit c.args.flags line _ c.in-Ok.found.1 end spaces.result stop.index stop.reason c.in-Ok.ensures
    (take_rest line end) spaces.ensures.bound spaces.ensures.spaces spaces.ensures.all c.in-Err-read_unit.ensures
