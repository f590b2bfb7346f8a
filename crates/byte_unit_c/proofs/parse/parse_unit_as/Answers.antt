-- The unit of the string, or the details of its error and its position, are what is written.
use Rattle.std.proofs.Common.{Some, Ok, Err, refl, subst}
use Rattle.byte_unit_base.specs.Reading.Ends.{IsUnitOrStop}
use Rattle.byte_unit_c.proofs.parse.parse_unit_as.Goals as goal

-- the string spells a unit, whose code is written
pub returns-in-Some-Ok : goal.returns-in-Some-Ok
returns-in-Some-Ok c =
    -- the second part of the contract says how the bytes are parsed; the first, that they are UTF-8
    let read = subst (IsUnitOrStop c.unit_flags-flags.result c.args.text.now) c.in-Some-Ok.field-0-is
    c.in-Some-Ok.ensures.1 in
    let reading = rw c.unit_flags-flags.ensures at read in
    (Some (Ok c.in-Some-Ok.found), (c.in-Some-Ok.ensures.0, reading), (refl, c.unit_code.ensures, refl))

-- the string is rejected: the details of its error are written
pub returns-in-Some-Err : goal.returns-in-Some-Err
returns-in-Some-Err c =
    -- a pair: the error by the stop is that of the string, and the position is its position, with its location
    let stops = subst (IsUnitOrStop c.unit_flags-flags.result c.args.text.now) c.in-Some-Err.field-0-is
    c.in-Some-Err.ensures.1 in
    -- the error of the unit, that it is the one where the parser stops, and that it is written
    let written = c.write_unit_stop.ensures in
    let reading = rw c.unit_flags-flags.ensures at (stops.0 written.0 written.1) in (
      Some (Err written.0),
      (c.in-Some-Err.ensures.0, reading),
      (refl, (c.in-Some-Err.stop.index, stops.1, written.2), refl),
    )
