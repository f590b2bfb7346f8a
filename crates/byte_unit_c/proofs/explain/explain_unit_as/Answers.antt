-- The message is that of the error where the parser stops.
use Rattle.std.proofs.Common.{Some, Ok, Err, refl, subst, sym}
use Rattle.byte_unit_base.specs.Errors.Position.{IsUnitLocation}
use Rattle.byte_unit_base.specs.Reading.Ends.{IsUnitOrStop}
use Rattle.byte_unit_c.proofs.explain.explain_unit_as.Goals as goal

-- the string spells a unit, so nothing is written
pub returns-in-Some-Ok-clause-reading : goal.returns-in-Some-Ok-clause-reading
returns-in-Some-Ok-clause-reading c =
    -- the second part of the contract says how the bytes are parsed; the first, that they are UTF-8
    let read = subst (IsUnitOrStop c.unit_flags-flags.result c.args.text.now) c.in-Some-Ok.field-0-is
    c.in-Some-Ok.ensures.1 in
    let reading = rw c.unit_flags-flags.ensures at read in
    (Some (Ok c.in-Some-Ok.field-0-0), (c.in-Some-Ok.ensures.0, reading), (refl, refl))

-- the string is rejected: the message of its error is written
pub returns-in-Some-Err-clause-reading : goal.returns-in-Some-Err-clause-reading
returns-in-Some-Err-clause-reading c =
    -- a pair: the error by the stop is that of the string, and the location is that of it
    let stops = subst (IsUnitOrStop c.unit_flags-flags.result c.args.text.now) c.in-Some-Err.field-0-is
    c.in-Some-Err.ensures.1 in
    let error = c.error_before.result in
    let reading = rw c.unit_flags-flags.ensures at (stops.0 error c.error_before.ensures) in (
      Some (Err error),
      (c.in-Some-Err.ensures.0, reading),
      (
        c.location_at.result,
        subst (IsUnitLocation c.args.text.now) (sym c.location_at.ensures) stops.2,
        c.write_message.ensures.positive,
        c.write_message.ensures.text,
      ),
    )
