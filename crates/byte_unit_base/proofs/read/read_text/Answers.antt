-- What is accepted is ASCII and trimmed. ASCII with visible ends is trimmed, so the parser stops in the string where it
-- stops in the bytes.
use Rattle.byte_unit_base.proofs.Positions.{stop_in_visible}
use Rattle.byte_unit_base.proofs.SizeOfText.{bytes_number}
use Rattle.byte_unit_base.proofs.read.read_text.Goals as goal

pub returns-in-Ok : goal.returns-in-Ok
returns-in-Ok c = bytes_number c.args.flags c.args.bytes.now c.in-Ok.found.number c.in-Ok.found.unit c.in-Ok.ensures

pub returns-in-Some : goal.returns-in-Some
returns-in-Some c =
    let stop = c.in-Err.stop in
    let is = stop_in_visible c.args.flags c.args.bytes.now stop.index stop.reason c.in-Some.next c.in-Some.ensures
    c.in-Err.ensures in
    (is.utf8, is)
