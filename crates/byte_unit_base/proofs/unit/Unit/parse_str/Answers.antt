-- The error by what follows the place where the parser stops is that of the string.
use Rattle.byte_unit_base.proofs.unit.Unit.parse_str.Goals as goal

pub returns-in-Err : goal.returns-in-Err
returns-in-Err c = rw c.new-flags.ensures at (c.in-Err.ensures.0 c.error_before.result c.error_before.ensures)
