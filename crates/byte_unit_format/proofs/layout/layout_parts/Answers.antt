-- The columns of number, spaces and name are counted, and what they lack of the width is the padding.
use Rattle.std.proofs.Common.{length-append, arith}
use Rattle.byte_unit_format.proofs.TextParts.{layout_of_parts}
use Rattle.byte_unit_format.proofs.layout.layout_parts.Goals as goal

pub returns-clause-text : goal.returns-clause-text
returns-clause-text c = grind (arith, length-append, layout_of_parts)
