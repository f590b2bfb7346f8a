-- Text i gets its code and its size, and the places before it stay.
use Rattle.std.proofs.Common.{arith}
use Rattle.byte_unit_c.specs.Many.{offsets_of}
use Rattle.byte_unit_c.proofs.Written.{one_more_text}
use Rattle.byte_unit_c.proofs.many.parse_each.Goals as goal

-- the invariant holds after one more text; `parse_one` returns a pair, the code and the size
pub loop-i-preserved : goal.loop-i-preserved
loop-i-preserved c =
    one_more_text c.args.spec c.args.data.now (offsets_of c.args.offsets)
    c.loop-i.i c.loop-i.codes c.loop-i.sizes
    c.text_at.result.now c.parse_one-code.result.0 c.parse_one-code.result.1 (omega arith)
    (omega (arith, c.requires.sizes_fit, c.requires.codes_fit)) c.text_at.ensures c.parse_one-code.ensures c.loop-i.invariant
