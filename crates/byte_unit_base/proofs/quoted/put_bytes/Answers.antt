-- There is room for each byte, since there is for all.
use Rattle.std.proofs.Common.{arith}
use Rattle.std.proofs.lemmas.List.Folds.{length-flat_map-take}
use Rattle.byte_unit_base.specs.Errors.Quoted.{escape_byte}
use Rattle.byte_unit_base.proofs.quoted.put_bytes.Goals as goal

pub put_byte-end-requires : goal.put_byte-end-requires
put_byte-end-requires c =
    omega (arith, length-flat_map-take escape_byte c.args.bytes.now c.loop-byte.byte-index 0 c.loop-byte-test.true)
