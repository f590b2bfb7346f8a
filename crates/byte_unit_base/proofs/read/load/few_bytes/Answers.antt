-- Four bytes and those after them are all of the bytes.
use Rattle.std.proofs.Common.{◌-◌, ◌*◌, ◌/◌, ◌^◌, length, ap, arith}
use Rattle.byte_unit_base.proofs.Lines.{after_four}
use Rattle.byte_unit_base.proofs.read.load.few_bytes.Goals as goal

-- the first four bytes fit 32 bits, which is the second of `parts`, so adding the others does not overflow
pub overflow_add-result : goal.overflow_add-result
overflow_add-result c =
    let bytes = c.args.bytes.now in
    let parts = after_four bytes c.type_inv.bytes c.if-len-ge4.true c.requires in
    record { fits = omega (arith, parts.1, c.load_four-then-len-ge4.ensures) }

-- `parts` are: the others fit 32 bits, the first four do, and both put together are the number of all bytes
pub returns-then-len-ge4 : goal.returns-then-len-ge4
returns-then-len-ge4 c =
    let bytes = c.args.bytes.now in
    let parts = after_four bytes c.type_inv.bytes c.if-len-ge4.true c.requires in
    let shifted = ap (λ n. n / 2 ^ (8 * (8 - length bytes))) c.load_four.ensures in
    omega (arith, parts.0, parts.2, shifted, c.load_four-then-len-ge4.ensures)
