-- The last four bytes begin at the index or before it.
use Rattle.std.proofs.Common.{◌-◌, length, arith}
use Rattle.std.proofs.lemmas.Bool.{MatchBool-at_true}
use Rattle.byte_unit_base.proofs.Lists.{ascii_later}
use Rattle.byte_unit_base.proofs.read.is_ascii_from.Goals as goal

pub returns-then-len-from-le4 : goal.returns-then-len-from-le4
returns-then-len-from-le4 c is_ascii =
    let bytes = c.args.bytes.now in
    ascii_later bytes (length bytes - 4) c.args.from (omega (arith, c.if-len-from-le4.true))
    (MatchBool-at_true _ _ is_ascii c.is_ascii.ensures.cases)
