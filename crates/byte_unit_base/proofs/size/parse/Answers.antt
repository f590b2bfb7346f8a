-- The reading of a size from that of its number and unit, and its error from theirs.
use Rattle.std.proofs.Common.{inl, inr, sym}
use Rattle.byte_unit_base.proofs.SizeOfText.{reading_of_fault}
use Rattle.byte_unit_base.proofs.size.parse.Goals as goal

-- the string is a number and a unit
pub returns-in-Ok-clause-reading : goal.returns-in-Ok-clause-reading
returns-in-Ok-clause-reading c =
    let read = rw c.flags-flags.ensures at c.in-Ok.ensures in c.size_of.ensures.reading c.args.s.now (inl read.found)

-- it is a number and a unit in words
pub returns-in-Some-clause-reading : goal.returns-in-Some-clause-reading
returns-in-Some-clause-reading c =
    let read = rw c.flags-flags.ensures at c.in-Err.ensures in
    let words = (rw c.as_bytes.ensures.value at c.in-Some.ensures) c.utf8.s in
    c.size_of-in-Some.ensures.reading c.args.s.now (inr ((_, read.fault), sym words))

-- it is not in the grammar, and no number and unit in words
pub returns-in-None-clause-reading : goal.returns-in-None-clause-reading
returns-in-None-clause-reading c =
    let words = (rw c.as_bytes.ensures.value at c.in-None.ensures) c.utf8.s in
    reading_of_fault c.args.spec _ _ (rw c.flags-flags.ensures at c.in-Err.ensures) (sym words)
