-- The result is the size of the number of the unit that is meant if this size is below the limit, and else the error
-- `ExceededBounds`.
use Rattle.byte_unit_base.proofs.SizeOfText.{reading_of_size, reading_of_excess}
use Rattle.byte_unit_base.proofs.size.size_of.Goals as goal

-- the size is below the limit
pub returns-in-Some-clause-reading : goal.returns-in-Some-clause-reading
returns-in-Some-clause-reading c = λ bytes reading.
    reading_of_size c.args.spec bytes (c.args.found.number, c.args.found.unit) c.in-Some.size
    reading (rw c.unit_meant.ensures at c.in-Some.ensures.size)

-- the size reaches the limit
pub returns-in-None-clause-reading : goal.returns-in-None-clause-reading
returns-in-None-clause-reading c = λ bytes reading.
    reading_of_excess c.args.spec bytes (c.args.found.number, c.args.found.unit) reading
    (rw c.unit_meant.ensures at c.in-None.ensures.size)
