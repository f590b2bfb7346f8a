-- The reading of a size from that of its number and unit.
use Rattle.byte_unit_base.proofs.size.located_size.Goals as goal

pub returns-in-Ok-clause-reading : goal.returns-in-Ok-clause-reading
returns-in-Ok-clause-reading c = λ bytes utf8 measure. (utf8, c.in-Ok.ensures.reading bytes measure)

pub returns-in-Err-clause-reading : goal.returns-in-Err-clause-reading
returns-in-Err-clause-reading c = λ bytes utf8 measure. (utf8, c.in-Err.ensures.reading bytes measure)
