-- Before text i: each text before it has its code and its size.
use Rattle.byte_unit_c.specs.Many.{offsets_of, AreParsed}
use Rattle.byte_unit_c.proofs.many.parse_each.Given as goal

-- each text before text i has its code and its size
abbrev pub invariant-loop-i : goal.invariant-loop-i
invariant-loop-i l = AreParsed l.spec l.data (offsets_of l.offsets) l.i l.codes l.sizes
