-- Reading the table at an index below its length is the unit with that index.
use Rattle.std.proofs.Common.{arith, sym}
use Rattle.std.proofs.lemmas.Option.{slice_get-get_or, slice_get_past}
use Rattle.byte_unit_base.specs.Grammar.Units.{units}
use Rattle.byte_unit_base.proofs.unit.tables.unit_at.Goals as goal

-- there are 38 units: 36 with a prefix, and `Bit` and `B`
pub returns-then-index-lt38 : goal.returns-then-index-lt38
returns-then-index-lt38 c = sym (slice_get-get_or units c.args.index _ (omega arith))

-- past them there is none
pub returns-else-index-lt38 : goal.returns-else-index-lt38
returns-else-index-lt38 c = sym (slice_get_past units c.args.index (omega arith))
