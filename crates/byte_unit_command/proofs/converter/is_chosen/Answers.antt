-- The first of ranges that are apart is the one that can choose the field.
use Rattle.std.proofs.Common.{leb-false}
use Rattle.byte_unit_command.proofs.Ranges.{none-before-first}
use Rattle.byte_unit_command.proofs.converter.is_chosen.Goals as goal

-- the first range begins after the field, and so do the others
pub returns-in-len1-up-clause-no : goal.returns-in-len1-up-clause-no
returns-in-len1-up-clause-no c = λ late.
    none-before-first c.args.ranges.now c.args.number c.requires.apart (leb-false _ _ late)
