-- The lowest and the highest bit of the size tell the largest binary prefix.
use Rattle.std.proofs.Common.{arith}
use Rattle.byte_unit_format.proofs.FewPlaces.{binary_greatest, few_binary}
use Rattle.byte_unit_format.proofs.form.split.binary_power.Goals as goal

-- The first part of the lemma: the prefix is the greatest that fits.
pub returns-clause-greatest : goal.returns-clause-greatest
returns-clause-greatest c =
    (binary_greatest c.args.size _ c.requires.positive c.requires.bound
    (omega (arith, c.min.ensures))).0

-- The position of the prefix is at most 9.
pub returns-clause-bound : goal.returns-clause-bound
returns-clause-bound c = few_binary _ c.args.size c.requires.bound (returns-clause-greatest c).fits.not_above

-- The second part of the lemma: the size is a number of eighths of its unit.
pub returns-clause-eighths : goal.returns-clause-eighths
returns-clause-eighths c =
    (binary_greatest c.args.size _ c.requires.positive c.requires.bound
    (omega (arith, c.min.ensures))).1
