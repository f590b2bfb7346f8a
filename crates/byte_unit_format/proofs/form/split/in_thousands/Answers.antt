-- Each iteration divides the size by one more thousand, until a part is left over.
use Rattle.std.proofs.Common.{arith}
use Rattle.byte_unit_format.proofs.FewPlaces.{divided_more, greatest_thousands}
use Rattle.byte_unit_format.proofs.form.split.in_thousands.Goals as goal

-- The whole part is divided by a thousand once more.
pub groups-preserved : goal.groups-preserved
groups-preserved c = divided_more c.requires.bound c.groups.invariant c.groups-test.true c.if-whole-ge1000.true
    c.div_rem_thousand-next.ensures.quotient c.div_rem_thousand-next.ensures.rest

-- Less than a thousand is left, so no larger prefix fits.
pub returns-else-whole-ge1000-clause-greatest : goal.returns-else-whole-ge1000-clause-greatest
returns-else-whole-ge1000-clause-greatest c =
    greatest_thousands c.groups.invariant (λ none. omega (arith, c.if-whole-ge1000.false))

-- Thousandths are left, so no larger prefix fits.
pub returns-after-groups-clause-greatest : goal.returns-after-groups-clause-greatest
returns-after-groups-clause-greatest c =
    greatest_thousands c.groups.invariant (λ none. absurd (omega (arith, none, c.groups-test.false)))
