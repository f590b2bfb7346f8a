-- The number of eighths is the size.
use Rattle.std.proofs.Common.{true}
use Rattle.byte_unit_format.proofs.UnitFraction.{whole_below}
use Rattle.byte_unit_format.proofs.FewPlaces.{eighths_value, number_of_units}
use Rattle.byte_unit_format.proofs.form.split.in_eighths.Goals as goal

-- In each kind, the size is split as the whole part and the eighths.
pub returns-clause-split : goal.returns-clause-split
returns-clause-split c = λ kind recovered. record {
  recovered = recovered;
  value = number_of_units kind c.args.size c.args.power true _ _
      (eighths_value c.args.size c.args.power c.requires.positive c.requires.eighths);
}

-- The whole part is below the limit.
pub returns-clause-whole : goal.returns-clause-whole
returns-clause-whole c = whole_below c.args.size c.args.power true _ _ c.requires.bound c.requires.positive
    (eighths_value c.args.size c.args.power c.requires.positive c.requires.eighths)
