-- The stored digits are those of the fraction without trailing zeros.
use Rattle.std.proofs.lemmas.Grind.{common_steps}
use Rattle.std.proofs.Common.{arith}
use Rattle.byte_unit_math.proofs.ShortDecimals.{digits_of_fields, places_of_fields}
use Rattle.byte_unit_math.proofs.decimal.Decimal.fields.Goals as goal

pub returns : goal.returns
returns c = grind (arith, common_steps, places_of_fields _ _ c.self.invariant c.self.view_is, digits_of_fields)
