-- The stored digits are those of the fraction without trailing zeros.
use Rattle.byte_unit_math.proofs.ShortDecimals.{digits_of_fields}
use Rattle.byte_unit_math.proofs.decimal.Decimal.digits.Goals as goal

pub returns-clause-bound : goal.returns-clause-bound
returns-clause-bound c = λ places least. (digits_of_fields _ _ c.self.invariant c.self.view_is places least).below
