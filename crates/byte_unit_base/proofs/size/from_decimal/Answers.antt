-- The bits, rounded up to the kind, are the least size that holds the number; it is below the limit if and only if
-- the bits are.
use Rattle.std.proofs.Common.{arith, rules}
use Rattle.byte_unit_base.proofs.Rounding.{least_holding, least_above, least_below}
use Rattle.byte_unit_base.specs.Grammar.Version.{current}
use Rattle.byte_unit_base.specs.Grammar.Units.{shape_of}
use Rattle.byte_unit_base.proofs.size.from_decimal.Goals as goal

pub returns-clause-size : goal.returns-clause-size
returns-clause-size c =
    let in_bits = c.in_ok-in_bits.in_bits in
    let low = c.ceil_to_kind.ensures.least in (
      least_holding c.args.kind c.args.number (shape_of c.args.unit) in_bits c.ceil_to_kind.result
          (search rules) c.ceil_to_kind.ensures.holds low,
      least_below c.args.kind current.size_limit in_bits c.ceil_to_kind.result (search rules) low (omega arith),
    )

pub returns-in_err-in_bits-clause-size : goal.returns-in_err-in_bits-clause-size
returns-in_err-in_bits-clause-size c =
    let none = rw (c.as_bits_u128.ensures.bits, c.bits.ensures.bits) at c.in_err-in_bits.ensures.none in
    rw c.from_residual.ensures (λ n h. least_above c.args.kind c.args.number (shape_of c.args.unit) current.size_limit n
    (omega arith) none h)
