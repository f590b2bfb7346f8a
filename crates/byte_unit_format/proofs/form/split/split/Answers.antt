-- The larger of the two prefixes has the unit, and the size in it is a number of thousandths.
use Rattle.std.proofs.Common.{◌*◌, false, arith, refl}
use Rattle.byte_unit_math.specs.Bounds.{scale}
use Rattle.byte_unit_base.specs.Sizes.Kinds.{own_unit}
use Rattle.byte_unit_choice.proofs.Choosing.{own_number}
use Rattle.byte_unit_format.proofs.UnitFraction.{whole_below}
use Rattle.byte_unit_format.proofs.FewPlaces.{recovered_own, recovered_decimal, recovered_binary}
use Rattle.byte_unit_format.proofs.FewPlaces.{number_of_units}
use Rattle.byte_unit_format.proofs.form.split.split.Goals as goal

-- A size below 1000 has no prefix: it is split as itself, in `B` or `Bit`.
pub returns-then-size-lt1000-clause-split : goal.returns-then-size-lt1000-clause-split
returns-then-size-lt1000-clause-split c = λ kind.
    let number = own_number kind c.args.size (c.args.size * scale) (own_unit kind) refl refl in
    record { recovered = recovered_own kind c.args.size c.if-size-lt1000.true; value = omega (arith, number) }

-- The decimal prefix is the larger one; `found.result` is the whole part, the thousandths and its position.
pub returns-then-binary-power-clause-split : goal.returns-then-binary-power-clause-split
returns-then-binary-power-clause-split c = λ kind.
    let found = c.in_thousands-whole in
    record {
      recovered = recovered_decimal kind c.args.size found.ensures.positive found.ensures.bound found.ensures.greatest
          c.binary_power-binary.ensures.greatest c.if-binary-power.true;
      value = number_of_units kind c.args.size found.result.2 false found.result.0 found.result.1 found.ensures.value;
    }

-- The whole part in the unit with the decimal prefix is below 10^27.
pub returns-then-binary-power-clause-whole : goal.returns-then-binary-power-clause-whole
returns-then-binary-power-clause-whole c =
    let found = c.in_thousands-whole in
    whole_below c.args.size found.result.2 false _ _ c.requires found.ensures.positive found.ensures.value

-- The binary prefix is the larger one.
pub returns-else-binary-power-clause-split : goal.returns-else-binary-power-clause-split
returns-else-binary-power-clause-split c = λ kind.
    let twos = c.binary_power-binary.ensures in
    let tens = c.in_thousands-whole.ensures in
    c.in_eighths.ensures.split kind
    (recovered_binary kind c.args.size (omega (arith, tens.positive, c.if-binary-power.false)) twos.bound twos.greatest
    (λ other fits. omega (arith, tens.greatest.greatest other fits, c.if-binary-power.false)))
