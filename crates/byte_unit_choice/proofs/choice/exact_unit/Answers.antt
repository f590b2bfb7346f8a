-- At precision 0 the chosen number is whole, so its whole part times the unit is the size.
use Rattle.std.proofs.Common.{◌*◌, ap, ◌∙◌}
use Rattle.byte_unit_base.specs.Grammar.Shape.{bits}
use Rattle.byte_unit_base.specs.Grammar.Units.{shape_of}
use Rattle.byte_unit_base.specs.Sizes.Kinds.{bits_in}
use Rattle.byte_unit_choice.proofs.Quotients.{whole_number}
use Rattle.byte_unit_choice.proofs.Choosing.{some_bits, exact_where_recovered}
use Rattle.byte_unit_choice.proofs.choice.exact_unit.Goals as goal

-- `recoverable_unit` returns the number, scaled by 10^28, and the unit
pub returns-clause-exact : goal.returns-clause-exact
returns-clause-exact c =
    let unit = shape_of c.recoverable_unit-number.result.1 in
    let exact = exact_where_recovered c.args.kind _ c.args.size unit c.recoverable_unit-number.ensures.recovered in
    let size = c.args.size * bits_in c.args.kind in
    let number = c.recoverable_unit-number.result.0 in
    ap (λ n. n * bits unit) c.whole.ensures.value
    ∙ whole_number size (bits unit) number (some_bits unit) c.recoverable_unit-number.ensures.exact exact
