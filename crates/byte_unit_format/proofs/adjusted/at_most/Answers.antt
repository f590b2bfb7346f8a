-- A number with no more digits after the point than the places is its own nearest decimal.
use Rattle.std.proofs.Common.{arith}
use Rattle.std.proofs.lemmas.Bool.{leb-true}
use Rattle.byte_unit_math.specs.Finite.{IsExpansion}
use Rattle.byte_unit_math.specs.ShortExpansion.{finite_of}
use Rattle.byte_unit_math.specs.declared.expansion.Ties.TheVariants.{Up}
use Rattle.byte_unit_math.proofs.Digits.{length_last_digits}
use Rattle.byte_unit_base.specs.Grammar.Shape.{bits}
use Rattle.byte_unit_base.specs.Grammar.Units.{shape_of}
use Rattle.byte_unit_choice.proofs.Choosing.{some_bits}
use Rattle.byte_unit_format.proofs.AdjustedForms.{exact_is_nearest}
use Rattle.byte_unit_format.proofs.ShownForms.{unit_below_limit}
use Rattle.byte_unit_format.proofs.adjusted.at_most.Goals as goal

-- The bits of a unit are at most those of the largest one.
pub short_expansion-requires-clause-den : goal.short_expansion-requires-clause-den
short_expansion-requires-clause-den c =
    rw (c.powers-twos.ensures.twos, c.powers-twos.ensures.fives) (leb-true _ _ (unit_below_limit c.args.unit))

-- All digits are shown, which are no more than the places.
pub returns-then-exact-places : goal.returns-then-exact-places
returns-then-exact-places c =
    let e = c.in-Some.exact in
    let expansion : IsExpansion c.args.in_bits (bits (shape_of c.args.unit)) (finite_of e) =
    rw (c.powers-twos.ensures.twos, c.powers-twos.ensures.fives) at c.in-Some.ensures.is_expansion in
    let near = exact_is_nearest _ _ c.args.places (finite_of e) Up (some_bits (shape_of c.args.unit))
    (omega (arith, length_last_digits e.places e.digits, c.if-exact-places.true)) expansion in (
      near.0,
      near.1,
      record { few = c.in-Some.ensures.few; below = c.in-Some.ensures.below; is_expansion = near.2 },
    )
