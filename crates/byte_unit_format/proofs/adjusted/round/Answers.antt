-- The number is shown with all its digits, or it is the nearest with the number of digits after the point that the
-- rounding gives.
use Rattle.std.proofs.Common.{arith}
use Rattle.std.proofs.Common.{◌∙◌}
use Rattle.byte_unit_math.specs.declared.expansion.Ties.TheVariants.{Up}
use Rattle.byte_unit_math.proofs.Texts.{nearest_of_expansion, text_of_padded, text_of_short_numeral}
use Rattle.byte_unit_format.proofs.WrittenForms.{all_places}
use Rattle.byte_unit_format.proofs.adjusted.round.Goals as goal

-- All digits are shown.
pub returns-in-Exact-clause-text : goal.returns-in-Exact-clause-text
returns-in-Exact-clause-text c = λ num den some is.
    rw c.in-Exact.is (c.args.number.now, is, all_places c.args.number.now c.places.result c.places.ensures.exact)

-- `near` is the rounded number, that it is nearest to the expansion, and that the decimal, not padded, is this number.
pub returns-in-To-clause-text : goal.returns-in-To-clause-text
returns-in-To-clause-text c = grind (arith, nearest_of_expansion, text_of_padded)

-- `near` is the rounded number, that it is nearest to the expansion, and that the decimal is this number without
-- trailing zeros.
pub returns-in-AtMost-clause-text : goal.returns-in-AtMost-clause-text
returns-in-AtMost-clause-text c = λ num den some is.
    let near = c.round-in-AtMost.ensures in
    let number = c.round-in-AtMost.new.self in
    let nearest = nearest_of_expansion num den c.args.number.now c.in-AtMost.places Up near.0 (some, is.exact) near.1 in
    rw c.in-AtMost.is (
      near.0,
      nearest,
      all_places number c.places-in-AtMost.result c.places-in-AtMost.ensures.exact
          ∙ text_of_short_numeral near.0 c.in-AtMost.places number near.2,
    )
