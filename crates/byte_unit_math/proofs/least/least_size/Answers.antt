-- The result is the least size of the number of units, or `None` if that reaches the limit.
use Rattle.std.proofs.Common.{◌≡◌, ℕ, ◌+◌, ◌-◌, ◌*◌, ◌^◌, ◌≤◌, arith}
use Rattle.byte_unit_math.specs.Bounds.{places_of_decimal}
use Rattle.byte_unit_math.specs.Least.{IsLeastSize}
use Rattle.byte_unit_math.proofs.RoundedUp.{IsLeastSize-halves, IsLeastSize-parts, in_first_group}
use Rattle.byte_unit_math.proofs.RoundedUp.{IsLeastSize-group, IfNone-always, IfNone-below}
use Rattle.byte_unit_math.proofs.Scales.{ten_power_at}
use Rattle.byte_unit_math.proofs.least.least_size.Goals.{Joined-whole, Joined-places-le-GROUP_PLACES}
use Rattle.byte_unit_math.proofs.least.least_size.Goals.{then-places-le-GROUP_PLACES, else-places-le-GROUP_PLACES}
use Rattle.byte_unit_math.proofs.least.least_size.Goals as goal

-- The part that the code computes is the least size of the fraction. `fields-whole.result` is the whole part, the
-- digits after the point as a number, and how many they are.
fraction_least : (c : Joined-places-le-GROUP_PLACES)
    → IsLeastSize (c.fields-whole.result.1 * 10 ^ (places_of_decimal - c.fields-whole.result.2)) c.args.unit_size
    c.if-places-le-GROUP_PLACES.part
fraction_least c =
    let unit = c.args.unit_size in
    let fraction = c.fields-whole.result.1 * 10 ^ (places_of_decimal - c.fields-whole.result.2) in
    elim c.if-places-le-GROUP_PLACES.branch [
      | then-places-le-GROUP_PLACES w ↦
          let first = in_first_group c.fields-whole.result.1 c.fields-whole.result.2
          w.if-places-le-GROUP_PLACES.true c.fields-whole.ensures.below in
          let power = ten_power_at (7 - c.fields-whole.result.2) (omega arith) in
          let rounded = rw power at w.carry_of_group-part.ensures.rounded in
          rw w.part-is (IsLeastSize-group fraction _ unit _ first.all rounded)
      | else-places-le-GROUP_PLACES w ↦
          let part = w.carry_of_half-part in
          let size = w.carry_of_half-part-else-places-le-GROUP_PLACES in
          rw w.part-is (IsLeastSize-halves fraction unit part.result size.result
          (rw w.split_fraction-high.ensures.low at part.ensures.rounded)
          (rw w.split_fraction-high.ensures.high at size.ensures.rounded))
    ]

-- With the whole part it is the least size of the decimal.
size_least : (c : Joined-places-le-GROUP_PLACES)
    → IsLeastSize c.args.d c.args.unit_size
    (c.fields-whole.result.0 * c.args.unit_size + c.if-places-le-GROUP_PLACES.part)
size_least c =
    IsLeastSize-parts c.args.d c.args.unit_size c.fields-whole.result.0 _ c.if-places-le-GROUP_PLACES.part
    c.fields-whole.ensures.whole_is c.fields-whole.ensures.digits_are (fraction_least c)

-- If it reaches the limit, each size that is large enough does.
not_below : (c : Joined-places-le-GROUP_PLACES)
    → c.args.limit ≤ c.fields-whole.result.0 * c.args.unit_size + c.if-places-le-GROUP_PLACES.part
    → (n : ℕ) → IsLeastSize c.args.d c.args.unit_size n → c.args.limit ≤ n
not_below c reached n h = omega (arith, reached, (size_least c).least n h.has)

-- The product does not fit 128 bits, so the limit is reached.
pub returns-in_err-checked_mul-clause-none : goal.returns-in_err-checked_mul-clause-none
returns-in_err-checked_mul-clause-none c = IfNone-always _ _
    (not_below (goal.at.returns-in_err-checked_mul-clause-none c).Joined-places-le-GROUP_PLACES
    (omega (arith, c.in_err-checked_mul.ensures)))

-- The sum does not fit 128 bits, so the limit is reached.
pub returns-in_err-size-clause-none : goal.returns-in_err-size-clause-none
returns-in_err-size-clause-none c = IfNone-always _ _
    (not_below (goal.at.returns-in_err-size-clause-none c).Joined-places-le-GROUP_PLACES
    (omega (arith, c.in_ok-checked_mul.ensures, c.in_err-size.ensures)))

-- The sum is taken in both branches.
size_is : (c : Joined-whole)
    → c.if-whole.size ≡ c.fields-whole.result.0 * c.args.unit_size + c.if-places-le-GROUP_PLACES.part
size_is c = grind arith

-- A size below the limit is the least one. `at` has the states before the end of the call.
pub returns-clause-least : goal.returns-clause-least
returns-clause-least c = grind (arith, size_is, size_least)

-- At the limit or above there is none.
pub returns-clause-none : goal.returns-clause-none
returns-clause-none c =
    let at = goal.at.returns-clause-none c in
    rw c.then_some.ensures (IfNone-below c.if-whole.size c.args.limit _ (λ reached.
    not_below at.Joined-places-le-GROUP_PLACES (omega (arith, reached, size_is at.Joined-whole))))
