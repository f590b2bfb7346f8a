-- Long division gives the exact quotient, or finds that it is not exact with that many digits after the point.
use Rattle.std.proofs.Common.{ℕ, ◌≡◌, ◌+◌, ◌*◌, ◌^◌, ◌<◌, ⊎_elim, inl, inr, min, arith, subst, refl}
use Rattle.std.proofs.Math.Nat.{pow-le-pow_right}
use Rattle.std.proofs.lemmas.Bool.{cases_lt}
use Rattle.std.proofs.lemmas.Nat.{mul-le}
use Rattle.byte_unit_math.specs.Bounds.{places_of_decimal, scale, unit_limit}
use Rattle.byte_unit_math.specs.Exact.{IsExactAt}
use Rattle.byte_unit_math.proofs.Expanding.{Dividing, Dividing-more, exact_more, not_exact}
use Rattle.byte_unit_math.proofs.Expanding.{IsQuotient-digits, IsQuotient-times}
use Rattle.byte_unit_math.proofs.Scales.{pow10_bounds}
use Rattle.byte_unit_math.proofs.Texts.{IsLeastPlaces-same_fraction}
use Rattle.byte_unit_math.proofs.quotient.exact_quotient.Goals.{After-div_rem-group}
use Rattle.byte_unit_math.proofs.quotient.exact_quotient.Goals as goal

-- The remainder times at most 10^10 fits 128 bits.
pub overflow_mul-rest : goal.overflow_mul-rest
overflow_mul-rest c =
    let power = pow-le-pow_right {n = 10} (omega arith) {i = c.min-count.result} {j = 10} (omega (arith, c.min-count.ensures)) in
    let product = mul-le c.loop-rest.rest (10 ^ c.min-count.result) unit_limit (10 ^ 10)
    (omega (arith, c.loop-rest.invariant.divides.small)) power in
    rw c.power_of_ten-power.ensures (omega (arith, product))

-- The digits so far and those of the group are those of the long division.
next : (c : After-div_rem-group) → Dividing c.args.size c.args.unit c.div_rem-group.result.1
    (c.loop-rest.fraction * c.power_of_ten-power.result + c.div_rem-group.result.0)
    (c.loop-rest.digits + c.min-count.result)
next c = rw (c.div_rem-group.ensures.quotient, c.div_rem-group.ensures.rest, c.power_of_ten-power.ensures)
    (Dividing-more _ _ _ _ _ c.min-count.result c.requires.some_unit c.loop-rest.invariant.divides)

-- The digits so far, with those of the group, are below 10^28.
next_below : (c : After-div_rem-group)
    → c.loop-rest.fraction * c.power_of_ten-power.result + c.div_rem-group.result.0 < scale
next_below c =
    let digits = pow10_bounds (c.loop-rest.digits + c.min-count.result)
    (omega (arith, c.min-count.ensures, c.min-most.ensures, c.if-digits-most.true)) in
    omega (arith, (next c).below, digits)

-- The digits so far, with those of the group, fit 128 bits.
pub overflow_mul-fraction : goal.overflow_mul-fraction
overflow_mul-fraction c = omega (arith, next_below (goal.at.overflow_mul-fraction c).After-div_rem-group)

-- The digits so far, with those of the group, fit 128 bits.
pub overflow_add-fraction : goal.overflow_add-fraction
overflow_add-fraction c = omega (arith, next_below (goal.at.overflow_add-fraction c).After-div_rem-group)

-- One more group of the long division.
pub loop-rest-preserved : goal.loop-rest-preserved
loop-rest-preserved c = record {
  few = omega (arith, c.min-count.ensures, c.if-digits-most.true);
  divides = next (goal.at.loop-rest-preserved c).After-div_rem-group;
}

-- A remainder is left after all places, so the quotient is not exact in them.
pub returns-then-rest-gt0-clause-none : goal.returns-then-rest-gt0-clause-none
returns-then-rest-gt0-clause-none c = λ exact.
    let all : min c.args.places places_of_decimal ≡ c.loop-rest.digits = grind arith in
    not_exact _ _ _ _ _ c.loop-rest.invariant.divides c.if-rest-gt0.true
    (subst (IsExactAt c.args.size c.args.unit) all exact)

-- Nor is it exact in fewer, so all places are counted.
pub returns-then-rest-gt0-clause-steps : goal.returns-then-rest-gt0-clause-steps
returns-then-rest-gt0-clause-steps c =
    let most : ℕ = min c.args.places places_of_decimal in
    let first = λ (fewer : ℕ) (exact : IsExactAt c.args.size c.args.unit fewer).
    ⊎_elim (λ below. absurd (returns-then-rest-gt0-clause-none c
    (exact_more c.args.size c.args.unit fewer most (omega (arith, below)) exact))) (λ k. k) (cases_lt fewer most) in
    (most, record { few = omega arith; first = first; ends = inr refl }, omega (arith, c.advance_by.ensures, c.min-most.ensures))

-- No remainder is left, so the digits are the quotient.
pub returns-clause-quotient : goal.returns-clause-quotient
returns-clause-quotient c = grind (arith, IsQuotient-digits)

-- The quotient times the unit is the size.
pub returns-clause-exact : goal.returns-clause-exact
returns-clause-exact c =
    IsQuotient-times c.args.size c.args.unit (min c.args.places places_of_decimal) c.from_digits-number.result (omega arith)
    (returns-clause-quotient c)

-- The places of the number are the least at which the quotient is exact.
pub returns-clause-steps : goal.returns-clause-steps
returns-clause-steps c =
    let quotient = returns-clause-quotient c in
    let least = IsLeastPlaces-same_fraction (record {
      positive = omega arith;
      positive' = omega (arith, c.requires.some_unit);
      same = returns-clause-exact c;
    }) c.places.ensures.least in (
      c.places.result,
      record { few = least.least _ (quotient.count, quotient.exact); first = least.least; ends = inl least.has },
      c.advance_by-2.ensures,
    )
