-- Long division: the remainder is zero after at most 93 digits, since the fraction is exact with 93 digits after the
-- point, so the array is long enough.
use Rattle.std.proofs.Common.{◌≡◌, ◌≢◌, ◌+◌, ◌*◌, ◌^◌, ◌<◌, inl, inr, ℕ, arith, ap, sym}
use Rattle.std.proofs.Math.Nat.{div-add-mod'}
use Rattle.std.proofs.lemmas.Nat.{div_below, mod_below}
use Rattle.byte_unit_math.specs.Bounds.{expansion_places}
use Rattle.byte_unit_math.specs.Exact.{IsExactAt}
use Rattle.byte_unit_math.proofs.Expanding.{IsDividing-start, IsDividing-more, IsDividing-ended, IsDividing-room}
use Rattle.byte_unit_math.proofs.Expanding.{IsPending-more, pending_rest, pending_rest-some, pending_rest-end}
use Rattle.byte_unit_math.proofs.Texts.{expansion_of_same_fraction}
use Rattle.byte_unit_math.proofs.expansion.divide.Goals.{Start, After-div_rem_unit-group, Then-left-ne0}
use Rattle.byte_unit_math.proofs.expansion.divide.Goals as goal

-- The number to be expanded, times the denominator and 10^10.
abbrev scaled_number : Start → ℕ
scaled_number c = (c.args.whole * c.args.den + c.args.remainder) * 10 ^ 10

-- With this denominator, the fraction is exact with 93 digits after the point.
ends : (c : Start) → IsExactAt (scaled_number c) (c.args.den * 10 ^ 10) expansion_places
ends c = (c.requires.ends.0, omega (arith, ap (λ n. n * 10 ^ 10) c.requires.ends.1))

-- Before the first digit all of the remainder is left.
pub loop-rest-init : goal.loop-rest-init
loop-rest-init c =
    let start = IsDividing-start c.args.whole (c.args.remainder * 10 ^ 10) (c.args.den * 10 ^ 10) (omega (arith, c.requires.bound)) in
    let same : c.args.whole * (c.args.den * 10 ^ 10) + c.args.remainder * 10 ^ 10 ≡ scaled_number (goal.at.loop-rest-init c).Start =
    omega arith in
    rw same at start

-- A group has at most ten digits.
group_below : (c : After-div_rem_unit-group) → c.div_rem_unit-group.result.0 < 10 ^ 10
group_below c = rw c.div_rem_unit-group.ensures.quotient (div_below (c.loop-rest.rest * 10 ^ 10) c.args.den (10 ^ 10)
    (omega arith) (omega (arith, c.loop-rest.invariant.below)))

-- A group fits 64 bits.
pub overflow_cast-shifted : goal.overflow_cast-shifted
overflow_cast-shifted c = omega (arith, group_below c)

-- No digit of the group is written yet.
pub loop-count-init : goal.loop-count-init
loop-count-init c =
    let group = c.div_rem_unit-group in
    let parts : pending_rest c.args.den group.result.1 group.result.0 0 ≡ c.loop-rest.rest * 10 ^ 10 =
    rw (group.ensures.quotient, group.ensures.rest) (omega (arith, div-add-mod' (c.loop-rest.rest * 10 ^ 10) c.args.den)) in
    record {
      pending = record {
        group = group.result.0;
        shifted_is = omega arith;
        small = group_below c;
        below = rw group.ensures.rest (mod_below (c.loop-rest.rest * 10 ^ 10) c.args.den (omega arith));
        few = omega arith;
      };
      divides = rw parts c.loop-rest.invariant;
      places_are = omega arith;
      some = λ _ none. c.loop-rest-test.true (omega (arith, parts, none));
    }

-- Something is left.
some : (c : Then-left-ne0) → pending_rest c.args.den c.div_rem_unit-group.result.1 c.loop-count.shifted c.loop-count.count ≢ 0
some c = pending_rest-some _ _ _ _ (omega arith) c.if-left-ne0.either

-- While something is left, there is a place for one more digit.
pub bounds-digits-places : goal.bounds-digits-places
bounds-digits-places c = IsDividing-room _ _ _ _ _ _ c.loop-count.invariant.divides (ends (goal.at.bounds-digits-places c).Start)
    (some (goal.at.bounds-digits-places c).Then-left-ne0)

-- One more digit of the long division.
pub loop-count-preserved : goal.loop-count-preserved
loop-count-preserved c =
    let l = c.loop-count in
    let step = IsPending-more _ _ _ _ l.invariant.pending c.loop-count-test.true in
    record {
      pending = step.2;
      divides = rw (sym step.0, sym step.1) (IsDividing-more _ _ _ _ _ _ l.invariant.divides
          (ends (goal.at.loop-count-preserved c).Start) (some (goal.at.loop-count-preserved c).Then-left-ne0));
      places_are = omega (arith, l.invariant.places_are);
      some = λ none. absurd (omega (arith, none));
    }

-- All digits of the group but zeros at its end are written, and there are some.
pub loop-rest-smaller-else-left-ne0 : goal.loop-rest-smaller-else-left-ne0
loop-rest-smaller-else-left-ne0 c =
    let l = c.loop-count.invariant in
    let end = pending_rest-end _ _ _ _ l.pending (inl c.if-left-ne0.false) in
    let written : c.loop-count.count ≢ 0 = λ none. l.some none (omega (arith, end, c.if-left-ne0.false.1)) in
    omega (arith, l.places_are, l.divides.few, written)

-- The remainder of the group is left.
pub loop-rest-preserved-else-left-ne0 : goal.loop-rest-preserved-else-left-ne0
loop-rest-preserved-else-left-ne0 c =
    let l = c.loop-count.invariant in rw (pending_rest-end _ _ _ _ l.pending (inl c.if-left-ne0.false)) at l.divides

-- Ten digits are written.
pub loop-rest-smaller : goal.loop-rest-smaller
loop-rest-smaller c =
    let l = c.loop-count.invariant in omega (arith, l.places_are, l.divides.few, c.loop-count-test.false)

-- The remainder of the group is left.
pub loop-rest-preserved : goal.loop-rest-preserved
loop-rest-preserved c =
    let l = c.loop-count.invariant in rw (pending_rest-end _ _ _ _ l.pending (inr c.loop-count-test.false)) at l.divides

-- No remainder is left.
pub returns : goal.returns
returns c =
    expansion_of_same_fraction _ _ _ _ _ (record { positive = omega arith; positive' = omega arith; same = omega arith })
    (IsDividing-ended _ _ _ _ _ _ c.loop-rest.invariant (omega (arith, c.loop-rest-test.false)))
