-- The first row that passes the test is the largest unit in which the size is exact; the number times the unit is the
-- size; if no row passes, no unit of the set is such. The steps are those of `factors_of` and one for each place.
use Rattle.std.proofs.lemmas.Grind.{common_steps}
use Rattle.std.proofs.Common.{rules, ◌≡◌, ◌*◌, ◌^◌, ℕ, arith, refl, ap, subst, sym, ◌∙◌}
use Rattle.std.proofs.lemmas.Bool.{both_ways}
use Rattle.byte_unit_math.specs.Bounds.{scale, whole_limit}
use Rattle.byte_unit_math.specs.Exact.{IsLeastPlaces}
use Rattle.byte_unit_math.specs.Steps.{saturating_add}
use Rattle.byte_unit_choice.proofs.Choosing.{some_bits}
use Rattle.byte_unit_choice.proofs.FewSteps.{few_of_choice, few_of_none}
use Rattle.byte_unit_choice.proofs.Quotients.{quotient_of_product, whole_takes_none}
use Rattle.byte_unit_choice.proofs.Rows.{HasPowers, no_row, search_start, power_of_powers, row_multiple}
use Rattle.byte_unit_choice.proofs.Rows.{row_at_is_row, row_powers, powers_in_row, unit_found, unit_passed, none_found}
use Rattle.byte_unit_choice.proofs.SizePowers.{in_bits_powers, in_bits_product, chosen_by_powers, none_by_powers}
use Rattle.byte_unit_choice.proofs.SizePowers.{exact_by_row, counted_choice, count_fits}
use Rattle.byte_unit_choice.proofs.choice.choose_unit.Goals as goal
use Rattle.byte_unit_choice.proofs.choice.choose_unit.Goals.{then-places-gt-FEW_PLACES, else-places-gt-FEW_PLACES}

-- every unit is above the size 0
pub returns-then-size-eq0-clause-none : goal.returns-then-size-eq0-clause-none
returns-then-size-eq0-clause-none c = grind (arith, some_bits)

-- before the first row, each unit with small enough exponents is among the rows, since its prefix is among those that
-- are listed
pub loop-row-init : goal.loop-row-init
loop-row-init c =
    let in_bits = c.args.size * c.args.own_bits in
    let few = HasPowers c.args.family in_bits _ _ in
    record {
      remain = search_start few c.args.family in_bits _ c.multiples_within-row-items.result.now
          c.multiples_within-row-items.ensures
          (λ unit h.
          let among = power_of_powers unit _ _ h.few_twos h.few_fives in
          (h.member, h.not_above, omega (arith, among, c.max-first.ensures)));
      steps = refl;
    }

-- the row failed the test, so its unit is above the size or has too great exponents, and the others are in later rows
pub loop-row-preserved : goal.loop-row-preserved
loop-row-preserved c =
    let in_bits = c.args.size * c.args.own_bits in
    let rows = c.multiples_within-row-items.result.now in
    let i = c.loop-row.row-index in
    let is_row = row_at_is_row no_row c.multiples_within-row-items.ensures c.loop-row-test.true in
    record {
      remain = unit_passed _ rows i no_row c.loop-row.invariant.remain c.loop-row-test.true
          (λ h. both_ways _ c.if-row-in_bits.false (powers_in_row in_bits _ _ is_row h));
      steps = c.loop-row.invariant.steps;
    }

-- the size is exact in the unit of the row within the places, which the test of the row has found
pub quotient_by-number-requires : goal.quotient_by-number-requires
quotient_by-number-requires c =
    let in_bits = c.args.size * c.args.own_bits in
    let is_row = row_at_is_row no_row c.multiples_within-row-items.ensures c.loop-row-test.true in
    let multiple = row_multiple is_row in
    let has = row_powers in_bits _ _ is_row c.if-row-in_bits.true in
    let powers = in_bits_powers c.args.size c.args.own_bits _ _ c.requires.own_bits c.factors_of-left.ensures.powers in
    record {
      some_unit = omega (arith, multiple.large);
      small_unit = omega (arith, multiple.small);
      small_size = search rules;
      exact = exact_by_row _ (omega (arith, c.min-most.ensures)) is_row.bits_are powers has;
    }

-- with few places, the quotient times 10^places is below the limit of a whole part
pub factored_quotient-number-requires-clause-bound : goal.factored_quotient-number-requires-clause-bound
factored_quotient-number-requires-clause-bound c =
    let multiple = row_multiple (row_at_is_row no_row c.multiples_within-row-items.ensures c.loop-row-test.true) in
    let product = in_bits_product c.args.size c.args.own_bits _ _ _ c.requires.own_bits
    c.factors_of-left.ensures.product in
    let few = c.max-places.result in
    let fits = count_fits c.args.size c.args.own_bits few multiple c.requires.own_bits c.requires.small (omega arith) in
    omega (arith, fits, ap (λ n. n * 10 ^ few) product, ap (λ n. whole_limit * n) multiple.powers)

-- the number times the unit is the size, whichever function has divided
pub returns-then-row-in_bits-clause-exact : goal.returns-then-row-in_bits-clause-exact
returns-then-row-in_bits-clause-exact c =
    let in_bits = c.args.size * c.args.own_bits in
    let is_row = row_at_is_row no_row c.multiples_within-row-items.ensures c.loop-row-test.true in
    let multiple = row_multiple is_row in
    let product = in_bits_product c.args.size c.args.own_bits _ _ _ c.requires.own_bits
    c.factors_of-left.ensures.product in
    ap (λ n. c.if-places-gt-FEW_PLACES.number * n) (sym is_row.bits_are) ∙
    elim c.if-places-gt-FEW_PLACES.branch [
      | then-places-gt-FEW_PLACES w ↦
          ap (λ n. n * _) w.number-is
          ∙ w.quotient_by-number.ensures.exact
      | else-places-gt-FEW_PLACES w ↦
          ap (λ n. n * _) w.number-is
          ∙ (ap (λ n. w.factored_quotient-number.result * n) multiple.powers
          ∙ (w.factored_quotient-number.ensures.exact ∙ ap (λ n. n * scale) product))
    ]

-- `found` says that the unit of the row is the largest one, `exact` that the size is exact in it, and `quotient` that
-- the number is the quotient
pub returns-then-row-in_bits-clause-chosen : goal.returns-then-row-in_bits-clause-chosen
returns-then-row-in_bits-clause-chosen c =
    let in_bits = c.args.size * c.args.own_bits in
    let listed = c.multiples_within-row-items.ensures in
    let i = c.loop-row.row-index in
    let has = row_powers in_bits _ _ (row_at_is_row no_row listed c.loop-row-test.true) c.if-row-in_bits.true in
    let found = unit_found _ i no_row listed c.loop-row.invariant.remain c.loop-row-test.true has in
    let powers = in_bits_powers c.args.size c.args.own_bits _ _ c.requires.own_bits c.factors_of-left.ensures.powers in
    let exact = exact_by_row _ (omega (arith, c.min-most.ensures)) refl powers has in
    let quotient = quotient_of_product _ _ _ _ (some_bits _) (omega arith)
    (returns-then-row-in_bits-clause-exact c) exact in
    chosen_by_powers c.args.places c.min-most.ensures powers _ found quotient

-- `counted` is the number of places, that it is the least one, and the steps after them; `places` is the same of one
-- branch
pub returns-then-row-in_bits-clause-steps : goal.returns-then-row-in_bits-clause-steps
returns-then-row-in_bits-clause-steps c =
    let multiple = row_multiple (row_at_is_row no_row c.multiples_within-row-items.ensures c.loop-row-test.true) in
    let mid = c.factors_of-left.new.steps in
    let trials = c.factors_of-left.ensures in
    let unmoved = c.loop-row.invariant.steps in
    let number = c.if-places-gt-FEW_PLACES.number in
    let counted : (places : ℕ) × IsLeastPlaces number scale places
    × (c.if-places-gt-FEW_PLACES.steps ≡ saturating_add mid places) =
    elim c.if-places-gt-FEW_PLACES.branch [
      | then-places-gt-FEW_PLACES w ↦
          let places = w.quotient_by-number.ensures.steps in
          let same = subst (λ n. IsLeastPlaces n scale places.0) (sym w.number-is) places.1 in
          (places.0, same, omega (arith, w.steps-is, places.2, unmoved))
      | else-places-gt-FEW_PLACES w ↦
          let places = w.factored_quotient-number.ensures.steps in
          let same = subst (λ n. IsLeastPlaces n scale places.0) (sym w.number-is) places.1 in
          (places.0, same, omega (arith, w.steps-is, places.2, unmoved))
    ] in
    counted_choice {places = counted.0} c.args.steps.now mid c.if-places-gt-FEW_PLACES.steps trials.powers counted.1
    trials.steps counted.2

-- the step count of a choice is bounded
pub returns-then-row-in_bits-clause-few_steps : goal.returns-then-row-in_bits-clause-few_steps
returns-then-row-in_bits-clause-few_steps c = λ kind same.
    few_of_choice kind c.args.family c.args.size c.args.places _ _ _ _ c.requires.small
    (rw same at (returns-then-row-in_bits-clause-chosen c)) (returns-then-row-in_bits-clause-steps c)

-- no row has passed, so the size is exact in no unit
pub returns-clause-none : goal.returns-clause-none
returns-clause-none c =
    let powers = in_bits_powers c.args.size c.args.own_bits _ _ c.requires.own_bits c.factors_of-left.ensures.powers in
    none_by_powers c.args.places c.min-most.ensures powers
    (none_found _ c.multiples_within-row-items.result.now c.loop-row.row-index c.loop-row-test.false
    c.loop-row.invariant.remain)

-- only the trials of `factors_of` are counted
pub returns-clause-steps_of_none : goal.returns-clause-steps_of_none
returns-clause-steps_of_none c = grind (arith, common_steps, counted_choice, whole_takes_none 0)

-- without a choice, the steps of `factors_of` are within the same bound
pub returns-clause-few_steps : goal.returns-clause-few_steps
returns-clause-few_steps c = grind (arith, few_of_none, returns-clause-steps_of_none)
