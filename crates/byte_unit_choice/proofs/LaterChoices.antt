-- The laws of the chosen unit at a precision of 0, at higher precisions, and of its product with the number.
--
-- That a unit divides a size, as `d`, is a count, `d.0`, and an equation, `d.1`.
use Rattle.std.proofs.Common.{ℕ, ◌<◌, ◌≤◌, ⊎_elim, arith, mul-le-mul_right}
use Rattle.byte_unit_math.proofs.Expanding.{IsQuotient-times}
use Rattle.byte_unit_base.specs.Grammar.Shape.{Shape, bits}
use Rattle.byte_unit_base.specs.Grammar.Version.{Version}
use Rattle.byte_unit_choice.specs.Family.{InFamily}
use Rattle.byte_unit_choice.specs.Choice.{IsLargest, IsExactUnitIn, places_within}
use Rattle.byte_unit_choice.specs.ChoiceLaws.{Divides, MorePlacesGiveNoSmallerUnit, NumberTimesUnitIsSize}
use Rattle.byte_unit_choice.specs.declared.choice.Family.{Family}
use Rattle.byte_unit_math.proofs.Expanding.{exact_more}
use Rattle.byte_unit_choice.proofs.Choosing.{some_bits}
use Rattle.byte_unit_choice.proofs.SomeChoice.{choice_or_none}

-- a unit of the set that is larger than the one chosen at a precision of 0 does not divide the size
pub no_larger_divides : (version : Version) (family : Family) (in_bits : ℕ) (unit : Shape)
    → IsLargest (IsExactUnitIn version family in_bits 0) unit
    → (other : Shape) → InFamily version family other → bits unit < bits other → ¬ (Divides other in_bits)
no_larger_divides version family in_bits unit h other member larger = λ d.
    let some : 1 ≤ in_bits = omega (arith, some_bits unit, h.has.not_above) in
    let times : 1 ≤ d.0 = grind (arith, d.1, some) in
    let fits = mul-le-mul_right {m = 1} {n = d.0} (bits other) times in
    let k = h.largest other (record {
      member = member;
      not_above = omega (arith, fits, d.1);
      exact = (d.0, omega (arith, d.1));
    }) in
    omega (arith, larger, k)

-- a higher precision does not choose a smaller unit, and it chooses one if the lower does
pub no_smaller : MorePlacesGiveNoSmallerUnit
no_smaller version family in_bits low high number unit le h =
    let s = h.unit_is.has in
    let exact = exact_more in_bits (bits unit) (places_within low) (places_within high) (omega (arith, le)) s.exact in
    let states : IsExactUnitIn version family in_bits high unit =
    record { member = s.member; not_above = s.not_above; exact = exact } in
    record {
      some = ⊎_elim (λ found. found) (λ none. absurd (none unit states)) (choice_or_none version family in_bits high);
      larger = λ other n k. k.unit_is.largest unit states;
    }

-- the chosen number times the chosen unit is the size, scaled by 10^28
pub number_times_chosen : NumberTimesUnitIsSize
number_times_chosen version family in_bits precision number unit h =
    IsQuotient-times in_bits (bits unit) (places_within precision) number (omega arith) h.number_is
