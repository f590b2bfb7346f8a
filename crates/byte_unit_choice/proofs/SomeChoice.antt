-- A size has a chosen unit and number, or it is exact in no unit at the precision.
--
-- Of what is decided of a unit, `h.0` is that it is in the unit set, and `h.1` that it is not above the size and that
-- the size is exact in it. In `choice_or_none`, `found` is a unit, that it has the property, and that no other one with
-- it is larger; `exact` is a count and an equation.
use Rattle.std.proofs.Common.{ℕ, ◌*◌, ◌/◌, ◌%◌, ◌^◌, ◌-◌, ◌≤◌, ◌⊎◌, ⊎_elim, inl, inr, Bool, true, List, [], ◌∷◌, length}
use Rattle.std.proofs.Common.{arith, refl, sym, ap, subst}
use Rattle.std.proofs.Math.Nat.{div-add-mod', mul-mod_left}
use Rattle.std.proofs.lemmas.Bool.{cases_lt}
use Rattle.byte_unit_math.specs.Bounds.{places_of_decimal}
use Rattle.byte_unit_math.specs.Exact.{IsExactAt}
use Rattle.byte_unit_base.specs.Grammar.Shape.{Shape, bits}
use Rattle.byte_unit_base.specs.Grammar.Version.{Version}
use Rattle.byte_unit_choice.specs.Family.{HasKind}
use Rattle.byte_unit_choice.specs.Multiples.{units_of_prefixes}
use Rattle.byte_unit_choice.specs.Choice.{IsExactUnitIn, places_within}
use Rattle.byte_unit_choice.specs.ChoiceLaws.{EachSizeHasAChoiceOrNone}
use Rattle.byte_unit_choice.specs.declared.choice.Family.{Family}
use Rattle.byte_unit_choice.specs.declared.choice.Family.TheVariants.{All, Bytes}
use Rattle.byte_unit_choice.proofs.Falling.{IsIn, in_falling}

-- the fact holds, or it does not
abbrev Decided : Type 0 → Type 0
Decided Fact = Fact ⊎ ¬ Fact

-- if each of two facts holds or not, both hold or not
both_decided : {First Second : Type 0} → Decided First → Decided Second → Decided (First × Second)
both_decided (inl a) (inl b) = inl (a, b)
both_decided (inl a) (inr fails) = inr (λ h. fails h.1)
both_decided (inr fails) _ = inr (λ h. fails h.0)

-- a number is at most another, or it is not
le_decided : (a b : ℕ) → Decided (a ≤ b)
le_decided a b = ⊎_elim (λ l. inr (λ h. omega (arith, l, h))) (λ h. inl h) (cases_lt b a)

-- a unit set has units of a kind, or it has none
kind_decided : (family : Family) (bit : Bool) → Decided (HasKind family bit)
kind_decided All bit = inl tt
kind_decided Bytes true = grind arith
kind_decided _ bit = grind arith

-- a size is exact in a unit at some places, or it is not: the division leaves no remainder, or one
exact_decided : (size unit places : ℕ) → Decided (IsExactAt size unit places)
exact_decided size unit places =
    let scaled = size * 10 ^ places in
    ⊎_elim
    (λ none. inl (scaled / unit, omega (arith, div-add-mod' scaled unit, none)))
    (λ some. inr (λ e. omega (arith, ap (λ n. n % unit) e.1, mul-mod_left e.0 unit, some)))
    (cases_lt (scaled % unit) 1)

-- a unit is one of the set, not above the size, in which the size is exact, or it is not
states_decided : (version : Version) (family : Family) (in_bits precision : ℕ) (unit : Shape)
    → Decided (IsExactUnitIn version family in_bits precision unit)
states_decided version family in_bits precision unit =
    let prefix = both_decided (le_decided 1 unit.power) (le_decided unit.power (length version.letters)) in
    let member = both_decided prefix (kind_decided family unit.bit) in
    let exact = exact_decided in_bits (bits unit) (places_within precision) in
    ⊎_elim
    (λ h. inl (record {
      member = record { prefix = record { some = h.0.0.0; known = h.0.0.1 }; kind = h.0.1 };
      not_above = h.1.0;
      exact = h.1.1;
    }))
    (λ fails. inr (λ s. fails (((s.member.prefix.some, s.member.prefix.known), s.member.kind), (s.not_above, s.exact))))
    (both_decided member (both_decided (le_decided (bits unit) in_bits) exact))

-- one of these units is the largest that has the property, or none of them has it
abbrev LargestOrNone : (Shape → Type 0) → List Shape → Type 0
LargestOrNone Has units =
    ((unit : Shape) × Has unit × ((other : Shape) → IsIn other units → Has other → bits other ≤ bits unit))
    ⊎ ((unit : Shape) → IsIn unit units → ¬ (Has unit))

-- a property of units, and a unit `x` before the units `xs`
module _ (Has : Shape → Type 0) (x : Shape) (xs : List Shape) where
  -- a bound for the units that have the property is one with a unit more that is no larger, or does not have it
  bounds_more : (bound : ℕ) → (Has x → bits x ≤ bound)
      → ((other : Shape) → IsIn other xs → Has other → bits other ≤ bound)
      → (other : Shape) → IsIn other (x ∷ xs) → Has other → bits other ≤ bound
  bounds_more bound first rest other i h = grind arith

  -- with one unit more, there still is a largest unit that has the property, or none has it
  one_more : Decided (Has x) → LargestOrNone Has xs → LargestOrNone Has (x ∷ xs)
  one_more (inr fails) (inl (unit, found, low)) = inl (unit, found, bounds_more (bits unit) (λ h. absurd (fails h)) low)
  one_more (inr fails) (inr none) = inr (λ other i h. ⊎_elim (λ e. fails (subst Has (sym e) h)) (λ k. none other k h) i)
  one_more (inl has) (inr none) = grind (arith, bounds_more)
  one_more (inl has) (inl (unit, found, low)) =
      ⊎_elim
      (λ smaller. inl (unit, found, bounds_more (bits unit) (λ h. omega (arith, smaller)) low))
      (λ larger. inl (
        x,
        has,
        bounds_more (bits x) (λ h. omega arith)
            (λ other i h. omega (arith, low other i h, larger)),
      ))
      (cases_lt (bits x) (bits unit))

-- one of the units that have the property is the largest, or none has it
largest_or_none : (Has : Shape → Type 0) → ((unit : Shape) → Decided (Has unit)) → (units : List Shape)
    → LargestOrNone Has units
largest_or_none Has decided [] = inr (λ unit i h. i)
largest_or_none Has decided (x ∷ xs) = one_more Has x xs (decided x) (largest_or_none Has decided xs)

-- a size has a chosen unit and number, or it is exact in no unit at the precision
pub choice_or_none : EachSizeHasAChoiceOrNone
choice_or_none version family in_bits precision =
    let Has : Shape → Type 0 = IsExactUnitIn version family in_bits precision in
    let there =
    λ (unit : Shape) (s : Has unit).
    in_falling family (length version.letters) unit s.member.kind s.member.prefix.some s.member.prefix.known in
    ⊎_elim
    (λ found.
    let exact = found.1.exact in
    inl (
      found.0,
      exact.0 * 10 ^ (places_of_decimal - places_within precision),
      record {
        unit_is = record { has = found.1; largest = λ other s. found.2 other (there other s) s };
        number_is = record { count = exact.0; exact = exact.1; number = refl };
      },
    ))
    (λ none. inr (λ unit s. none unit (there unit s) s))
    (largest_or_none Has (states_decided version family in_bits precision)
    (units_of_prefixes family (length version.letters)))
