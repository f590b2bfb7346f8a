-- Whether a size is exact in a unit follows from their exponents of 2 and 5; so does the unit that is chosen.
--
-- The exponents `h` of a number are that of 2, that of 5, and that these are its exponents. The two parts of
-- `known_zeros` are for a byte and for a bit.
use Rattle.std.proofs.lemmas.Grind.{common_steps}
use Rattle.std.proofs.Common.{◌≡◌, ◌≢◌, ℕ, ◌+◌, ◌*◌, ◌^◌, ◌<◌, ◌≤◌, ◌⊎◌, inl, inr, arith, refl, sym, ap, ◌∙◌}
use Rattle.std.proofs.Math.Nat.{pow-le-pow_right, mul-le-mul_left}
use Rattle.std.proofs.lemmas.Nat.{pow-add}
use Rattle.std.specs.Int.{w128, trailing_zeros}
use Rattle.byte_unit_math.specs.Bounds.{scale, places_of_decimal, whole_limit}
use Rattle.byte_unit_math.specs.Steps.{saturating_add}
use Rattle.byte_unit_math.specs.Exact.{IsExactAt, IsLeastPlaces, IsQuotient}
use Rattle.byte_unit_math.specs.Powers.{IsTwoFive}
use Rattle.byte_unit_math.proofs.Powers.{exact_by_powers, numbers_have_exponents}
use Rattle.byte_unit_base.specs.Grammar.Shape.{Shape, bits, twos, fives}
use Rattle.byte_unit_base.specs.Grammar.Version.{current}
use Rattle.byte_unit_base.specs.Sizes.Kinds.{bits_in}
use Rattle.byte_unit_choice.specs.Choice.{IsLargest, NoneHas, IsExactUnit, IsChosen, CountsChoice, TakesSteps, places_within}
use Rattle.byte_unit_choice.specs.ChoiceLaws.{SizesAreExactByPowers}
use Rattle.byte_unit_choice.proofs.Quotients.{whole_takes_none}
use Rattle.byte_unit_choice.proofs.Rows.{HasPowers, IsMultiple}
use Rattle.byte_unit_base.specs.declared.kind.Kind.{Kind}
use Rattle.byte_unit_base.specs.declared.kind.Kind.TheVariants.{Byte, Bit}
use Rattle.byte_unit_choice.specs.declared.choice.Family.{Family}
use Rattle.byte_unit_choice.specs.Multiples.{ShapeRow}

-- a size that is not zero is not zero bits
some_bits_in : (kind : Kind) (size : ℕ) → size ≢ 0 → size * bits_in kind ≢ 0
some_bits_in Byte size some = λ e. some (omega (arith, e))
some_bits_in Bit size some = λ e. some (omega (arith, e))

-- the exponents of 2 and 5 decide whether a size that is not zero is exact in a unit
pub sizes_by_powers : SizesAreExactByPowers
sizes_by_powers kind size unit some =
    let h = numbers_have_exponents (size * bits_in kind) (some_bits_in kind size some) in
    record {
      size_twos = h.0;
      size_fives = h.1;
      powers = h.2;
      test = λ places. exact_by_powers (size * bits_in kind) (twos unit) (fives unit) h.0 h.1 places h.2;
    }

-- eight times a number has the exponent of 2 greater by three, and the same exponent of 5
pub eight_times : (size a b : ℕ) → IsTwoFive size a b → IsTwoFive (size * 8) (a + 3) b
eight_times size a b h =
    let e = ap (λ n. n * 8) h.product in
    let p = ap (λ n. h.left * (n * 5 ^ b)) (pow-add 2 a 3) in
    record { left = h.left; product = e ∙ (omega arith ∙ sym p); odd = h.odd; no_five = h.no_five }

-- 8, the bits of a byte, has three trailing zero bits, and 1 has none
known_zeros : (trailing_zeros w128 8 ≡ 3) × (trailing_zeros w128 1 ≡ 0)
unfolding lib.Count.count_trailing_zeros
known_zeros = (refl, refl)

-- a size in bits has the exponents of the size in its kind, that of 2 greater by three for bytes
pub in_bits_powers : (size own_bits a b : ℕ) → (own_bits ≡ 8) ⊎ (own_bits ≡ 1) → IsTwoFive size a b
    → IsTwoFive (size * own_bits) (a + trailing_zeros w128 own_bits) b
in_bits_powers size own_bits a b (inl e) h = rw (e, known_zeros.0) (eight_times size a b h)
in_bits_powers size own_bits a b (inr e) h =
    let once : size * 1 ≡ size = omega arith in
    let none : a + 0 ≡ a = omega arith in
    rw (e, known_zeros.1, once, none) h

-- a size in bits is 2 and 5 to its exponents times the factor that is left, as the size in its kind is
pub in_bits_product : (size own_bits left a b : ℕ) → (own_bits ≡ 8) ⊎ (own_bits ≡ 1) → left * (2 ^ a * 5 ^ b) ≡ size
    → left * (2 ^ (a + trailing_zeros w128 own_bits) * 5 ^ b) ≡ size * own_bits
in_bits_product size own_bits left a b (inl e) h =
    rw (e, known_zeros.0, pow-add 2 a 3) (omega (arith, ap (λ n. n * 8) h))
in_bits_product size own_bits left a b (inr e) h =
    let none : a + 0 ≡ a = omega arith in
    rw (e, known_zeros.1, none) (h ∙ omega arith)

-- the units with no greater exponents than those of the size plus the places are those in which it is exact
module _ {family : Family} {in_bits most a b : ℕ} (precision : ℕ) (same : most ≡ places_within precision)
    (powers : IsTwoFive in_bits a b) where
  -- a unit whose exponents are no greater than those of the size plus the places is one in which the size is exact
  exact_of_powers : (unit : Shape) → HasPowers family in_bits (a + most) (b + most) unit
      → IsExactUnit family in_bits precision unit
  exact_of_powers unit h = grind (arith, common_steps, exact_by_powers in_bits (twos unit) (fives unit) a b most powers)

  -- a unit in which the size is exact has no greater exponents than those of the size plus the places
  powers_of_exact : (unit : Shape) → IsExactUnit family in_bits precision unit
      → HasPowers family in_bits (a + most) (b + most) unit
  powers_of_exact unit s = grind (arith, common_steps, exact_by_powers in_bits (twos unit) (fives unit) a b most powers)

  -- the largest unit with no greater exponents than those of the size plus the places is chosen, with its quotient
  pub chosen_by_powers : {number : ℕ} (unit : Shape) → IsLargest (HasPowers family in_bits (a + most) (b + most)) unit
      → IsQuotient in_bits (bits unit) (places_within most) number → IsChosen family in_bits precision unit number
  chosen_by_powers {number} unit h q = grind (arith, exact_of_powers, powers_of_exact)

  -- if no unit has exponents that are small enough, the size is exact in no unit
  pub none_by_powers : NoneHas (HasPowers family in_bits (a + most) (b + most))
      → NoneHas (IsExactUnit family in_bits precision)
  none_by_powers none = λ unit s. none unit (powers_of_exact unit s)

-- a size is exact in a unit whose exponents are no greater than its own plus the places
pub exact_by_row : {family : Family} {in_bits most a b B : ℕ} (unit : Shape) → most ≤ places_of_decimal → B ≡ bits unit
    → IsTwoFive in_bits a b
    → HasPowers family in_bits (a + most) (b + most) unit → IsExactAt in_bits B (places_within most)
exact_by_row {most = most} unit room same powers h =
    rw same (exact_of_powers most (omega (arith, room)) powers unit h).exact

-- with at most five digits after the point, a size divided by a unit stays below the limit of a whole part
pub count_fits : {row : ShapeRow} (size own_bits places : ℕ) → IsMultiple row → (own_bits ≡ 8) ⊎ (own_bits ≡ 1)
    → size < current.size_limit → places ≤ 5 → size * own_bits * 10 ^ places < whole_limit * row.bits
count_fits {row} size own_bits places multiple kind small few =
    grind (arith, common_steps, pow-le-pow_right {n = 10} (omega arith) {i = places} {j = 5} few, mul-le-mul_left)

-- the steps of the two trials, and then of the division, are the step count of a choice
pub counted_choice : {size number a b places : ℕ} (old mid new : ℕ) → IsTwoFive size a b
    → IsLeastPlaces number scale places
    → mid ≡ saturating_add old (a + b + 2) → new ≡ saturating_add mid places → CountsChoice size number old new
counted_choice {size} {number} {a} {b} {places} old mid new powers least trials division =
    let steps : TakesSteps size number (a + b + 2 + places) = record {
      twos = a;
      fives = b;
      places = places;
      powers = powers;
      is_places = least;
      steps_are = refl;
    } in
    inr (a + b + 2 + places, steps, omega (arith, trials, division))

-- a size in its base unit has the step count of a size for which no unit is chosen
pub counted_whole : (size number old new : ℕ) → number ≡ size * scale → CountsChoice size 0 old new
    → CountsChoice size number old new
counted_whole size number old new value (inl h) = inl h
counted_whole size number old new value (inr (steps, t, e)) =
    let none : t.places ≤ 0 = t.is_places.least 0 (0, omega arith) in
    let whole : IsLeastPlaces number scale 0 = rw value (whole_takes_none size) in
    counted_choice old new new t.powers whole (omega (arith, e, t.steps_are, none)) (omega arith)
