-- The greatest step count of choosing a unit.
--
-- The `test` whether a size is exact in a unit gives two parts, for the exponent of 2 and for that of 5; before it is
-- applied, its parts are its two directions.
use Rattle.std.proofs.lemmas.Grind.{common_steps}
use Rattle.std.proofs.Common.{◌≡◌, ℕ, ◌+◌, ◌-◌, ◌*◌, ◌^◌, ◌<◌, ◌≤◌, ⊎_elim, inl, inr}
use Rattle.std.proofs.Common.{Bool, true, false, ltb, max, refl, arith, ap, ◌∙◌, subst}
use Rattle.std.proofs.Math.Nat.{mul-le-mul_left, mul-le-mul_right, one-le-pow, pow-le-pow_left, pow-le-pow_right}
use Rattle.std.proofs.lemmas.Bool.{agree_below, agree_below_at, cases_lt, ltb-true}
use Rattle.std.proofs.lemmas.Nat.{pow-add, mul-pow}
use Rattle.byte_unit_math.specs.Bounds.{scale}
use Rattle.byte_unit_math.specs.Steps.{saturating_add}
use Rattle.byte_unit_math.specs.Exact.{IsLeastPlaces}
use Rattle.byte_unit_math.specs.Powers.{IsTwoFive}
use Rattle.byte_unit_math.proofs.Expanding.{IsQuotient-times}
use Rattle.byte_unit_math.proofs.Powers.{exact_by_powers, places_by_powers}
use Rattle.byte_unit_base.specs.Grammar.Shape.{Shape, shape, bits, twos, fives}
use Rattle.byte_unit_choice.specs.Multiples.{prefix_count}
use Rattle.byte_unit_base.specs.Grammar.Version.{current}
use Rattle.byte_unit_base.specs.Sizes.Kinds.{bits_in}
use Rattle.byte_unit_choice.specs.Choice.{IsLargest, IsExactUnit, IsChosen, CountsChoice, places_within, most_steps}
use Rattle.byte_unit_base.specs.declared.kind.Kind.{Kind}
use Rattle.byte_unit_base.specs.declared.kind.Kind.TheVariants.{Byte, Bit}
use Rattle.byte_unit_choice.specs.declared.choice.Family.{Family}
use Rattle.byte_unit_choice.proofs.Choosing.{some_bits}
use Rattle.byte_unit_choice.proofs.Quotients.{stated_where_exact}
use Rattle.byte_unit_choice.proofs.SizePowers.{eight_times}

-- a number is at least the product of its powers
powers_below : (n a b : ℕ) → IsTwoFive n a b → 2 ^ a * 5 ^ b ≤ n
powers_below n a b h =
    let some : 1 ≤ h.left = grind (arith, h.odd) in
    omega (arith, mul-le-mul_right {m = 1} {n = h.left} (2 ^ a * 5 ^ b) some, h.product)

-- a + 2 b <= 102 for the exponents a of 2 and b of 5 in a number below 2^103, since 5 is greater than 2^2
few_powers : (n a b : ℕ) → IsTwoFive n a b → n < 2 ^ 103 → a + 2 * b ≤ 102
few_powers n a b h small =
    let fours = pow-le-pow_left {n = 4} {m = 5} (omega arith) b in
    let squares : 2 ^ (b + b) ≤ 5 ^ b = omega (arith, pow-add 2 b b, mul-pow 2 2 b, fours) in
    let product = mul-le-mul_left {m = 2 ^ (b + b)} {n = 5 ^ b} (2 ^ a) squares in
    let reached : 2 ^ (a + (b + b)) ≤ n = omega (arith, pow-add 2 a (b + b), product, powers_below n a b h) in
    ⊎_elim
    (λ many.
    let more = pow-le-pow_right {n = 2} (omega arith) {i = 103} {j = a + (b + b)} (omega (arith, many)) in
    absurd (omega (arith, more, reached, small)))
    (λ few. omega (arith, few))
    (cases_lt 102 (a + (b + b)))

-- the greatest binary unit that counts bits, or bytes
abbrev greatest : Bool → Shape
greatest bit = shape 9 true bit

-- by computation, for bytes and for bits: each decimal unit up to the last prefix is smaller than it
known_decimal_units : (bit : Bool)
    → agree_below (λ n. ltb (bits (shape n false bit)) (bits (greatest bit))) (λ n. true) (prefix_count + 1) ≡ true
known_decimal_units true = refl
known_decimal_units false = refl

-- each decimal unit is smaller than the greatest binary unit of the same kind
decimal_below : (power : ℕ) (bit : Bool) → power ≤ prefix_count → bits (shape power false bit) < bits (greatest bit)
decimal_below power bit known =
    ltb-true _ _ (agree_below_at (λ n. ltb (bits (shape n false bit)) (bits (greatest bit))) (λ n. true)
    (prefix_count + 1) power (known_decimal_units bit) (omega (arith, known)))

-- a size in bits with the exponents `a` of 2 and `b` of 5, for which a decimal unit is chosen
module _ (family : Family) (in_bits precision a b power : ℕ) (bit : Bool) (powers : IsTwoFive in_bits a b)
    (chosen : IsLargest (IsExactUnit family in_bits precision) (shape power false bit)) where
  -- the size is below the greatest binary unit, if that unit has few enough twos for the size to be exact in it
  below_greatest : twos (greatest bit) ≤ a + places_within precision → in_bits < bits (greatest bit)
  below_greatest few =
      ⊎_elim (λ below. below)
      (λ above.
      let test = exact_by_powers in_bits (twos (greatest bit)) 0 a b (places_within precision) powers in
      let states : IsExactUnit family in_bits precision (greatest bit) = record {
        member = record { prefix = record { some = omega arith; known = omega arith }; kind = chosen.has.member.kind };
        not_above = above;
        exact = test.1 (few, omega arith);
      } in
      let larger = chosen.largest (greatest bit) states in
      absurd (omega (arith, larger, decimal_below power bit chosen.has.member.prefix.known)))
      (cases_lt in_bits (bits (greatest bit)))

  -- the size has fewer twos than the greatest binary unit of the same kind
  fewer_twos : a < twos (greatest bit)
  fewer_twos = grind (arith, common_steps, below_greatest, pow-le-pow_right, mul-le-mul_left, one-le-pow, powers_below)

-- no multiple of 2^91 lies between RB and RiB
no_multiple : (n a b : ℕ) → IsTwoFive n a b → 91 ≤ a → bits (shape 9 false false) ≤ n → ¬ (n < bits (greatest false))
no_multiple n a b h many above = λ below.
    let total : a ≡ 91 + (a - 91) = omega (arith, many) in
    let parts = ap (λ k. h.left * (k * 5 ^ b)) (ap (λ k. 2 ^ k) total ∙ pow-add 2 91 (a - 91)) in
    let multiple : n ≡ h.left * (2 ^ (a - 91) * 5 ^ b) * 2 ^ 91 = omega (arith, h.product, parts) in
    omega (arith, multiple, above, below)

-- a size in bits has fewer than 91 twos if RB is chosen
few_twos_in_RB : (family : Family) (in_bits precision a b : ℕ) → IsTwoFive in_bits a b → in_bits < 2 ^ 103
    → IsLargest (IsExactUnit family in_bits precision) (shape 9 false false) → a ≤ 90
few_twos_in_RB family in_bits precision a b powers small chosen = ⊎_elim
    (λ many.
    let test = (exact_by_powers in_bits 30 27 a b (places_within precision) powers).0 chosen.has.exact in
    let few = few_powers in_bits a b powers small in
    let below = below_greatest family in_bits precision a b 9 false powers chosen (omega (arith, many, few, test.1)) in
    absurd (no_multiple in_bits a b powers many chosen.has.not_above below))
    (λ k. k)
    (cases_lt 90 a)

-- the exponents of 2 and 5 in a size in bits, and the places that they leave to its unit, are 117 at most
few_together : (family : Family) (in_bits precision a b power : ℕ) (binary bit : Bool)
    → IsTwoFive in_bits a b → in_bits < 2 ^ 103
    → IsLargest (IsExactUnit family in_bits precision) (shape power binary bit)
    → a + b + max (twos (shape power binary bit) - a) (fives (shape power binary bit) - b) ≤ 117
few_together family in_bits precision a b power true true powers small chosen =
    let test = (exact_by_powers in_bits (10 * power + 0) 0 a b (places_within precision) powers).0 chosen.has.exact in
    omega (arith, few_powers in_bits a b powers small, test.0, chosen.has.member.prefix.known)
few_together family in_bits precision a b power true false powers small chosen =
    let test = (exact_by_powers in_bits (10 * power + 3) 0 a b (places_within precision) powers).0 chosen.has.exact in
    omega (arith, few_powers in_bits a b powers small, test.0, chosen.has.member.prefix.known)
few_together family in_bits precision a b power false true powers small chosen =
    let fewer = fewer_twos family in_bits precision a b power true powers chosen in
    omega (arith, few_powers in_bits a b powers small, fewer, chosen.has.member.prefix.known)
few_together family in_bits precision a b power false false powers small chosen =
    let fewer = fewer_twos family in_bits precision a b power false powers chosen in
    let few = few_powers in_bits a b powers small in
    ⊎_elim
    (λ below. omega (arith, few, fewer, below))
    (λ last.
    let same : power ≡ 9 = omega (arith, last, chosen.has.member.prefix.known) in
    let chosen_RB = subst (λ n. IsLargest (IsExactUnit family in_bits precision) (shape n false false)) same chosen in
    omega (arith, few, few_twos_in_RB family in_bits precision a b powers small chosen_RB, same))
    (cases_lt power 9)

-- the places of the number are no more than those that the powers of the size and of its unit leave
few_places : (family : Family) (in_bits precision number places a b : ℕ) (unit : Shape) → IsTwoFive in_bits a b
    → IsChosen family in_bits precision unit number → IsLeastPlaces number scale places
    → places ≤ max (twos unit - a) (fives unit - b)
few_places family in_bits precision number places a b unit powers chosen least =
    let within = places_within precision in
    let product = IsQuotient-times in_bits (bits unit) within number (omega arith) chosen.number_is in
    let lacking = max (twos unit - a) (fives unit - b) in
    let exact = (places_by_powers in_bits (twos unit) (fives unit) a b powers).has in
    least.least lacking (stated_where_exact in_bits (bits unit) number lacking (some_bits unit) product exact)

-- the exponents of 2 and 5 in a size in bits, and the places of its chosen number, are 117 at most
few_in_all : (family : Family) (in_bits precision number places a b : ℕ) (unit : Shape)
    → in_bits < 2 ^ 103 → IsTwoFive in_bits a b
    → IsChosen family in_bits precision unit number → IsLeastPlaces number scale places → a + b + places ≤ 117
few_in_all family in_bits precision number places a b unit small powers chosen least = omega (
  arith,
  few_together family in_bits precision a b unit.power unit.binary unit.bit powers small chosen.unit_is,
  few_places family in_bits precision number places a b unit powers chosen least,
)

-- if a unit is chosen, the step counter rises by at most the greatest step count of its kind
pub few_of_choice : (kind : Kind) (family : Family) (size precision number old new : ℕ) (unit : Shape)
    → size < current.size_limit
    → IsChosen family (size * bits_in kind) precision unit number → CountsChoice size number old new
    → new ≤ saturating_add old (most_steps kind)
few_of_choice kind family size precision number old new unit small chosen (inl h) = omega (arith, h.1)
few_of_choice Byte family size precision number old new unit small chosen (inr (steps, t, e)) =
    let few = few_in_all family (size * 8) precision number t.places (t.twos + 3) t.fives unit (omega (arith, small))
    (eight_times size t.twos t.fives t.powers) chosen t.is_places in
    omega (arith, t.steps_are, few, e)
few_of_choice Bit family size precision number old new unit small chosen (inr (steps, t, e)) =
    let once : size * 1 ≡ size = omega arith in
    let few = few_in_all family (size * 1) precision number t.places t.twos t.fives unit (omega (arith, small))
    (rw once t.powers) chosen t.is_places in
    omega (arith, t.steps_are, few, e)

-- the trials alone take fewer steps
few_trials : (kind : Kind) → 104 ≤ most_steps kind
few_trials Byte = omega arith
few_trials Bit = omega arith

-- if no unit is chosen, the step counter rises by at most the greatest step count of its kind
pub few_of_none : (kind : Kind) (size old new : ℕ) → size < current.size_limit → CountsChoice size 0 old new
    → new ≤ saturating_add old (most_steps kind)
few_of_none kind size old new small (inl h) = omega (arith, h.1)
few_of_none kind size old new small (inr (steps, t, e)) =
    let few = few_powers size t.twos t.fives t.powers (omega (arith, small)) in
    omega (arith, few_trials kind, few, t.is_places.least 0 (0, omega arith), t.steps_are, e)
