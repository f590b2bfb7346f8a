-- A size that is rounded up from a decimal number of units, seven digits at a time.
use Rattle.std.proofs.Common.{◌≡◌, ℕ, ◌+◌, ◌-◌, ◌*◌, ◌^◌, ◌/◌, ◌%◌, ◌<◌, ◌≤◌, arith, ap, Option, Some, None, IfNone}
use Rattle.std.proofs.Common.{ltb}
use Rattle.std.specs.Bool.{then_some}
use Rattle.std.proofs.Math.Nat.{pow-le-pow_right, mul-lt-mul_of_pos_right}
use Rattle.std.proofs.lemmas.Bool.Decides.{nat_tests}
use Rattle.byte_unit_math.specs.Bounds.{scale, places_of_decimal}
use Rattle.byte_unit_math.specs.Least.{IsLeastSize}
use Rattle.byte_unit_math.specs.RoundedUp.{group_limit, group_places, half_limit, IsRoundedUp}
use Rattle.byte_unit_math.proofs.Scales.{pow10_split, power_of_sum}
use Rattle.byte_unit_math.proofs.Digits.{one_le_pow10}

-- Rounding up the low seven digits and then the high ones rounds up all fourteen.
pub rounded_up_in_groups : (digits unit behind part size : ℕ)
    → IsRoundedUp (digits % group_limit * unit + behind) group_limit part
    → IsRoundedUp (digits / group_limit * unit + part) group_limit size
    → IsRoundedUp (digits * unit + behind) half_limit size
rounded_up_in_groups digits unit behind part size low high =
    let parts : group_limit * (digits / group_limit) + digits % group_limit ≡ digits = omega arith in
    let product = ap (λ n. n * unit) parts in
    record {
      enough = omega (arith, product, low.enough, low.close, high.enough, high.close);
      close = omega (arith, product, low.enough, low.close, high.enough, high.close);
    }

-- Digits that are all in the first group of seven: as a number of seven digits they fit, and the other groups are zero.
pub record InFirstGroup (digits places : ℕ) : Type 0 where
  pub digits_fit : digits < group_limit
  pub power_fits : 10 ^ (group_places - places) ≤ group_limit
  pub first : digits * 10 ^ (group_places - places) < group_limit
  pub all : digits * 10 ^ (places_of_decimal - places)
      ≡ digits * 10 ^ (group_places - places) * (group_limit * half_limit)

-- At most seven digits after the point are all in the first group.
pub in_first_group : (digits places : ℕ) → places ≤ group_places → digits < 10 ^ places → InFirstGroup digits places
in_first_group digits places few small =
    let some = one_le_pow10 (group_places - places) in
    let below = mul-lt-mul_of_pos_right {k = 10 ^ (group_places - places)} small some in
    let behind = power_of_sum 10 (places_of_decimal - places) (group_places - places) 21 (omega (arith, few)) in
    record {
      digits_fit = omega (arith, small, pow-le-pow_right {n = 10} (omega arith) {i = places} {j = group_places} few);
      power_fits = pow-le-pow_right {n = 10} (omega arith) {i = group_places - places} {j = group_places} (omega arith);
      first = omega (arith, below, pow10_split places group_places few);
      all = omega (arith, ap (λ n. digits * n) behind);
    }

-- Rounding up the first group gives the least size of a fraction whose other groups are zero.
pub IsLeastSize-group : (fraction group unit size : ℕ) → fraction ≡ group * (group_limit * half_limit)
    → IsRoundedUp (group * unit + 0) group_limit size → IsLeastSize fraction unit size
IsLeastSize-group fraction group unit size fraction_is up =
    let product = ap (λ n. n * unit) fraction_is in
    record {
      has = omega (arith, product, up.enough, up.close);
      least = λ m r. omega (arith, product, up.enough, up.close, r);
    }

-- Rounding up the low half of a fraction and then the high half gives its least size.
pub IsLeastSize-halves : (fraction unit part size : ℕ) → IsRoundedUp (fraction % half_limit * unit + 0) half_limit part
    → IsRoundedUp (fraction / half_limit * unit + part) half_limit size → IsLeastSize fraction unit size
IsLeastSize-halves fraction unit part size low high =
    let parts : half_limit * (fraction / half_limit) + fraction % half_limit ≡ fraction = omega arith in
    let product = ap (λ n. n * unit) parts in
    record {
      has = omega (arith, product, low.enough, low.close, high.enough, high.close);
      least = λ m r. omega (arith, product, low.enough, low.close, high.enough, high.close, r);
    }

-- The size of the whole part plus the least size of the fraction is the least size of the decimal.
pub IsLeastSize-parts :
    (N unit whole fraction part : ℕ) → whole ≡ N / scale → fraction ≡ N % scale → IsLeastSize fraction unit part
    → IsLeastSize N unit (whole * unit + part)
IsLeastSize-parts N unit whole fraction part whole_is fraction_is h =
    let parts : N ≡ whole * scale + fraction = omega (arith, whole_is, fraction_is) in
    rw parts (record {
      has = omega (arith, h.has);
      least = λ m r. omega (arith, r, h.least (m - whole * unit) (omega (arith, r)));
    })

-- A fact that holds also holds if an option is `None`.
pub IfNone-always : {T : Type 0} (o : Option T) (Fact : Type 0) → Fact → IfNone o Fact
IfNone-always None Fact fact = fact
IfNone-always (Some x) Fact fact = tt

-- If `then_some` of a test against the limit returns `None`, the size reaches the limit.
pub IfNone-below : (size limit : ℕ) (Fact : Type 0) → (limit ≤ size → Fact)
    → IfNone (then_some (ltb size limit) size) Fact
IfNone-below size limit Fact reached = grind (arith, IfNone-always, nat_tests)
