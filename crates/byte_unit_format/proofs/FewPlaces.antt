-- The largest prefixes in which a size has few digits after the point, and the unit of the larger one.
--
-- That a size is `exact` at some places is a count and an equation. The highest bit `top` of a size is its index, the
-- leading zeros before it, and the two powers of two that bound the size.
use Rattle.std.proofs.Common.{◌≡◌, ◌≢◌, ℕ, ◌+◌, ◌-◌, ◌*◌, ◌/◌, ◌%◌, ◌^◌, ◌<◌, ◌≤◌, ⊎_elim, inl, inr, Bool, true, false}
use Rattle.std.proofs.Common.{min, suc, arith, ap, sym, refl, ◌∙◌}
use Rattle.std.specs.Int.{w128, leading_zeros, trailing_zeros}
use Rattle.std.proofs.Math.Nat.{eq_of_mul-eq-mul_right, mul-le-mul_right, le_of_mul-le-mul_right, pow-le-pow_right}
use Rattle.std.proofs.Math.Nat.{one-le-pow, mul-mod_left}
use Rattle.std.proofs.lemmas.Bool.{cases_lt}
use Rattle.std.proofs.lemmas.Nat.{pow-add, div-add-mod', leading_top}
use Rattle.byte_unit_math.specs.Bounds.{size_limit, scale}
use Rattle.byte_unit_math.proofs.TwosFives.{FivesOff-trailing_zeros}
use Rattle.byte_unit_base.specs.Grammar.Shape.{Shape, shape, bits}
use Rattle.byte_unit_base.specs.Grammar.Version.{current}
use Rattle.byte_unit_choice.specs.Choice.{IsRecoveredIn, IsExactUnit}
use Rattle.byte_unit_base.specs.Sizes.Kinds.{bits_in, counts_bits, own_unit}
use Rattle.byte_unit_choice.specs.Family.{own_family}
use Rattle.byte_unit_base.specs.declared.kind.Kind.{Kind}
use Rattle.byte_unit_format.specs.FewPlaces.{FitsPrefix, IsGreatestPower}
use Rattle.byte_unit_format.proofs.NarrowTexts.{pow10_next, prefix_of, unit_bits, own_kind, pow10_le_pow2}
use Rattle.byte_unit_format.proofs.NarrowTexts.{bits_in_positive, prefix_at_least, prefix_lt_next, exact_of_fits}

-- A power of a larger exponent is a multiple.
pub power_split : (base least exponent : ℕ) → least ≤ exponent
    → base ^ exponent ≡ base ^ (exponent - least) * base ^ least
power_split base least exponent few = grind (arith, pow-add base (exponent - least) least)

-- A power that is at most a number has an exponent below that of a power above it.
pub exponent_below : (base low high size : ℕ) → 1 ≤ base → base ^ low ≤ size → size < base ^ high → low < high
exponent_below base low high size some at_most above = grind (arith, pow-le-pow_right {n = base} some)

-- If a power divides a multiple of a power, and the factor leaves a rest at the next step, its exponent is no larger.
pub power_divides : (base step left count low high : ℕ) → 1 ≤ base → left % base ^ step ≢ 0
    → left * base ^ (step * low) ≡ count * base ^ (step * high) → high ≤ low
power_divides base step left count low high some odd same = ⊎_elim
    (λ more.
    let gap = high - low - 1 in
    let next = base ^ step in
    let rest = base ^ (step * gap) in
    let high_is : high ≡ gap + 1 + low = omega (arith, more) in
    let split : base ^ (step * high) ≡ rest * next * base ^ (step * low) = ap (λ n. base ^ (step * n)) high_is ∙ grind (
      arith,
      pow-add base (step * gap) step,
      pow-add base (step * gap + step) (step * low),
    ) in
    let left_is : left ≡ count * rest * next =
    eq_of_mul-eq-mul_right (base ^ (step * low)) (one-le-pow (step * low) base some) left (count * rest * next)
    (same ∙ rw split (omega arith)) in
    absurd (odd (rw left_is (mul-mod_left (count * rest) next))))
    (λ few. few)
    (cases_lt low high)

-- The position of a decimal prefix that is at most a size is at most 9, since a size is below 10^30.
pub few_thousands : (power size : ℕ) → size < size_limit → 10 ^ (3 * power) ≤ size → power ≤ 9
few_thousands power size small at_most = grind (arith, pow-le-pow_right {n = 10} (omega arith) {i = 30} {j = 3 * power})

-- The position of a binary prefix that is at most a size is at most 9, since a size is below 2^100.
pub few_binary : (power size : ℕ) → size < size_limit → 2 ^ (10 * power) ≤ size → power ≤ 9
few_binary power size small at_most = grind (arith, pow-le-pow_right {n = 2} (omega arith) {i = 100} {j = 10 * power})

-- What is left of a size after a division by 1000^power: whole thousands, and the rest of one.
pub record IsDivided (size whole thousandths power : ℕ) : Type 0 where
  pub value : (whole * 1000 + thousandths) * 10 ^ (3 * power) ≡ size * 1000
  pub below : thousandths < 1000
  pub some : 1 ≤ whole
  pub within : whole ≤ size
  pub positive : 1 ≤ power
  pub few : power ≤ 9

-- If a thousandth is left, or fewer than a thousand, no larger decimal prefix fits.
pub greatest_thousands : {size whole thousandths power : ℕ} → IsDivided size whole thousandths power
    → (thousandths ≡ 0 → whole < 1000) → IsGreatestPower 10 3 size power
greatest_thousands {size} {whole} {thousandths} {power} divided ends =
    let prefix = 10 ^ (3 * power) in
    record {
      fits = record {
        exact = (whole * 1000 + thousandths, sym divided.value);
        not_above = omega (arith, divided.value, mul-le-mul_right prefix divided.some);
      };
      greatest = λ other fits.
          ⊎_elim
          (λ none.
          let zero_left : thousandths ≡ 0 = omega (arith, none) in
          let product = ap (λ n. n * prefix) zero_left in
          let less : size < 10 ^ (3 * (power + 1)) =
          grind (arith, ends zero_left, pow10_next power, one-le-pow (3 * power) 10 (omega arith), product) in
          grind (arith, exponent_below 10 (3 * other) (3 * (power + 1)) size (omega arith) fits.not_above less))
          (λ some.
          power_divides 10 3 (whole * 1000 + thousandths) fits.exact.0 power other (omega arith)
          (λ even. omega (arith, even, some, divided.below)) (divided.value ∙ fits.exact.1))
          (cases_lt thousandths 1);
    }

-- If at least 1000 and no thousandths are left, one more division by 1000 leaves the number in the next prefix.
pub divided_more : {size whole thousandths power next rest : ℕ} → size < size_limit
    → IsDivided size whole thousandths power → thousandths ≡ 0 → 1000 ≤ whole → next ≡ whole / 1000
    → rest ≡ whole % 1000 → IsDivided size next rest (power + 1)
divided_more {size} {whole} {thousandths} {power} {next} {rest} small divided none more next_is rest_is =
    let parts : next * 1000 + rest ≡ whole = omega (arith, next_is, rest_is) in
    let prefix = 10 ^ (3 * (power + 1)) in
    let some : 1 ≤ next = omega (arith, more, next_is) in
    let value : (next * 1000 + rest) * prefix ≡ size * 1000 =
    rw (parts, pow10_next power) (grind (arith, divided.value)) in
    record {
      value = value;
      below = omega (arith, rest_is);
      some = some;
      within = omega (arith, divided.within, next_is);
      positive = omega arith;
      few = few_thousands (power + 1) size small (omega (arith, value, mul-le-mul_right prefix some));
    }

-- The lowest and the highest bit of a size tell the largest binary prefix that fits it, of which it is eighths.
pub binary_greatest : (size power : ℕ) → 0 < size → size < size_limit
    → power ≡ min (trailing_zeros w128 size + 3) (128 - 1 - leading_zeros w128 size) / 10
    → IsGreatestPower 2 10 size power × (size % 2 ^ (10 * power - 3) ≡ 0)
binary_greatest size power some small count =
    let twos = trailing_zeros w128 size in
    let left = size / 2 ^ twos in
    let off = FivesOff-trailing_zeros size some (omega (arith, small)) in
    let top = leading_top 128 size some (omega (arith, small)) in
    let eighth = 10 * power - 3 in
    let counted : size ≡ left * 2 ^ (twos - eighth) * 2 ^ eighth =
    omega (arith, off.product, ap (λ n. left * n) (power_split 2 eighth twos (omega (arith, count)))) in
    let thousand : left * 125 * 2 ^ (twos + 3) ≡ size * 10 ^ 3 =
    rw (pow-add 2 twos 3) (omega (arith, ap (λ n. n * 1000) off.product)) in
    let split = power_split 2 (10 * power) (twos + 3) (omega (arith, count)) in (
      record {
        fits = record {
          exact = (
            left * 125 * 2 ^ (twos + 3 - 10 * power),
            omega (arith, thousand, ap (λ n. left * 125 * n) split),
          );
          not_above = omega (
            arith,
            top.2,
            pow-le-pow_right {n = 2} (omega arith) {i = 10 * power} {j = top.0} (omega (arith, count, top.1)),
          );
        };
        greatest = λ other fits.
            let lowest = power_divides 2 1 (left * 125) fits.exact.0 (twos + 3) (10 * other) (omega arith)
            (omega (arith, off.odd)) (grind (arith, thousand, fits.exact.1)) in
            let highest = exponent_below 2 (10 * other) (suc top.0) size (omega arith) fits.not_above top.3 in
            omega (arith, lowest, highest, count, top.1);
      },
      rw counted (mul-mod_left (left * 2 ^ (twos - eighth)) (2 ^ eighth)),
    )

-- A size that is eighths of a binary prefix is a whole part and thousandths of it: 125 for each eighth.
pub eighths_value : (size power : ℕ) → 1 ≤ power → size % 2 ^ (10 * power - 3) ≡ 0
    → let count = size / 2 ^ (10 * power - 3) in (count / 8 * 1000 + 125 * (count % 8)) * 2 ^ (10 * power) ≡ size * 1000
eighths_value size power some whole_eighths =
    let eighth = 10 * power - 3 in
    let count = size / 2 ^ eighth in
    let parts : count / 8 * 1000 + 125 * (count % 8) ≡ 125 * count = omega arith in
    let power_is : 2 ^ (10 * power) ≡ 2 ^ eighth * 8 = grind (arith, pow-add 2 eighth 3) in
    rw (parts, power_is) (omega (arith, div-add-mod' size (2 ^ eighth), whole_eighths))

-- What is true of each binary prefix that fits a size, and of each decimal one, is true of each prefix that does.
by_prefix : {size : ℕ} (At : ℕ → Bool → Type 0) → ((other : ℕ) → FitsPrefix 3 size (2 ^ (10 * other)) → At other true)
    → ((other : ℕ) → FitsPrefix 3 size (10 ^ (3 * other)) → At other false) → (other : ℕ) (binary : Bool)
    → FitsPrefix 3 size (prefix_of other binary) → At other binary
by_prefix At twos tens other true fits = twos other fits
by_prefix At twos tens other false fits = tens other fits

-- A size of a kind, if three digits after the point are allowed.
module _ (kind : Kind) (size : ℕ) where
  -- A size is exact in a unit within three places only if it fits the unit's prefix.
  fits_of_exact : (unit : Shape) → IsExactUnit (own_family kind) (size * bits_in kind) 3 unit
      → FitsPrefix 3 size (prefix_of unit.power unit.binary)
  fits_of_exact unit exact_unit =
      let prefix = prefix_of unit.power unit.binary in
      let same = unit_bits kind unit.power unit.binary unit.bit exact_unit.member.kind in
      let exact = exact_unit.exact in
      let positive = bits_in_positive kind in
      record {
        exact = (
          exact.0,
          eq_of_mul-eq-mul_right (bits_in kind) positive (size * 10 ^ 3) (exact.0 * prefix)
              (omega (arith, exact.1, ap (λ n. exact.0 * n) same)),
        );
        not_above = le_of_mul-le-mul_right {k = bits_in kind} (omega (arith, same, exact_unit.not_above)) positive;
      }

  -- A unit whose prefix fits the size, and is at least as large as each that does, is the exact unit.
  largest_of_prefixes : (power : ℕ) (binary : Bool) → 1 ≤ power → power ≤ 9
      → FitsPrefix 3 size (prefix_of power binary)
      → ((other : ℕ) (is_binary : Bool) → FitsPrefix 3 size (prefix_of other is_binary)
      → prefix_of other is_binary ≤ prefix_of power binary)
      → IsRecoveredIn current kind false size 3 (shape power binary (counts_bits kind))
  largest_of_prefixes power binary some known fits largest =
      inl (record {
        has = exact_of_fits {precision = 3} kind size power binary some known fits;
        largest = λ other exact_unit.
            omega (
              arith,
              unit_bits kind power binary (counts_bits kind) (own_kind kind),
              unit_bits kind other.power other.binary other.bit exact_unit.member.kind,
              mul-le-mul_right (bits_in kind) (largest other.power other.binary (fits_of_exact other exact_unit)),
            );
      })

  -- If no decimal prefix of a later position fits the size, the unit with the largest binary prefix is the exact unit.
  pub recovered_binary : {binary : ℕ} → 1 ≤ binary → binary ≤ 9 → IsGreatestPower 2 10 size binary
      → ((other : ℕ) → FitsPrefix 3 size (10 ^ (3 * other)) → other ≤ binary)
      → IsRecoveredIn current kind false size 3 (shape binary true (counts_bits kind))
  recovered_binary {binary} some known twos later =
      let raised = λ (other : ℕ) (at_most : other ≤ binary).
      pow-le-pow_right {n = 2} (omega arith) {i = 10 * other} {j = 10 * binary} (omega (arith, at_most)) in
      largest_of_prefixes binary true some known twos.fits
      (by_prefix (λ other is_binary. prefix_of other is_binary ≤ 2 ^ (10 * binary))
      (λ other fits. raised other (twos.greatest other fits))
      (λ other fits. omega (arith, raised other (later other fits), pow10_le_pow2 other)))

  -- If the largest decimal prefix has a later position than the largest binary one, the unit with it is the exact unit.
  pub recovered_decimal : {decimal binary : ℕ} → 1 ≤ decimal → decimal ≤ 9 → IsGreatestPower 10 3 size decimal
      → IsGreatestPower 2 10 size binary → binary < decimal
      → IsRecoveredIn current kind false size 3 (shape decimal false (counts_bits kind))
  recovered_decimal {decimal} {binary} some known tens twos earlier =
      let raised = λ (other : ℕ) (at_most : other ≤ decimal).
      pow-le-pow_right {n = 10} (omega arith) {i = 3 * other} {j = 3 * decimal} (omega (arith, at_most)) in
      largest_of_prefixes decimal false some known tens.fits
      (by_prefix (λ other is_binary. prefix_of other is_binary ≤ 10 ^ (3 * decimal))
      (λ other fits.
      let next : other + 1 ≤ decimal = omega (arith, twos.greatest other fits, earlier) in
      omega (arith, prefix_lt_next other true (omega (arith, next, known)), raised (other + 1) next))
      (λ other fits. raised other (tens.greatest other fits)))

  -- The exact unit of a size below 1000 is the base unit of its kind.
  pub recovered_own : size < 1000 → IsRecoveredIn current kind false size 3 (own_unit kind)
  recovered_own below =
      inr (
        λ unit exact_unit.
            let some = exact_unit.member.prefix.some in
            omega (
              arith,
              (fits_of_exact unit exact_unit).not_above,
              pow-le-pow_right {n = 10} (omega arith) {i = 3} {j = 3 * unit.power} (omega (arith, some)),
              prefix_at_least unit.power unit.binary,
              below,
            ),
        refl,
      )

-- The number of units, scaled by 10^28, times the bits of the unit is the size in bits, scaled by 10^28.
pub number_of_units : (kind : Kind) (size power : ℕ) (binary : Bool) (whole thousandths : ℕ)
    → (whole * 1000 + thousandths) * prefix_of power binary ≡ size * 1000
    → (whole * scale + thousandths * 10 ^ 25) * bits (shape power binary (counts_bits kind))
    ≡ size * bits_in kind * scale
number_of_units kind size power binary whole thousandths value =
    rw (unit_bits kind power binary (counts_bits kind) (own_kind kind))
    (omega (arith, ap (λ n. n * bits_in kind) value))
