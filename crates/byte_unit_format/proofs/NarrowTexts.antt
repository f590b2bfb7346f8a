-- The text of a size has at most 37 bytes if no width is set.
use Rattle.std.proofs.Common.{MatchBool, ◌≡◌, ℕ, ◌+◌, ◌-◌, ◌*◌, ◌/◌, ◌^◌, ◌<◌, ◌≤◌, ⊎_elim, inl, inr, zero, suc, Bool}
use Rattle.std.proofs.Common.{true, false, None, List, length, arith, sym, ap, refl, ◌∙◌}
use Rattle.std.specs.Fmt.{decimal}
use Rattle.std.proofs.Math.Nat.{eq_of_mul-eq-mul_right, mul-le-mul_right, mul-le-mul_left, le_of_mul-le-mul_right}
use Rattle.std.proofs.Math.Nat.{lt_of_mul-lt-mul_right, pow-le-pow_right, one-le-pow}
use Rattle.std.proofs.lemmas.Bool.{cases_lt}
use Rattle.std.proofs.lemmas.Fmt.{length-decimal-le_wide}
use Rattle.std.proofs.lemmas.List.{length-append}
use Rattle.std.proofs.lemmas.Nat.{mul-pow, pow-add}
use Rattle.byte_unit_math.specs.Bounds.{scale, places_of_decimal}
use Rattle.byte_unit_math.specs.Digits.{at_places, trim_expansion}
use Rattle.byte_unit_math.specs.Numeral.{fraction_text, short_numeral}
use Rattle.byte_unit_math.proofs.Scales.{pow10_split}
use Rattle.byte_unit_math.proofs.Texts.{short_numeral_is_expansion}
use Rattle.byte_unit_base.specs.Grammar.Shape.{Shape, shape, bits}
use Rattle.byte_unit_base.specs.Grammar.Version.{current, unit_name_in}
use Rattle.byte_unit_choice.specs.Family.{HasKind, own_family}
use Rattle.byte_unit_choice.specs.Choice.{IsLargest, IsRecoveredIn, IsExactUnit, places_within}
use Rattle.byte_unit_base.specs.Sizes.Kinds.{bits_in, counts_bits}
use Rattle.byte_unit_base.specs.declared.kind.Kind.{Kind}
use Rattle.byte_unit_base.specs.declared.kind.Kind.TheVariants.{Byte, Bit}
use Rattle.byte_unit_choice.proofs.Choosing.{some_bits, own_bits}
use Rattle.byte_unit_choice.proofs.Quotients.{stated_where_exact}
use Rattle.byte_unit_format.specs.FewPlaces.{FitsPrefix}
use Rattle.byte_unit_format.specs.declared.spec.FormatSpec.{FormatSpec}
use Rattle.byte_unit_format.specs.Plain.{plain}
use Rattle.byte_unit_format.specs.Forms.{IsSizeForm, places_of, narrow_text}
use Rattle.byte_unit_format.proofs.Widths.{name_short, plain_form_fills_width, layout_fills_width}
use Rattle.byte_unit_format.proofs.WrittenForms.{length_of_fraction_text}

-- The next decimal prefix is a thousand times larger.
pub pow10_next : (power : ℕ) → 10 ^ (3 * (power + 1)) ≡ 10 ^ (3 * power) * 1000
pow10_next power = grind (arith, pow-add 10 (3 * power) 3)

-- The decimal or binary prefix of a position, as a multiple of the kind's own unit.
abbrev pub prefix_of : ℕ → Bool → ℕ
prefix_of power true = 2 ^ (10 * power)
prefix_of power false = 10 ^ (3 * power)

-- A unit with a prefix has as many bits as the prefix times the base unit of the kind.
pub unit_bits : (kind : Kind) (power : ℕ) (binary bit : Bool) → HasKind (own_family kind) bit
    → bits (shape power binary bit) ≡ prefix_of power binary * bits_in kind
unit_bits Byte power true bit has = rw has (omega (arith, pow-add 2 (10 * power) 3))
unit_bits Byte power false bit has = rw (has, mul-pow 2 5 (3 * power), pow-add 2 (3 * power) 3) (omega arith)
unit_bits Bit power true bit has = rw has (omega (arith, pow-add 2 (10 * power) 0))
unit_bits Bit power false bit has = rw (has, mul-pow 2 5 (3 * power), pow-add 2 (3 * power) 0) (omega arith)

-- The units of the kind's own unit set count what the kind counts.
pub own_kind : (kind : Kind) → HasKind (own_family kind) (counts_bits kind)
own_kind Byte = refl
own_kind Bit = refl

-- A binary prefix is at least the decimal prefix of the same power.
pub pow10_le_pow2 : (power : ℕ) → 10 ^ (3 * power) ≤ 2 ^ (10 * power)
pow10_le_pow2 zero = omega arith
pow10_le_pow2 (suc power) = grind (arith, pow10_le_pow2 power, pow-add 10 (3 * power) 3, pow-add 2 (10 * power) 10)

-- Up to the eighth, a binary prefix is less than the next decimal prefix.
pub pow2_lt_pow10_next : (power : ℕ) → power ≤ 8 → 2 ^ (10 * power) < 10 ^ (3 * (power + 1))
pow2_lt_pow10_next power few =
    let rest = 8 - power in
    grind (arith, pow10_le_pow2 rest, pow-add 10 (3 * (power + 1)) (3 * rest), pow-add 2 (10 * power) (10 * rest))

-- The base unit of a kind has at least one bit.
pub bits_in_positive : (kind : Kind) → 1 ≤ bits_in kind
bits_in_positive kind = grind arith

-- A prefix is at least the decimal prefix of the same power.
pub prefix_at_least : (power : ℕ) (binary : Bool) → 10 ^ (3 * power) ≤ prefix_of power binary
prefix_at_least power binary = grind (arith, pow10_le_pow2 power)

-- Up to the eighth, a prefix is less than the next decimal prefix.
pub prefix_lt_next : (power : ℕ) (binary : Bool) → power ≤ 8 → prefix_of power binary < 10 ^ (3 * (power + 1))
prefix_lt_next power binary few =
    grind (arith, pow2_lt_pow10_next power few, pow10_next power, one-le-pow (3 * power) 10 (omega arith))

-- A size whose prefix fits it is exact in the unit with this prefix.
pub exact_of_fits : {precision : ℕ} (kind : Kind) (size power : ℕ) (binary : Bool) → 1 ≤ power → power ≤ 9
    → FitsPrefix (places_within precision) size (prefix_of power binary)
    → IsExactUnit (own_family kind) (size * bits_in kind) precision (shape power binary (counts_bits kind))
exact_of_fits kind size power binary some known fits =
    let same = unit_bits kind power binary (counts_bits kind) (own_kind kind) in
    record {
      member = record { prefix = record { some = some; known = omega (arith, known) }; kind = own_kind kind };
      not_above = omega (arith, same, mul-le-mul_right (bits_in kind) fits.not_above);
      exact = (fits.exact.0, rw same (omega (arith, ap (λ n. n * bits_in kind) fits.exact.1)));
    }

-- In the next decimal unit each size is exact with as many digits after the point as its prefix has zeros. So if the
-- precision allows these, the size is below that unit.
size_lt_next : (kind : Kind) (size precision : ℕ) (unit : Shape)
    → IsLargest (IsExactUnit (own_family kind) (size * bits_in kind) precision) unit
    → unit.power ≤ 8 → 3 * (unit.power + 1) ≤ places_within precision → size < 10 ^ (3 * (unit.power + 1))
size_lt_next kind size precision unit largest few places =
    let next = unit.power + 1 in
    let rest = 10 ^ (places_within precision - 3 * next) in
    ⊎_elim (λ less. less)
    (λ above.
    let fits : FitsPrefix (places_within precision) size (10 ^ (3 * next)) = record {
      exact = (size * rest, rw (pow10_split (3 * next) (places_within precision) places) (omega arith));
      not_above = above;
    } in
    let exact = exact_of_fits {precision = precision} kind size next false (omega arith) (omega (arith, few)) fits in
    absurd (omega (
      arith,
      largest.largest (shape next false (counts_bits kind)) exact,
      unit_bits kind next false (counts_bits kind) (own_kind kind),
      unit_bits kind unit.power unit.binary unit.bit largest.has.member.kind,
      mul-le-mul_right (bits_in kind) (prefix_lt_next unit.power unit.binary few),
      bits_in_positive kind,
    )))
    (cases_lt size (10 ^ (3 * next)))

-- A number below 10^digits has at most that many digits.
pub decimal_length : (whole digits : ℕ) → 0 < digits → digits ≤ 30 → whole < 10 ^ digits
    → length (decimal whole) ≤ digits
decimal_length whole digits some few small =
    length-decimal-le_wide digits whole some small (omega (arith, small, pow-le-pow_right {n = 10} (omega arith) few))

-- A numeral without trailing zeros is as long as its whole part, at most a point, and the digits after it.
short_length :
    (number : ℕ) → let places = length (trim_expansion (at_places places_of_decimal number)).digits in
    length (short_numeral number places_of_decimal) ≤ length (decimal (number / scale)) + places + 1
short_length number =
    let e = trim_expansion (at_places places_of_decimal number) in
    omega (arith, length-append {A = ℕ} (decimal e.whole) (fraction_text e.digits), length_of_fraction_text e.digits)

-- A whole part below 10^27 has at most 27 digits.
pub whole_length : (whole : ℕ) → whole < 10 ^ 27 → length (decimal whole) ≤ 27
whole_length whole small = decimal_length whole 27 (omega arith) (omega arith) small

-- A number of units with a prefix has at most 33 characters: its whole part has three digits fewer for each power of
-- the prefix, and if it has more digits after the point than that allows, it is below a thousand. In the base unit of
-- the kind the number is the size, without digits after the point.
recovered_length :
    (kind : Kind) (size precision number : ℕ) (unit : Shape) → size < current.size_limit
    → IsRecoveredIn current kind false size precision unit
    → number * bits unit ≡ size * bits_in kind * scale → length (short_numeral number places_of_decimal) ≤ 33
recovered_length kind size precision number unit below (inl largest) number_is =
    let whole = number / scale in
    let power = unit.power in
    let prefix = 10 ^ (3 * power) in
    let places = length (trim_expansion (at_places places_of_decimal number)).digits in
    let known : power ≤ 9 = largest.has.member.prefix.known in
    let few : places ≤ places_within precision =
    (short_numeral_is_expansion number places_of_decimal).least (places_within precision)
    (stated_where_exact (size * bits_in kind) (bits unit) number (places_within precision) (some_bits unit) number_is
    largest.has.exact) in
    let same = unit_bits kind power unit.binary unit.bit largest.has.member.kind in
    let in_bits : whole * bits unit ≤ size * bits_in kind =
    omega (arith, number_is, mul-le-mul_right (bits unit) (let cut : whole * scale ≤ number = omega arith in cut)) in
    let least = mul-le-mul_left (whole * bits_in kind) (prefix_at_least power unit.binary) in
    let product : whole * prefix ≤ size =
    le_of_mul-le-mul_right {k = bits_in kind} (omega (arith, in_bits, ap (λ n. whole * n) same, least))
    (bits_in_positive kind) in
    ⊎_elim
    (λ less.
    let small : whole < 10 ^ (30 - 3 * power) =
    lt_of_mul-lt-mul_right prefix (omega (arith, pow10_split (3 * power) 30 (omega (arith, known)), product, below)) in
    let digits = decimal_length whole (30 - 3 * power) (omega (arith, known)) (omega arith) small in
    omega (arith, less, short_length number, digits))
    (λ more.
    let next = size_lt_next kind size precision unit largest (omega (arith, more, few)) (omega (arith, more, few)) in
    let small : whole < 10 ^ 3 = lt_of_mul-lt-mul_right prefix (omega (arith, pow10_next power, product, next)) in
    omega (arith, few, short_length number, decimal_length whole 3 (omega arith) (omega arith) small))
    (cases_lt places (3 * (power + 1)))
recovered_length kind size precision number unit below (inr none) number_is =
    let same : number ≡ size * scale =
    eq_of_mul-eq-mul_right (bits_in kind) (bits_in_positive kind) number (size * scale)
    (ap (λ bits. number * bits) (sym (ap bits none.1 ∙ own_bits kind)) ∙ (number_is ∙ omega arith)) in
    let no_places = (short_numeral_is_expansion number places_of_decimal).least 0 (size, omega (arith, same)) in
    let digits = decimal_length (number / scale) 30 (omega arith) (omega arith) (omega (arith, same, below)) in
    omega (arith, no_places, short_length number, digits)

-- A size formatted with a unit has at most 37 bytes if no width is set.
form_narrow :
    (kind : Kind) (size : ℕ) (spec : FormatSpec) (text : List ℕ) → size < current.size_limit → spec.width ≡ None
    → IsSizeForm kind size spec text → length text ≤ narrow_text
form_narrow kind size spec text below none form =
    let name = unit_name_in current form.unit in
    let number = short_numeral form.number places_of_decimal in
    let numeral = recovered_length kind size (places_of spec.precision) form.number form.unit below form.is_recovered
    form.number_is in
    grind (arith, ap length form.text_is, layout_fills_width number name spec, name_short form.unit)

-- A size formatted as digits has at most 37 bytes if no width is set.
plain_narrow : (size : ℕ) (spec : FormatSpec) → size < current.size_limit → spec.width ≡ None
    → length (plain size spec) ≤ narrow_text
plain_narrow size spec below none =
    let digits = decimal_length size 30 (omega arith) (omega arith) below in
    grind (arith, plain_form_fills_width size spec, length-append {A = ℕ})

-- The text of a size has at most 37 bytes if no width is set, whether the alternate form is or not.
pub text_without_width_narrow :
    (alternate : Bool) (kind : Kind) (size : ℕ) (spec : FormatSpec) (text : List ℕ) → size < current.size_limit
    → spec.width ≡ None → MatchBool alternate (IsSizeForm kind size spec text) (text ≡ plain size spec)
    → length text ≤ narrow_text
text_without_width_narrow true kind size spec text below none form = form_narrow kind size spec text below none form
text_without_width_narrow false kind size spec text below none form =
    omega (arith, ap length form, plain_narrow size spec below none)
