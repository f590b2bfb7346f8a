-- The value of the digits is that of the first nine times a power of ten, and that of the others, at most 19, which
-- the last 64 bits determine.
use Rattle.std.proofs.Common.{◌≡◌, ◌+◌, ◌*◌, ◌^◌, ◌<◌, ◌≤◌, length, ap, subst, ◌∙◌, arith, sym}
use Rattle.std.proofs.Math.Nat.{pow-le-pow_right}
use Rattle.std.specs.Str.Parse.{AllDigits, digits_value}
use Rattle.std.proofs.lemmas.Int.Digits.{digits_value-lt}
use Rattle.core.proofs.dec2flt.DigitsLemmas.{digits_value-append}
use Rattle.byte_unit_base.proofs.NumberBytes.{last_digits_are, short_value}
use Rattle.byte_unit_base.proofs.read.digits.long_value.Goals as goal
use Rattle.core.proofs.dec2flt.Rows.{AllDigits-take, AllDigits-drop}

-- `parts` are the first nine digits, and the others; `joined` says that they are all of the digits
pub returns : goal.returns
returns c =
    let parts = c.split_at.result in
    let joined = c.split_at.ensures.by_index.0 in
    let digits = c.args.digits.now in
    let front_digits = subst (AllDigits 10) (sym c.split_at.ensures.front) (AllDigits-take 9 digits c.requires.digits)
    in
    let last_digits = subst (AllDigits 10) (sym c.split_at.ensures.back) (AllDigits-drop 9 digits c.requires.digits) in
    let high = short_value parts.0.now _ _ front_digits c.read_digits-high.ensures.end
    (omega arith) c.read_digits-high.ensures.value in
    let behind = digits_value 10 parts.1.now in
    let few : length parts.1.now ≤ 19 = omega arith in
    let power = pow-le-pow_right {n = 10} (omega arith) {i = length parts.1.now} {j = 19} few in
    let below : behind < 2 ^ 64 = omega (arith, digits_value-lt 10 parts.1.now last_digits, power) in
    let power_is : c.from-2.result ≡ 10 ^ length parts.1.now = omega (arith, few, power, c.from-2.ensures) in
    let product = c.from.result * c.from-2.result in
    let product_is : product ≡ digits_value 10 parts.0.now * 10 ^ length parts.1.now =
    ap (λ n. n * c.from-2.result) (c.from.ensures ∙ high) ∙ ap (λ n. digits_value 10 parts.0.now * n) power_is in
    let value : digits_value 10 digits ≡ product + behind =
    ap (digits_value 10) joined
    ∙ (digits_value-append parts.0.now parts.1.now ∙ ap (λ n. n + behind) (sym product_is)) in
    let last = last_digits_are _ product behind _ value below c.requires.last_bits in
    omega (arith, value, c.from-3.ensures ∙ last)
