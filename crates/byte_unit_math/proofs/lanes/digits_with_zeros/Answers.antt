-- The digits of a number are those of its quotient by 10^16 and then those of the remainder, with leading zeros.
use Rattle.std.proofs.Common.{◌≡◌, ◌+◌, ◌-◌, ◌/◌, ◌^◌, ◌≤◌, ◌++◌, ℕ, List, length, drop, replicate, arith, ap, sym, ◌∙◌}
use Rattle.std.proofs.Common.{decimal}
use Rattle.std.proofs.lemmas.List.{length-map}
use Rattle.byte_unit_math.specs.Digits.{last_digits}
use Rattle.byte_unit_math.specs.Numeral.{glyphs}
use Rattle.byte_unit_math.specs.PutBefore.{IsPutBefore}
use Rattle.byte_unit_math.proofs.Digits.{length_last_digits}
use Rattle.byte_unit_math.proofs.WrittenDigits.{digits_before, more_16, without_leading_zeros}
use Rattle.byte_unit_math.proofs.lanes.digits_with_zeros.Goals as goal

-- Sixteen digits begin 16 before the index up to which they are written.
begins_at : (n : ℕ) {end start begin : ℕ} {old new : List ℕ} → IsPutBefore (glyphs (last_digits 16 n)) end old new begin
    → start + 16 ≡ end → begin ≡ start
begins_at n put start_is = grind (arith, put.begins, length-map, length_last_digits 16 n)

-- The number has at most 16 digits.
pub returns-then-n-from-clause-digits : goal.returns-then-n-from-clause-digits
returns-then-n-from-clause-digits c =
    let n = c.args.n in
    let put = c.put_16_digits.ensures in
    let start : c.put_16_digits.result ≡ 0 = begins_at _ put (omega arith) in
    ap (λ digits. drop (16 - length (decimal n)) digits) (rw start at put.bytes)
    ∙ without_leading_zeros 16 n (replicate 32 48) (omega (arith, c.if-n-from.true))
    (omega (arith, c.requires)) (omega arith)

-- The number has more than 16 digits: `high` is those before the last 16, and `rest` the last 16.
pub returns-clause-digits : goal.returns-clause-digits
returns-clause-digits c =
    let n = c.args.n in
    let high = c.div_rem_by_inverse-before.result.0 in
    let rest = c.div_rem_by_inverse-before.result.1 in
    let start : ℕ = 32 - length (decimal n) in
    let last = c.put_16_digits-middle.ensures in
    let first = c.put_16_digits-2.ensures in
    let middle : c.put_16_digits-middle.result ≡ 16 = begins_at _ last (omega arith) in
    let none : c.put_16_digits-2.result ≡ 0 = begins_at _ first (omega (arith, middle)) in
    let array = (rw (none, middle) at first.bytes)
    ∙ ap (λ behind. glyphs (last_digits 16 high) ++ behind) (rw middle at last.bytes) in
    let wide : 10 ^ 16 ≤ n = omega (arith, c.if-n-from.false) in
    let high_is : high ≡ n / 10 ^ 16 = c.div_rem_by_inverse-before.ensures.quotient in
    let start_is : start ≡ 16 - length (decimal high) =
    omega (arith, more_16 n wide (omega (arith, c.requires)), ap (λ q. length (decimal q)) high_is) in
    ap (λ digits. drop start digits) array
    ∙ rw start_is (without_leading_zeros 16 high (glyphs (last_digits 16 rest) ++ replicate 16 48)
    (omega (arith, high_is, c.requires)) (omega (arith, high_is, c.requires)) (omega arith)
    ∙ rw (high_is, c.div_rem_by_inverse-before.ensures.rest)
    (sym (digits_before 16 n (replicate 16 48) wide (omega (arith, c.requires)))))
