-- At most 30 digits, and the digit 0 after them.
use Rattle.std.proofs.Common.{ℕ, ◌≡◌, ◌+◌, ◌-◌, ◌++◌, length, take, replicate, arith, ap, refl, ◌∙◌, decimal}
use Rattle.std.proofs.Math.Seq.{take-append-add}
use Rattle.std.proofs.lemmas.List.{take-replicate}
use Rattle.byte_unit_math.proofs.WrittenDigits.{few_30}
use Rattle.byte_unit_math.proofs.lanes.put_padded_digits.Goals as goal

-- `count` is the length of the digits with zeros before them; 32 bytes are copied, from the first digit on.
pub returns-clause-digits : goal.returns-clause-digits
returns-clause-digits c =
    let n = c.args.n in
    let count = c.digits_with_zeros-count.result.1 in
    let all = c.digits_with_zeros-count.ensures in
    let short = few_30 n c.requires in
    let length_is : count - c.decimal_len-len.result + 32 - (count - c.decimal_len-len.result) ≡ 32 = omega arith in
    let both : 32 ≡ length (decimal n) + (32 - length (decimal n)) = omega (arith, short) in
    let zeros = take-replicate {X = ℕ} (32 - length (decimal n)) (48 - count) 48 (omega (arith, all.bound, short)) in
    c.copy_from_slice.ensures.after
    ∙ rw (length_is, c.decimal_len-len.ensures.exact, all.digits)
    (ap (λ k. take k (decimal n ++ replicate (48 - count) 48)) both
    ∙ rw (take-append-add (decimal n) (replicate (48 - count) 48) (32 - length (decimal n)), zeros) refl)
