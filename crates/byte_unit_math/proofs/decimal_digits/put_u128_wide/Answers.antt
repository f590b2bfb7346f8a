-- Each iteration writes the last 16 digits.
use Rattle.std.proofs.Common.{ap, arith, drop, length, sym, ◌∙◌, decimal}
use Rattle.byte_unit_math.proofs.WrittenDigits.{decimal_length_split, digits_before}
use Rattle.byte_unit_math.proofs.decimal_digits.put_u128_wide.Goals as goal

-- `parts` are the last 16 digits and those before, and `put` has written the last ones before `start`.
pub loop-rest-preserved : goal.loop-rest-preserved
loop-rest-preserved c =
    let l = c.loop-rest in
    let parts = c.split_last_16_digits-before in
    let put = c.put_16_digits-start in
    let more = decimal_length_split 16 l.rest (omega arith) (omega arith) in
    record {
      within = omega arith;
      place = omega (arith, more, ap (λ n. length (decimal n)) parts.ensures.quotient);
      digits =
          rw (parts.ensures.quotient, put.ensures.bytes, parts.ensures.rest)
          (sym (digits_before 16 l.rest (drop l.start l.bytes) (omega arith) (omega arith)) ∙ l.invariant.digits);
    }
