-- The row of the table has the two digits of the number.
use Rattle.std.proofs.Common.{◌≡◌, ◌+◌, ◌-◌, ◌/◌, ◌%◌, ◌++◌, ◌∙◌, ap, arith, drop}
use Rattle.byte_unit_math.specs.Digits.{last_digits}
use Rattle.byte_unit_math.specs.Numeral.{glyphs}
use Rattle.byte_unit_math.proofs.WrittenDigits.{pairs_from_at, two_digits_put}
use Rattle.byte_unit_math.proofs.decimal_digits.put_2_digits.Goals as goal

-- `row` is the two characters of the pair: 48 is `0`.
pub returns : goal.returns
returns c =
    let n = c.args.n in
    let row = pairs_from_at 100 0 n (omega arith) in
    let none : 0 + n ≡ n = omega arith in
    let back : c.args.end - 2 + 2 ≡ c.args.end = omega arith in
    record {
      begins = omega arith;
      bytes =
          two_digits_put n (c.args.end - 2) _ _ c.args.bytes.now (omega arith, omega arith)
          (row.0 ∙ ap (λ m. 48 + m / 10) none, row.1 ∙ ap (λ m. 48 + m % 10) none)
          ∙ ap (λ k. glyphs (last_digits 2 n) ++ drop k c.args.bytes.now) back;
    }
