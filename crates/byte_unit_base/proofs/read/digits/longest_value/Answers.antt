-- Each digit makes the value that of one digit more.
use Rattle.std.proofs.Common.{◌+◌, ◌*◌, get_or, refl, arith}
use Rattle.std.proofs.lemmas.Str.Parse.{digit_at}
use Rattle.byte_unit_base.proofs.NumberBytes.{one_digit_more}
use Rattle.byte_unit_base.proofs.read.digits.longest_value.Goals as goal

-- the code of a digit is at least 48, that of `0`
pub overflow_sub-digits : goal.overflow_sub-digits
overflow_sub-digits c = omega (arith, digit_at c.args.digits.now c.digits.count c.requires c.digits-test.true)

-- with one digit more the value reaches the limit
pub returns-then-value-ge-WHOLE_LIMIT : goal.returns-then-value-ge-WHOLE_LIMIT
returns-then-value-ge-WHOLE_LIMIT c =
    let ds = c.args.digits.now in
    let i = c.digits.count in
    let more = one_digit_more ds i c.digits.value (get_or ds i 0) (c.digits.value * 10 + c.from.result) c.requires
    c.digits-test.true c.digits.invariant.2 refl (omega (arith, c.from.ensures)) in
    record {
      inside = c.digits-test.true;
      below = omega (arith, c.digits.invariant.1, c.digits.invariant.2);
      above = omega (arith, c.if-value-ge-WHOLE_LIMIT.true, more);
    }

-- the three parts of the invariant
pub digits-preserved : goal.digits-preserved
digits-preserved c =
    let ds = c.args.digits.now in
    let i = c.digits.count in (
      omega (arith, c.digits-test.true),
      omega (arith, c.if-value-ge-WHOLE_LIMIT.false),
      one_digit_more ds i c.digits.value (get_or ds i 0) (c.digits.value * 10 + c.from.result) c.requires
          c.digits-test.true c.digits.invariant.2 refl (omega (arith, c.from.ensures)),
    )
