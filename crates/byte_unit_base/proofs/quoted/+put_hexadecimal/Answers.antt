-- The last digit is written after the digits of a sixteenth of the number.
use Rattle.std.proofs.Common.{[], ◌∷◌, false, length, arith, ap, sym, subst, ◌∙◌}
use Rattle.std.proofs.lemmas.Fmt.{hex_one_digit}
use Rattle.byte_unit_base.specs.Errors.PutAfter.{IsPutAfter}
use Rattle.byte_unit_base.proofs.PutTexts.{last_digit_put, length_digits_step}
use Rattle.byte_unit_base.proofs.quoted.+put_hexadecimal.Goals as goal

pub put_after-requires : goal.put_after-requires
put_after-requires t c = omega (arith, ap length (hex_one_digit false c.args.n c.if-n-lt16.true))

pub returns-then-n-lt16 : goal.returns-then-n-lt16
returns-then-n-lt16 t c =
    subst (λ text. IsPutAfter text c.args.begin c.args.buffer.now c.put_after.new.buffer c.put_after.result)
    (ap (λ digit. digit ∷ []) c.hexadecimal_digit.ensures ∙ sym (hex_one_digit false c.args.n c.if-n-lt16.true))
    c.put_after.ensures

pub put_hexadecimal-last-requires : goal.put_hexadecimal-last-requires
put_hexadecimal-last-requires t c =
    (omega arith, omega (arith, length_digits_step c.args.n c.if-n-lt16.false c.ranges.n.fits))

pub put_after-requires-2 : goal.put_after-requires-2
put_after-requires-2 t c = omega (arith, length_digits_step c.args.n c.if-n-lt16.false c.ranges.n.fits)

pub returns : goal.returns
returns t c =
    let last = c.put_hexadecimal-last in
    last_digit_put c.args.n c.args.begin last.result c.put_after-2.result c.args.buffer.now last.new.buffer
    c.put_after-2.new.buffer c.if-n-lt16.false c.ranges.n.fits last.ensures
    (subst (λ digit. IsPutAfter (digit ∷ []) last.result last.new.buffer c.put_after-2.new.buffer c.put_after-2.result)
    c.hexadecimal_digit-2.ensures c.put_after-2.ensures)
