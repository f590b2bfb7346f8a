-- One digit more is read, or none is left.
use Rattle.core.specs.Prelude.{get_or}
use native.Mathlib.Omega.{arith}
use Rattle.core.proofs.slice.Prefixes.{drop_more, prefix_len-drop_yes}
use Rattle.core.proofs.dec2flt.DigitsLemmas.{HasRead_more, is_digit}
use Rattle.byte_unit_base.proofs.read.digits.few_digits.Goals as goal

-- one byte more is a digit, and the value has it as its last digit
pub digits-preserved : goal.digits-preserved
digits-preserved c =
    let bs = c.args.line.now in
    let end = c.digits.end in
    let byte = (c.type_inv.line end).fits in
    let digit = is_digit (get_or bs end 0) (omega arith) (omega arith) in
    HasRead_more bs _ _ end _ 1 _ c.digits.invariant (omega arith)
    (prefix_len-drop_yes _ bs end 0 c.digits-test.true digit.0)
    (rw (drop_more bs end 0 c.digits-test.true) (omega (arith, c.from.ensures)))
