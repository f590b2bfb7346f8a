-- A text that is UTF-8 is not rejected as bytes that are not.
use Rattle.std.proofs.Common.{IsUtf8, arith, take, take_at, drop, length, ◌≡◌, ◌++◌, subst, sym}
use Rattle.byte_unit_serde.proofs.sizes.write_as.Goals as goal

-- If the text is UTF-8, this branch is not taken: the text has room in the array, so the bytes are those of the text.
pub returns-in-Err-clause-exact : goal.returns-in-Err-clause-exact
returns-in-Err-clause-exact g c =
    let written = c.write_text-len.ensures.written in
    let begins : c.write_text-len.new.out ≡ written.form ++ drop (length written.form) _ =
    written.fits (omega (arith, written.needed_is, c.write_text-len.ensures.narrow c.requires.width)) in
    let same : take c.write_text-len.result c.write_text-len.new.out ≡ written.form =
    rw begins (take_at written.form _ _ (sym written.needed_is)) in
    (written.form, written.is_form, λ utf8. absurd (c.in-Err.ensures.cases.0 (subst IsUtf8 (sym same) utf8)))
