-- Of a string the white space at its end is left out; other bytes stay as they are.
use Rattle.std.proofs.Common.{◌∙◌, ap, refl}
use Rattle.std.specs.Str.{trim_end}
use Rattle.std.proofs.lemmas.Str.{is_utf8-from_IsUtf8}
use Rattle.byte_unit_base.proofs.Computed.{test_of_not_utf8}
use Rattle.byte_unit_command.proofs.size.before_space.Goals as goal

-- the bytes are a string, which is trimmed
pub returns-in-Ok : goal.returns-in-Ok
returns-in-Ok c =
    -- the two parts of the contract of `from_utf8`: the string has these bytes, and they are UTF-8
    let cases = c.in-Ok.ensures.cases in
    rw (is_utf8-from_IsUtf8 c.args.text.now cases.1)
    (c.as_bytes.ensures.value ∙ (c.trim_end.ensures.trim ∙ ap trim_end cases.0))

-- the bytes are no string
pub returns-in-Err : goal.returns-in-Err
returns-in-Err c = rw (test_of_not_utf8 c.args.text.now c.in-Err.ensures.cases.0) refl
