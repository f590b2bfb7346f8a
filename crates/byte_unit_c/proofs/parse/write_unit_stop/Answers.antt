-- The details of the error where the parser of a unit stops are what is written.
use Rattle.std.proofs.Common.{sym, ap, ◌∙◌}
use Rattle.byte_unit_base.specs.Errors.Meaning.{unit_fault}
use Rattle.byte_unit_base.specs.Errors.Expected.{named_in}
use Rattle.byte_unit_c.specs.Error.{expected_bytes, IsErrorOf}
use Rattle.byte_unit_c.proofs.parse.write_unit_stop.Goals as goal

-- what is written is the error by what was read of the unit and by the character after it
pub returns : goal.returns
returns c =
    let error = c.error_before-error.result in
    -- the bytes that are written are those of the characters that the error names
    let bytes_are = c.bytes_of-expected.ensures
    ∙ ap expected_bytes (c.expected_before.ensures ∙ ap named_in (sym c.error_before-error.ensures)) in
    let details : IsErrorOf (unit_fault error) c.of_unit_parts.result =
    rw (← c.error.view_is)
    (c.of_unit_parts.ensures.details c.error.inside.expected_characters.now (rw (← c.error.view_is) at bytes_are)) in (
      error,
      c.error_before-error.ensures,
      (c.of_unit_parts.result, details, c.of_unit_parts.ensures.position, c.write.ensures),
    )
