-- The size of the number and the unit, or the error that it is too large, is what the string is read as.
use Rattle.std.proofs.Common.{Some, Ok, Err, refl, sym, ap, subst, ◌∙◌}
use Rattle.byte_unit_base.specs.Errors.Meaning.{size_fault}
use Rattle.byte_unit_base.specs.Errors.Position.{IsSizePosition}
use Rattle.byte_unit_c.specs.Error.{code_of, IsErrorWritten}
use Rattle.byte_unit_c.proofs.parse.write_size.Goals as goal

-- the size is written
pub returns-in-Ok : goal.returns-in-Ok
returns-in-Ok c = λ bytes utf8 reading. (
  Some (Ok c.in-Ok.in_kind),
  (utf8, c.in-Ok.ensures.reading bytes reading),
  (refl, c.new.ensures, refl),
)

-- the number is written, with the position 0
pub returns-in-Err : goal.returns-in-Err
returns-in-Err c = λ bytes utf8 reading.
    let excess = sym (ap size_fault c.in-Err.ensures.excess) in
    let written = subst
    (λ fault. IsErrorWritten (IsSizePosition bytes) fault c.args.errors.now c.write_value.new.errors) excess
    (0, refl, c.write_value.ensures.written) in (
      Some (Err c.in-Err.field-0),
      (utf8, c.in-Err.ensures.reading bytes reading),
      (c.write_value.ensures.code ∙ ap code_of excess, written, refl),
    )
