-- The position that is written is that of the string.
use Rattle.std.proofs.Common.{subst}
use Rattle.byte_unit_base.specs.Errors.Position.{IsSizePosition}
use Rattle.byte_unit_c.proofs.position.byte_unit_error_position.Goals as goal

-- the string has the bytes of the argument (the first case of `from_utf8`), so its position is theirs
pub returns-in-Ok-clause-position : goal.returns-in-Ok-clause-position
returns-in-Ok-clause-position c = λ utf8.
    subst (IsSizePosition c.args.text.now) c.write_position.ensures.position
    (subst (λ text. IsSizePosition text c.error_position.result) c.in-Ok.ensures.cases.0 c.error_position.ensures)
