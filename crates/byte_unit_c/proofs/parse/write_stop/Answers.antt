-- The error of the number, or of the unit, is what is written.
use Rattle.std.proofs.Common.{sym, ap, ◌∙◌, refl}
use Rattle.byte_unit_base.specs.Reading.Ends.{stop_fault}
use Rattle.byte_unit_base.specs.declared.errors.ParseError.TheVariants.{Value, Unit as UnitError}
use Rattle.byte_unit_c.proofs.parse.write_stop.Goals as goal

-- the parser stops in the number
pub returns-in-InNumber : goal.returns-in-InNumber
returns-in-InNumber c = (
  Value c.error_before.result,
  c.error_before.ensures ∙ ap (λ reason. stop_fault c.args.flags reason c.args.stop.next) (sym c.in-InNumber.is),
  c.write_value.ensures.code,
  c.write_value.ensures.written,
)

-- the parser stops in the unit
pub returns-in-InUnit : goal.returns-in-InUnit
returns-in-InUnit c =
    -- the error of the unit, that it is the one where the parser stops, and that it is written
    let written = c.write_unit_stop.ensures in (
      UnitError written.0,
      written.1 ∙ ap (λ reason. stop_fault c.args.flags reason c.args.stop.next) (sym c.in-InUnit.is),
      refl,
      written.2,
    )
