-- The error that the specification has for each error of the crate.
use Rattle.byte_unit_base.specs.Errors.Fault.{Fault, bad_unit, not_number, no_value, too_long, exceeded}
use Rattle.byte_unit_base.specs.declared.errors.UnitParseError.{UnitParseError}
use Rattle.byte_unit_base.specs.declared.errors.ValueParseError.{ValueParseError}
use Rattle.byte_unit_base.specs.declared.errors.ValueParseError.TheVariants.{ExceededBounds, NotNumber}
use Rattle.byte_unit_base.specs.declared.errors.ValueParseError.TheVariants.{NoValue, NumberTooLong}
use Rattle.byte_unit_base.specs.declared.errors.ParseError.{ParseError}
use Rattle.byte_unit_base.specs.declared.errors.ParseError.TheVariants.{Value, Unit as UnitError}

-- the error in a unit, as the specification has it
abbrev pub unit_fault : UnitParseError → Fault
unit_fault e = bad_unit e.character e.expected_characters.now e.also_expect_no_character

-- the error in a number, as the specification has it
abbrev pub value_fault : ValueParseError → Fault
value_fault (ExceededBounds n) = exceeded n
value_fault (NotNumber c) = not_number c
value_fault NoValue = no_value
value_fault NumberTooLong = too_long

-- the error of a parser of sizes, in the number or in the unit, as the specification has it
abbrev pub size_fault : ParseError → Fault
size_fault (Value e) = value_fault e
size_fault (UnitError e) = unit_fault e
