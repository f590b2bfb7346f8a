-- The errors of units that are read from JSON strings.
use Rattle.std.specs.Prelude.{ℕ, List, Option, Some, None, codes}
use Rattle.byte_unit_base.specs.Errors.Text.{unit_text}
use Rattle.byte_unit_base.specs.Reading.Results.{JsonErrors}
use Rattle.byte_unit_base.specs.declared.errors.UnitParseError.{UnitParseError}
use Rattle.byte_unit.specs.declared.unit_json.JsonUnitError.{JsonUnitError}
use Rattle.byte_unit.specs.declared.unit_json.JsonUnitError.TheVariants.{NotString, Unit as UnitFault}

-- The message of the error.
abbrev pub error_text : JsonUnitError → Option (List ℕ)
error_text NotString = Some (codes "not a JSON string")
error_text (UnitFault e) = unit_text e

-- The message under flags of a formatter, which do not change it; known only if it quotes no character of the input.
abbrev pub styled_error_text : JsonUnitError → Option (List ℕ)
styled_error_text NotString = error_text NotString
styled_error_text (UnitFault e) = None

-- The two errors of reading a unit from JSON: the value is no string, or the string is no unit.
abbrev pub unit_errors : JsonErrors UnitParseError JsonUnitError
unit_errors = record { not_string = NotString; of_text = UnitFault }
