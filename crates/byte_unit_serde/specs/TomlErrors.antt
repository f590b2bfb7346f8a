-- The errors of sizes and units from TOML strings.
use Rattle.std.specs.Prelude.{ℕ, List, Option, Some, codes}
use Rattle.byte_unit.specs.Errors.Text.{parse_text, unit_text}
use Rattle.byte_unit.specs.Reading.Results.{JsonErrors}
use Rattle.byte_unit.specs.declared.ParseError.{ParseError}
use Rattle.byte_unit.specs.declared.UnitParseError.{UnitParseError}
use Rattle.byte_unit_serde.specs.declared.toml_values.TomlSizeError.{TomlSizeError}
use Rattle.byte_unit_serde.specs.declared.toml_values.TomlSizeError.TheVariants.{NotString, Parse}
use Rattle.byte_unit_serde.specs.declared.toml_values.TomlUnitError.{TomlUnitError}
use Rattle.byte_unit_serde.specs.declared.toml_values.TomlUnitError.TheVariants.{NotString as NoUnitString, Unit as UnitFault}

-- The two errors of reading a size from TOML: the value is no string, or the string is no size.
abbrev pub toml_size_errors : JsonErrors ParseError TomlSizeError
toml_size_errors = record { not_string = NotString; of_text = Parse }

-- The two errors of reading a unit from TOML: the value is no string, or the string is no unit.
abbrev pub toml_unit_errors : JsonErrors UnitParseError TomlUnitError
toml_unit_errors = record { not_string = NoUnitString; of_text = UnitFault }

-- The message of an error of reading a size.
abbrev pub size_text : TomlSizeError → Option (List ℕ)
size_text NotString = Some (codes "not a TOML string")
size_text (Parse e) = parse_text e

-- The message of an error of reading a unit.
abbrev pub unit_error_text : TomlUnitError → Option (List ℕ)
unit_error_text NoUnitString = Some (codes "not a TOML string")
unit_error_text (UnitFault e) = unit_text e
