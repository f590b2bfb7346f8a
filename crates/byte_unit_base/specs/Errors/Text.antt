-- The messages of errors. A character is quoted as by its `Debug` in std; std specifies that for ASCII only, so for
-- other characters nothing is said of the message (`None`).
use Rattle.std.specs.Prelude.{ℕ, Bool, if◌then◌else◌, ◌==◌, length, List, [], ◌∷◌, ◌++◌, Option, Some, None, codes}
use Rattle.std.specs.Fmt.{debug_char, ◌++?◌}
use Rattle.byte_unit_math.specs.Bounds.{places_of_decimal}
use Rattle.byte_unit_math.specs.Numeral.{short_numeral}
use Rattle.byte_unit_base.specs.Errors.Position.{location_words}
use Rattle.byte_unit_base.specs.declared.errors.ExceededBoundsError.{ExceededBoundsError}
use Rattle.byte_unit_base.specs.declared.errors.Location.{Location}
use Rattle.byte_unit_base.specs.declared.errors.UnitParseError.{UnitParseError}
use Rattle.byte_unit_base.specs.declared.errors.ValueParseError.{ValueParseError}
use Rattle.byte_unit_base.specs.declared.errors.ValueParseError.TheVariants.{ExceededBounds, NotNumber}
use Rattle.byte_unit_base.specs.declared.errors.ValueParseError.TheVariants.{NoValue, NumberTooLong}
use Rattle.byte_unit_base.specs.declared.errors.ParseError.{ParseError}
use Rattle.byte_unit_base.specs.declared.errors.ParseError.TheVariants.{Value, Unit as UnitError}
use Rattle.byte_unit_base.specs.declared.errors.JsonSizeError.{JsonSizeError}
use Rattle.byte_unit_base.specs.declared.errors.JsonSizeError.TheVariants.{NotString, Parse}

-- the message of `ExceededBoundsError`
abbrev pub exceeded_text : ExceededBoundsError → Option (List ℕ)
exceeded_text e = Some (codes "value exceeds the valid range")

-- the message of an error in the number
abbrev pub value_text : ValueParseError → Option (List ℕ)
value_text (ExceededBounds n) =
    Some (codes "the value " ++ short_numeral n places_of_decimal ++ codes " exceeds the valid range")
value_text (NotNumber c) = Some (codes "the character ") ++? debug_char c ++? Some (codes " is not a number")
value_text NoValue = Some (codes "no value can be found")
value_text NumberTooLong = Some (codes "value number is too long")

-- the expected characters after the first: ` or ` before the last, and `, ` before each other
abbrev pub others_text : List ℕ → Option (List ℕ)
others_text [] = Some []
others_text (c ∷ cs) = Some (if length cs == 0 then codes " or " else codes ", ") ++? debug_char c ++? others_text cs

-- what is expected: one of these characters, or (if the flag is set) the end of the input
abbrev pub expected_text : List ℕ → Bool → Option (List ℕ)
expected_text [] none = Some (codes " (no character is expected)")
expected_text (c ∷ cs) none =
    Some (codes " (") ++? debug_char c ++? others_text cs
    ++? Some (if none then codes " or no character" else []) ++? Some (codes " is expected)")

-- the message of an error in the unit
abbrev pub unit_text : UnitParseError → Option (List ℕ)
unit_text e =
    Some (codes "the character ") ++? debug_char e.character ++? Some (codes " is incorrect")
    ++? expected_text e.expected_characters.now e.also_expect_no_character

-- the message of an error of a parser of sizes
abbrev pub parse_text : ParseError → Option (List ℕ)
parse_text (Value e) = value_text e
parse_text (UnitError e) = unit_text e

-- that message, and after it the words for its location
abbrev pub located_text : ParseError → Location → Option (List ℕ)
located_text e location = parse_text e ++? Some (location_words location)

-- the message of an error of a parser of JSON values
abbrev pub json_text : JsonSizeError → Option (List ℕ)
json_text NotString = Some (codes "not a JSON string")
json_text (Parse e) = parse_text e

-- the message of an error in the number, under the flags of a formatter, which change nothing. Nothing is said of a
-- message that quotes a character, since std does not specify a quoted character under flags
abbrev pub styled_value_text : ValueParseError → Option (List ℕ)
styled_value_text (NotNumber c) = None
styled_value_text e = value_text e

-- the message of an error of a parser of sizes, under the flags of a formatter
abbrev pub styled_parse_text : ParseError → Option (List ℕ)
styled_parse_text (Value e) = styled_value_text e
styled_parse_text (UnitError e) = None

-- the message of an error of a parser of JSON values, under the flags of a formatter
abbrev pub styled_json_text : JsonSizeError → Option (List ℕ)
styled_json_text NotString = json_text NotString
styled_json_text (Parse e) = styled_parse_text e
