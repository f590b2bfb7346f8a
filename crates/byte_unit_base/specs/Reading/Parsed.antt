-- What the parsers return for an input, as functions. A proof can compute them for a literal, an input that is written
-- in a program. An input is given by its UTF-8 bytes. It is proved that they are what the other files say
-- (`Laws.Parsed`).
use Rattle.std.specs.Prelude.{ℕ, ◌+◌, ◌-◌, ◌*◌, ◌/◌, Bool, false, List, Result, Ok, Err, if◌then◌else◌, nat_lt}
use Rattle.byte_unit_math.specs.Bounds.{scale, size_limit}
use Rattle.byte_unit_base.specs.Grammar.Shape.{Shape, bits}
use Rattle.byte_unit_base.specs.Grammar.Units.{unit_of_shape}
use Rattle.byte_unit_base.specs.Grammar.Spelling.{Flags}
use Rattle.byte_unit_base.specs.Grammar.SizeText.{trim_of}
use Rattle.byte_unit_base.specs.Errors.Fault.{Fault, exceeded}
use Rattle.byte_unit_base.specs.Sizes.Kinds.{flags_for, bits_in}
use Rattle.byte_unit_base.specs.Reading.ParseSpec.{ParseSpec, parse_spec, unit_meant}
use Rattle.byte_unit_base.specs.Reading.Words.{in_words, or_in_words}
use Rattle.byte_unit_base.specs.Reading.Machines.{read, unit_scan, start, size_scan, Beginning}
use Rattle.byte_unit_base.specs.declared.kind.Kind.{Kind}
use Rattle.byte_unit_base.specs.declared.unit.Unit.{Unit as UnitName}

-- the unit that the input spells, or its error
unfoldable pub parsed_unit : Flags → List ℕ → Result Shape Fault
parsed_unit flags bytes = read (unit_scan flags) start (trim_of bytes)

-- the number (scaled by 10^28) and the unit of the input, or its error
unfoldable pub parsed_number : Flags → List ℕ → Result (ℕ × Shape) Fault
parsed_number flags bytes = read (size_scan flags) Beginning (trim_of bytes)

-- the number and the unit of the crate that has this shape
abbrev pub number_and_unit_of_crate : ℕ × Shape → ℕ × UnitName
number_and_unit_of_crate found = (found.0, unit_of_shape found.1)

-- N / 10^28 of a unit in bytes or bits, rounded up to a whole number
abbrev pub rounded_up : Kind → ℕ → Shape → ℕ
rounded_up kind N unit = (N * bits unit + (scale * bits_in kind - 1)) / (scale * bits_in kind)

-- the size if it is below the limit, or the error with its number
abbrev pub size_within_limit : ℕ → ℕ → Result ℕ Fault
size_within_limit number size = if nat_lt size size_limit then Ok size else Err (exceeded number)

-- the size of this number and of the unit that is meant, or the error
abbrev pub size_of_parsed : ParseSpec → Result (ℕ × Shape) Fault → Result ℕ Fault
size_of_parsed spec (Ok found) = size_within_limit found.0 (rounded_up spec.kind found.0 (unit_meant spec found.1))
size_of_parsed spec (Err fault) = Err fault

-- the number and the unit of the input, in words where they are read, or its error
abbrev pub parsed_measure : ParseSpec → List ℕ → Result (ℕ × Shape) Fault
parsed_measure spec bytes =
    or_in_words (in_words spec (trim_of bytes)) (parsed_number (flags_for spec.kind spec.ignore_case) bytes)

-- the size that the input is accepted as, or the error that it is rejected with
unfoldable pub parsed_size_as : ParseSpec → List ℕ → Result ℕ Fault
parsed_size_as spec bytes = size_of_parsed spec (parsed_measure spec bytes)

-- the size that the input is accepted as, or the error, by the unit that is written
abbrev pub parsed_size : Kind → Bool → List ℕ → Result ℕ Fault
parsed_size kind ignore_case = parsed_size_as (parse_spec kind ignore_case false)
