-- What a proof unfolds to compute the parsers of this crate on a literal.
use Rattle.std.specs.Prelude.{⊤}
use Rattle.std.specs.Char.{encode_utf8}
use Rattle.std.specs.Str.{chars, is_utf8}
use Rattle.byte_unit_base.specs.Reading.Machines.{unit_step, size_step}
use Rattle.byte_unit_base.specs.Reading.Parsed.{parsed_unit, parsed_number, parsed_size_as}

unfoldable pub byte_unit_base_on_literals : ⊤
unfolding chars encode_utf8 is_utf8 unit_step size_step parsed_unit parsed_number parsed_size_as
byte_unit_base_on_literals = tt
