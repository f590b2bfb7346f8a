-- How a size is read: its kind, whether case is ignored, whether a decimal prefix means the binary one, and whether words
-- for units are read.
use Rattle.std.specs.Prelude.{ℕ, Bool, true, false, if◌then◌else◌, nat_lt}
use Rattle.byte_unit_base.specs.Grammar.Shape.{Shape, shape}
use Rattle.byte_unit_base.specs.declared.kind.Kind.{Kind}
pub use Rattle.byte_unit_base.specs.declared.spec.ParseSpec.{ParseSpec}

-- the reading of a size of the kind, without words
abbrev pub parse_spec : Kind → Bool → Bool → ParseSpec
parse_spec kind ignore_case binary =
    record { kind = kind; ignore_case = ignore_case; binary = binary; words = false }

-- the same reading, in which words for units are read or not
abbrev pub with_words : Bool → ParseSpec → ParseSpec
with_words words spec =
    record { kind = spec.kind; ignore_case = spec.ignore_case; binary = spec.binary; words = words }

-- the same reading, of sizes of the kind
abbrev pub in_kind : Kind → ParseSpec → ParseSpec
in_kind kind spec = with_words spec.words (parse_spec kind spec.ignore_case spec.binary)

-- the unit with the binary prefix of the same letter; a unit without a prefix, or with a binary one, is itself
abbrev pub binary_of : Shape → Shape
binary_of unit = if nat_lt 0 unit.power then shape unit.power true unit.bit else unit

-- the unit that is meant: the binary unit if decimal prefixes mean binary ones, and else the unit that is written
abbrev pub unit_meant : ParseSpec → Shape → Shape
unit_meant spec unit = if spec.binary then binary_of unit else unit
