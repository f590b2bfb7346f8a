-- How sizes in bytes and sizes in bits differ.
use Rattle.std.specs.Prelude.{ℕ, Bool, true, false, not}
use Rattle.byte_unit_base.specs.Grammar.Shape.{Shape, shape}
use Rattle.byte_unit_base.specs.Grammar.Spelling.{Flags, flags_of}
use Rattle.byte_unit_base.specs.declared.kind.Kind.{Kind}
use Rattle.byte_unit_base.specs.declared.kind.Kind.TheVariants.{Byte, Bit}

-- the number of bits that a size of 1 has: 8 for bytes, 1 for bits
abbrev pub bits_in : Kind → ℕ
bits_in Byte = 8
bits_in Bit = 1

-- whether the kind is bits
abbrev pub counts_bits : Kind → Bool
counts_bits Byte = false
counts_bits Bit = true

-- the base unit of the kind: a byte or a bit, without a prefix
abbrev pub own_unit : Kind → Shape
own_unit kind = shape 0 (not (counts_bits kind)) (counts_bits kind)

-- how the parser of this kind reads a unit: for sizes in bytes, bytes are preferred; for sizes in bits, bits are, and
-- case is always significant
abbrev pub flags_for : Kind → Bool → Flags
flags_for Byte ignore_case = flags_of ignore_case true
flags_for Bit ignore_case = flags_of false false
