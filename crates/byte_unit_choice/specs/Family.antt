-- Unit sets (of bytes, of bits, or of both) and types of units (binary, decimal, or both).
use Rattle.std.specs.Prelude.{◌≡◌, ◌≤◌, Bool, true, false, length, ⊤}
use Rattle.byte_unit_base.specs.Grammar.Shape.{Shape}
use Rattle.byte_unit_base.specs.Grammar.Version.{Version}
use Rattle.byte_unit_base.specs.declared.kind.Kind.{Kind}
use Rattle.byte_unit_base.specs.declared.kind.Kind.TheVariants.{Byte, Bit}
use Rattle.byte_unit_choice.specs.declared.choice.Family.{Family}
use Rattle.byte_unit_choice.specs.declared.choice.Family.TheVariants.{All, Bytes, Bits}
use Rattle.byte_unit_choice.specs.declared.unit_type.UnitType.{UnitType}
use Rattle.byte_unit_choice.specs.declared.unit_type.UnitType.TheVariants.{Binary, Decimal, Both}

-- the unit set has the units that count bits (`bit` is true), or those that count bytes
abbrev pub HasKind : Family → Bool → Type 0
HasKind All bit = ⊤
HasKind Bytes bit = bit ≡ false
HasKind Bits bit = bit ≡ true

-- the unit set of the multiples of the base unit
abbrev pub own_family : Kind → Family
own_family Byte = Bytes
own_family Bit = Bits

-- the type has the units that count as binary (`binary` is true), or those that count as decimal
abbrev pub IsOfType : UnitType → Bool → Type 0
IsOfType Binary binary = binary ≡ true
IsOfType Decimal binary = binary ≡ false
IsOfType Both binary = ⊤

-- the unit has a prefix, and it is a prefix of the version
pub record HasPrefix (version : Version) (unit : Shape) : Type 0 where
  pub some : 1 ≤ unit.power
  pub known : unit.power ≤ length version.letters

-- the unit is in the unit set: it has a prefix of the version, and counts what the units of the set count. So a unit
-- without a prefix is in no unit set
pub record InFamily (version : Version) (family : Family) (unit : Shape) : Type 0 where
  pub prefix : HasPrefix version unit
  pub kind : HasKind family unit.bit
