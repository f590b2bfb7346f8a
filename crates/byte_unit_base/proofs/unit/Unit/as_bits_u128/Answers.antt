-- The table has the bits of each unit at its index.
use Rattle.std.proofs.Common.{◌≡◌, slice_index_or, refl}
use denote.Enum.Declared.{tag_of}
use Rattle.byte_unit_base.specs.Grammar.Shape.{bits}
use Rattle.byte_unit_base.specs.Grammar.Units.{shape_of}
use Rattle.byte_unit_base.specs.contracts.unit.Unit.{the_type}
use Rattle.byte_unit_base.specs.declared.unit.tables.TheConstants.{UNIT_BITS}
use Rattle.byte_unit_base.specs.declared.unit.Unit.{Unit as UnitName}
use Rattle.byte_unit_base.specs.declared.unit.Unit.TheVariants.{Bit}
use Rattle.byte_unit_base.proofs.unit.Unit.as_bits_u128.Goals as goal

-- the table has the bits of a unit at its discriminant: evaluated for each unit
at_place : (unit : UnitName) → slice_index_or UNIT_BITS (tag_of the_type unit) 0 ≡ bits (shape_of unit)
at_place Bit = refl
at_place _ = refl

pub returns-clause-bits : goal.returns-clause-bits
returns-clause-bits c = at_place c.args.self
