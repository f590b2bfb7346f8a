-- The codes of units and unit types in the C API. A code is an index into a list.
use Rattle.std.specs.Prelude.{◌≡◌, ℕ, List, [], ◌∷◌, Option, Some, slice_get}
use Rattle.byte_unit_base.specs.Grammar.Shape.{Shape}
use Rattle.byte_unit_base.specs.Grammar.Units.{shape_of, units}
use Rattle.byte_unit_choice.specs.declared.unit_type.UnitType.{UnitType}
use Rattle.byte_unit_choice.specs.declared.unit_type.UnitType.TheVariants.{Binary, Decimal, Both}
use Rattle.byte_unit_base.specs.declared.unit.Unit.{Unit as UnitName}

-- the unit with a code, which is its index among the units; none if the code is 38, the number of units, or more
abbrev pub unit_at : ℕ → Option UnitName
unit_at code = slice_get units code

-- the code is that of a unit with this property
abbrev pub CodesUnit : (Shape → Type 0) → ℕ → Type 0
CodesUnit Has code = (unit : UnitName) × (unit_at code ≡ Some unit) × Has (shape_of unit)

-- the unit types, in the order of their codes
abbrev pub types : List UnitType
types = Binary ∷ Decimal ∷ Both ∷ []
