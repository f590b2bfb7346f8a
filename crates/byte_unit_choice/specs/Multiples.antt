-- Private: the lists of units that the search for a unit goes through. No public contract cites this file.
use Rattle.std.specs.Prelude.{◌≡◌, ℕ, zero, suc, ◌≤◌, true, false, List, [], ◌∷◌, ◌++◌, length, map}
use Rattle.byte_unit_base.specs.Grammar.Shape.{Shape, shape, bits, twos, fives}
use Rattle.byte_unit_base.specs.Grammar.Units.{shape_of}
use Rattle.byte_unit_base.specs.Grammar.Version.{current}
use Rattle.byte_unit_choice.specs.Family.{HasPrefix}
use Rattle.byte_unit_choice.specs.declared.tables.UnitRow.{UnitRow}
use Rattle.byte_unit_choice.specs.declared.choice.Family.{Family}
use Rattle.byte_unit_choice.specs.declared.choice.Family.TheVariants.{All, Bytes, Bits}

-- the number of prefixes, one for each prefix letter
abbrev pub prefix_count : ℕ
prefix_count = length current.letters

-- the units of a unit set whose prefix has this index, from the largest to the smallest
abbrev pub units_of_prefix : Family → ℕ → List Shape
units_of_prefix All power =
    shape power true false ∷ shape power false false ∷ shape power true true ∷ shape power false true ∷ []
units_of_prefix Bytes power = shape power true false ∷ shape power false false ∷ []
units_of_prefix Bits power = shape power true true ∷ shape power false true ∷ []

-- the units of a unit set whose prefix has an index of at most n, from the largest to the smallest
abbrev pub units_of_prefixes : Family → ℕ → List Shape
units_of_prefixes family zero = []
units_of_prefixes family (suc power) = units_of_prefix family (suc power) ++ units_of_prefixes family power

-- a row of the table of units: a unit, its number of bits, and the exponents of 2 and 5 in it
pub record ShapeRow : Type 0 where
  pub unit : Shape
  pub bits : ℕ
  pub twos : ℕ
  pub fives : ℕ

-- the row of a unit
abbrev pub row_of : Shape → ShapeRow
row_of unit = record { unit = unit; bits = bits unit; twos = twos unit; fives = fives unit }

-- a row of the table in the code, as a `ShapeRow`
abbrev pub row_shape : UnitRow → ShapeRow
row_shape row = record { unit = shape_of row.unit; bits = row.bits; twos = row.twos; fives = row.fives }

-- the rows are those of the units of the set with one of the first `prefixes` prefix letters, from the largest. Each
-- unit of the set that has at most `in_bits` bits, and one of the `first` first prefix letters, is among them
pub record ListsUnits (family : Family) (in_bits first : ℕ) (rows : List UnitRow) : Type 0 where
  pub prefixes : ℕ
  pub few : prefixes ≤ prefix_count
  pub rows_are : map row_shape rows ≡ map row_of (units_of_prefixes family prefixes)
  pub within : (unit : Shape) → HasPrefix current unit → bits unit ≤ in_bits → unit.power ≤ first
      → unit.power ≤ prefixes
