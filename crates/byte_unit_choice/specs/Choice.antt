-- Which unit a size is shown in. A size is in bits here, unless a kind (bytes or bits) is given with it.
use Rattle.std.specs.Prelude.{◌≡◌, ℕ, ◌+◌, ◌*◌, ◌≤◌, ◌⊎◌, min, Bool, true, false}
use Rattle.byte_unit_math.specs.Bounds.{scale, places_of_decimal}
use Rattle.byte_unit_math.specs.Steps.{saturating_add}
use Rattle.byte_unit_math.specs.Exact.{IsExactAt, IsLeastPlaces, IsQuotient}
use Rattle.byte_unit_math.specs.Powers.{IsTwoFive}
use Rattle.byte_unit_base.specs.Grammar.Shape.{Shape, bits}
use Rattle.byte_unit_base.specs.Grammar.Version.{Version, current}
use Rattle.byte_unit_base.specs.Sizes.Kinds.{bits_in, own_unit}
use Rattle.byte_unit_choice.specs.Family.{own_family, InFamily, IsOfType}
use Rattle.byte_unit_base.specs.declared.kind.Kind.{Kind}
use Rattle.byte_unit_base.specs.declared.kind.Kind.TheVariants.{Byte, Bit}
use Rattle.byte_unit_choice.specs.declared.choice.Family.{Family}
use Rattle.byte_unit_choice.specs.declared.choice.Family.TheVariants.{All}
use Rattle.byte_unit_choice.specs.declared.unit_type.UnitType.{UnitType}
use Rattle.byte_unit_base.specs.Grammar.Units.{shape_of}
use Rattle.byte_unit_base.specs.declared.unit.Unit.{Unit as UnitName}

-- the unit has the property, and no larger unit has it
pub record IsLargest (Has : Shape → Type 0) (unit : Shape) : Type 0 where
  pub has : Has unit
  pub largest : (other : Shape) → Has other → bits other ≤ bits unit

-- no unit has the property
abbrev pub NoneHas : (Shape → Type 0) → Type 0
NoneHas Has = (unit : Shape) → ¬ (Has unit)

-- the largest unit that has the property, or, if none has it, the base unit of the kind: a byte or a bit
abbrev pub IsLargestOrOwn : Kind → (Shape → Type 0) → Shape → Type 0
IsLargestOrOwn kind Has unit = IsLargest Has unit ⊎ NoneHas Has × (unit ≡ own_unit kind)

-- the number of digits after the point that a precision allows, which is at most the 28 of a decimal
abbrev pub places_within : ℕ → ℕ
places_within precision = min precision places_of_decimal

-- the size is exact in this unit of the unit set: the unit is not above the size, and their quotient has no more digits
-- after the point than the precision allows
pub record IsExactUnitIn (version : Version) (family : Family) (in_bits precision : ℕ) (unit : Shape) : Type 0 where
  pub member : InFamily version family unit
  pub not_above : bits unit ≤ in_bits
  pub exact : IsExactAt in_bits (bits unit) (places_within precision)

-- A unit of the unit set, in the current version, not above the size, in which it is exact within the precision.
abbrev pub IsExactUnit : Family → ℕ → ℕ → Shape → Type 0
IsExactUnit = IsExactUnitIn current

-- the largest unit in which the size is exact, and the number of it in the size, scaled by 10^28
pub record IsChosenIn (version : Version) (family : Family) (in_bits precision : ℕ) (unit : Shape) (number : ℕ)
    : Type 0 where
  pub unit_is : IsLargest (IsExactUnitIn version family in_bits precision) unit
  pub number_is : IsQuotient in_bits (bits unit) (places_within precision) number

-- The largest unit of the unit set, in the current version, not above the size, in which it is exact within the
-- precision; and the size in it, scaled by 10^28.
abbrev pub IsChosen : Family → ℕ → ℕ → Shape → ℕ → Type 0
IsChosen = IsChosenIn current

-- a unit of this unit set and of this type (binary, decimal or both) that is not above the size
pub record IsEligibleUnitIn (version : Version) (family : Family) (unit_type : UnitType) (in_bits : ℕ) (unit : Shape)
    : Type 0 where
  pub member : InFamily version family unit
  pub of_type : IsOfType unit_type unit.binary
  pub not_above : bits unit ≤ in_bits

-- A unit of the unit set and of the type, in the current version, not above the size. `IsAppropriate` is the largest.
abbrev pub IsEligibleUnit : Family → UnitType → ℕ → Shape → Type 0
IsEligibleUnit = IsEligibleUnitIn current

-- the unit set for a size of this kind: the multiples of its base unit, or, if the flag is set, those of bytes and of
-- bits
abbrev pub family_for : Kind → Bool → Family
family_for kind false = own_family kind
family_for kind true = All

-- the recovered unit of a size: the largest unit in which it is exact within the precision, or the base unit of its
-- kind if there is none. `both` says whether the units of the other kind are allowed
abbrev pub IsRecoveredIn : Version → Kind → Bool → ℕ → ℕ → Shape → Type 0
IsRecoveredIn version kind both size precision =
    IsLargestOrOwn kind (IsExactUnitIn version (family_for kind both) (size * bits_in kind) precision)

-- The recovered unit of a size within the precision, among the units of the current version.
abbrev pub IsRecovered : Kind → Bool → ℕ → ℕ → UnitName → Type 0
IsRecovered kind both size precision unit = IsRecoveredIn current kind both size precision (shape_of unit)

-- the step count of choosing a unit for a size that is not zero, as a number of bytes or of bits by its kind. `number`
-- is the chosen number, scaled by 10^28, or 0 if no unit is chosen; `twos` and `fives` are the exponents of 2 and 5 in
-- the size, and `places` is the number of places of the chosen number
pub record TakesSteps (size number steps : ℕ) : Type 0 where
  pub twos : ℕ
  pub fives : ℕ
  pub places : ℕ
  pub powers : IsTwoFive size twos fives
  pub is_places : IsLeastPlaces number scale places
  -- one step for each factor 2 and each factor 5 of the size, one for each of the two trials that find no further
  -- factor, and one for each digit after the point
  pub steps_are : steps ≡ twos + fives + 2 + places

-- `new` is the step counter `old` after choosing a unit; it saturates at 2^64 - 1. A size of zero takes no step
abbrev pub CountsChoice : ℕ → ℕ → ℕ → ℕ → Type 0
CountsChoice size number old new =
    (size ≡ 0) × (new ≡ old) ⊎ (steps : ℕ) × TakesSteps size number steps × (new ≡ saturating_add old steps)

-- the greatest step count of choosing a unit for a size of this kind. At a precision of 27, 7 * 2^87 bytes take 116
-- steps, and 7 * 2^90 bits take 119 if units of bytes are allowed
abbrev pub most_steps : Kind → ℕ
most_steps Byte = 116
most_steps Bit = 119

-- the unit in which an adjusted size is shown: the largest of its kind and of this type that is not above the size, or
-- the base unit of the kind if there is none
abbrev pub IsAppropriateIn : Version → Kind → UnitType → ℕ → Shape → Type 0
IsAppropriateIn version kind unit_type size =
    IsLargestOrOwn kind (IsEligibleUnitIn version (own_family kind) unit_type (size * bits_in kind))

-- The largest unit of the kind and type, not above the size, of the current version, or the base unit of the kind if
-- there is none.
abbrev pub IsAppropriate : Kind → UnitType → ℕ → UnitName → Type 0
IsAppropriate kind unit_type size unit = IsAppropriateIn current kind unit_type size (shape_of unit)
