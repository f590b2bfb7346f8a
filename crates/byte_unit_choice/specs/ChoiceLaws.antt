-- The laws of choosing a unit. A size is in bits, and a number of a unit is scaled by 10^28.
use Rattle.std.specs.Prelude.{◌≡◌, ◌≢◌, ◌↔◌, ℕ, ◌+◌, ◌*◌, ◌<◌, ◌≤◌, ◌⊎◌}
use Rattle.byte_unit_math.specs.Bounds.{scale}
use Rattle.byte_unit_math.specs.Exact.{IsExactAt}
use Rattle.byte_unit_math.specs.Powers.{IsTwoFive}
use Rattle.byte_unit_base.specs.Grammar.Shape.{Shape, bits, twos, fives}
use Rattle.byte_unit_base.specs.Grammar.Version.{Version}
use Rattle.byte_unit_choice.specs.Family.{InFamily}
use Rattle.byte_unit_choice.specs.Choice.{IsChosenIn, NoneHas, IsExactUnitIn}
use Rattle.byte_unit_base.specs.Sizes.Kinds.{bits_in}
use Rattle.byte_unit_base.specs.declared.kind.Kind.{Kind}
use Rattle.byte_unit_choice.specs.declared.choice.Family.{Family}

-- the size is a whole number of this unit
abbrev pub Divides : Shape → ℕ → Type 0
Divides unit in_bits = (whole : ℕ) × (in_bits ≡ whole * bits unit)

-- the number is whole, and no larger unit of the unit set divides the size
pub record IsWholeChoice (version : Version) (family : Family) (in_bits : ℕ) (unit : Shape) (number : ℕ)
    : Type 0 where
  pub whole : (n : ℕ) × (number ≡ n * scale)
  pub no_larger : (other : Shape) → InFamily version family other → bits unit < bits other → ¬ (Divides other in_bits)

-- law: at a precision of 0 the chosen number is whole, and no larger unit of the unit set divides the size
abbrev pub ChoicesAtNoPlacesAreWhole : Type 0
ChoicesAtNoPlacesAreWhole =
    (version : Version) (family : Family) (in_bits number : ℕ) (unit : Shape)
    → IsChosenIn version family in_bits 0 unit number
    → IsWholeChoice version family in_bits unit number

-- a unit is chosen at this precision, and each one that is chosen is at least as large as the given unit
pub record IsNoSmaller (version : Version) (family : Family) (in_bits precision : ℕ) (unit : Shape) : Type 0 where
  pub some : (other : Shape) × (number : ℕ) × IsChosenIn version family in_bits precision other number
  pub larger : (other : Shape) (number : ℕ)
      → IsChosenIn version family in_bits precision other number
      → bits unit ≤ bits other

-- law: if a unit is chosen at some precision, then one is chosen at each higher precision, and it is no smaller
abbrev pub MorePlacesGiveNoSmallerUnit : Type 0
MorePlacesGiveNoSmallerUnit =
    (version : Version) (family : Family) (in_bits low high number : ℕ) (unit : Shape)
    → low ≤ high
    → IsChosenIn version family in_bits low unit number
    → IsNoSmaller version family in_bits high unit

-- law: the chosen number times the chosen unit is exactly the size
abbrev pub NumberTimesUnitIsSize : Type 0
NumberTimesUnitIsSize =
    (version : Version) (family : Family) (in_bits precision number : ℕ) (unit : Shape)
    → IsChosenIn version family in_bits precision unit number
    → number * bits unit ≡ in_bits * scale

-- law: a size has at most one chosen unit and number
abbrev pub ChoicesAreOne : Type 0
ChoicesAreOne =
    (version : Version) (family : Family) (in_bits precision number other_number : ℕ) (unit other_unit : Shape)
    → IsChosenIn version family in_bits precision unit number
    → IsChosenIn version family in_bits precision other_unit other_number
    → (unit ≡ other_unit) × (number ≡ other_number)

-- law: a size has a chosen unit and number, or there is no unit in which it is exact at this precision
abbrev pub EachSizeHasAChoiceOrNone : Type 0
EachSizeHasAChoiceOrNone =
    (version : Version) (family : Family) (in_bits precision : ℕ)
    → ((unit : Shape) × (number : ℕ) × IsChosenIn version family in_bits precision unit number)
    ⊎ NoneHas (IsExactUnitIn version family in_bits precision)

-- the size is exact in the unit at this many digits after the point if and only if the exponents of 2 and 5 in the unit
-- are at most those in the size, `size_twos` and `size_fives`, plus that number of digits
pub record IsExactByPowers (in_bits : ℕ) (unit : Shape) : Type 0 where
  pub size_twos : ℕ
  pub size_fives : ℕ
  pub powers : IsTwoFive in_bits size_twos size_fives
  pub test : (places : ℕ)
      → IsExactAt in_bits (bits unit) places ↔ ((twos unit ≤ size_twos + places) × (fives unit ≤ size_fives + places))

-- law: the exponents of 2 and 5 decide whether a size that is not zero is exact in a unit
abbrev pub SizesAreExactByPowers : Type 0
SizesAreExactByPowers =
    (kind : Kind) (size : ℕ) (unit : Shape) → size ≢ 0 → IsExactByPowers (size * bits_in kind) unit
