-- Private: what follows the whole part of a size in a unit.
use Rattle.std.specs.Prelude.{◌≡◌, ℕ, ◌+◌, ◌*◌, ◌^◌, ◌<◌, ◌≤◌, true, false, List, ◌∷◌, ◌++◌}
use Rattle.byte_unit_math.specs.Bounds.{scale}
use Rattle.byte_unit_math.specs.Digits.{last_digits, trim_zeros}
use Rattle.byte_unit_math.specs.Numeral.{fraction_text}
use Rattle.byte_unit_choice.specs.Choice.{IsRecoveredIn}
use Rattle.byte_unit_base.specs.Sizes.Kinds.{bits_in, counts_bits, own_unit}
use Rattle.byte_unit_base.specs.Grammar.Shape.{Shape, bits, shape}
use Rattle.byte_unit_base.specs.Grammar.Version.{unit_name_in, current}
use Rattle.byte_unit_base.specs.declared.kind.Kind.{Kind}
use Rattle.byte_unit_format.specs.declared.form.split.UnitFraction.{UnitFraction}
use Rattle.byte_unit_format.specs.declared.form.split.UnitFraction.TheVariants.{Own, Eighths, Thousandths}

-- The point and the digits of thousandths without trailing zeros, or nothing if there are no thousandths.
abbrev pub thousandths_text : ℕ → List ℕ
thousandths_text thousandths = fraction_text (trim_zeros (last_digits 3 thousandths))

-- The unit of the kind that it is a fraction of.
abbrev pub fraction_unit : Kind → UnitFraction → Shape
fraction_unit kind Own = own_unit kind
fraction_unit kind (Eighths eighths power) = shape power true (counts_bits kind)
fraction_unit kind (Thousandths thousandths power) = shape power false (counts_bits kind)

-- The thousandths of a unit.
abbrev pub thousandths_of : UnitFraction → ℕ
thousandths_of Own = 0
thousandths_of (Eighths eighths power) = 125 * eighths
thousandths_of (Thousandths thousandths power) = thousandths

-- The digits after the point, a space, and the unit's name.
abbrev pub unit_fraction_text : Kind → UnitFraction → List ℕ
unit_fraction_text kind fraction =
    thousandths_text (thousandths_of fraction) ++ 32 ∷ unit_name_in current (fraction_unit kind fraction)

-- Whole units and thousandths of one are the size, in its largest unit within three digits after the point.
pub record IsSplit (kind : Kind) (size whole : ℕ) (fraction : UnitFraction) : Type 0 where
  pub recovered : IsRecoveredIn current kind false size 3 (fraction_unit kind fraction)
  -- a thousandth, scaled by 10^28, is 10^25
  pub value : (whole * scale + thousandths_of fraction * 10 ^ 25) * bits (fraction_unit kind fraction)
      ≡ size * bits_in kind * scale

-- The prefix is one of the nine, and the eighths or thousandths are less than a unit.
abbrev pub IsProperFraction : UnitFraction → Type 0
IsProperFraction Own = Unit {0}
IsProperFraction (Eighths eighths power) = (eighths < 8) × (1 ≤ power) × (power ≤ 9)
IsProperFraction (Thousandths thousandths power) = (thousandths < 1000) × (1 ≤ power) × (power ≤ 9)
