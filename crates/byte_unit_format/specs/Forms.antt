-- The text of a size, with a unit or as digits.
use Rattle.std.specs.Prelude.{◌≡◌, ℕ, ◌*◌, MatchBool, false, List, Option, None, Some}
use Rattle.byte_unit_math.specs.Bounds.{scale, places_of_decimal}
use Rattle.byte_unit_math.specs.Numeral.{short_numeral}
use Rattle.byte_unit_base.specs.Grammar.Shape.{Shape, bits}
use Rattle.byte_unit_base.specs.Grammar.Version.{Version, unit_name_in, current}
use Rattle.byte_unit_choice.specs.Choice.{IsRecoveredIn}
use Rattle.byte_unit_base.specs.declared.kind.Kind.{Kind}
use Rattle.byte_unit_format.specs.declared.spec.FormatSpec.{FormatSpec}
use Rattle.byte_unit_base.specs.Sizes.Kinds.{bits_in}
use Rattle.byte_unit_format.specs.Layout.{layout}
use Rattle.byte_unit_format.specs.Plain.{plain}

-- The number of digits after the point that is allowed if no precision is set.
abbrev pub default_precision : ℕ
default_precision = 3

-- The number of digits after the point that is allowed: the precision, or 3 if none is set. For the choice of the unit
-- more than 28 count as 28.
abbrev pub places_of : Option ℕ → ℕ
places_of None = default_precision
places_of (Some precision) = precision

-- The text is the size in a unit, without trailing zeros: in the largest unit of its own unit set that is at most the
-- size and in which it is exact within the precision, or in bytes or bits themselves if there is none.
pub record IsSizeFormIn (version : Version) (kind : Kind) (size : ℕ) (spec : FormatSpec) (text : List ℕ) : Type 0 where
  pub unit : Shape
  -- the number of units, scaled by 10^28
  pub number : ℕ
  pub is_recovered : IsRecoveredIn version kind false size (places_of spec.precision) unit
  pub number_is : number * bits unit ≡ size * bits_in kind * scale
  pub text_is : text ≡ layout (short_numeral number places_of_decimal) (unit_name_in version unit) spec

-- The size formatted with a unit of the current version.
abbrev pub IsSizeForm : Kind → ℕ → FormatSpec → List ℕ → Type 0
IsSizeForm = IsSizeFormIn current

-- The text of a size by a spec: with a unit if the alternate form is set, and else as digits.
abbrev pub IsTextIn : Version → Kind → ℕ → FormatSpec → List ℕ → Type 0
IsTextIn version kind size spec text =
    MatchBool spec.alternate (IsSizeFormIn version kind size spec text) (text ≡ plain size spec)

-- The size formatted under the spec, with the units of the current version.
abbrev pub IsText : Kind → ℕ → FormatSpec → List ℕ → Type 0
IsText = IsTextIn current

-- The most bytes of the text of a size if no width is set: 27 digits, the point, 5 digits, a space and `KiB`, as in
-- 976562499999999999999999999.96875 KiB.
abbrev pub narrow_text : ℕ
narrow_text = 37

-- A text is shorter than this number of bytes. Width and precision are 16-bit numbers, so it has at most 65,535
-- columns, or at most 65,535 digits after the point and 44 bytes more.
abbrev pub text_limit : ℕ
text_limit = 65600
