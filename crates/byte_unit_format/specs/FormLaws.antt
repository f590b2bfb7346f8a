-- Laws of formatted sizes. How a string is parsed depends on the version of the grammar; laws about parsing are about
-- the current one.
use Rattle.std.specs.Prelude.{◌≡◌, ◌≢◌, ℕ, ◌+◌, ◌-◌, ◌*◌, ◌<◌, ◌⊎◌, max, Bool, false, List, length}
use Rattle.std.specs.Fmt.{decimal}
use Rattle.byte_unit_math.specs.Bounds.{places_of_decimal, expansion_places}
use Rattle.byte_unit_math.specs.Exact.{IsExactAt}
pub use Rattle.byte_unit_math.specs.NumberLaws.{ZeroTakesNoPlaces}
use Rattle.byte_unit_math.specs.Powers.{TakesLackingPlaces}
use Rattle.byte_unit_base.specs.Grammar.Shape.{Shape, bits, twos, fives}
use Rattle.byte_unit_base.specs.Grammar.Version.{Version, current}
use Rattle.byte_unit_base.specs.Grammar.Units.{shape_of}
use Rattle.byte_unit_base.specs.Sizes.Accepted.{IsAccepted, IsAcceptedIn, IsRejectedIn}
use Rattle.byte_unit_base.specs.Errors.Fault.{too_long}
use Rattle.byte_unit_format.specs.Adjusted.{IsAdjustedFormIn, adjusted_text_in}
use Rattle.byte_unit_format.specs.AdjustedString.{IsAdjustedString, IsGreatest}
use Rattle.byte_unit_format.specs.Forms.{IsSizeForm, IsSizeFormIn, IsText, IsTextIn}
use Rattle.byte_unit_format.specs.Layout.{layout, gap_of}
use Rattle.byte_unit_format.specs.NamedSpecs.{plain_spec, alternate_spec}
use Rattle.byte_unit_format.specs.Plain.{plain, signed_digits, least_columns}
use Rattle.byte_unit_base.specs.Sizes.Kinds.{bits_in}
use Rattle.byte_unit_base.specs.declared.kind.Kind.{Kind}
use Rattle.byte_unit_base.specs.declared.kind.Kind.TheVariants.{Byte, Bit as OfBits}
use Rattle.byte_unit_base.specs.declared.unit.Unit.{Unit as UnitName}
use Rattle.byte_unit_format.specs.declared.spec.FormatSpec.{FormatSpec}
use Rattle.byte_unit_format.specs.declared.spec.Sign.TheVariants.{Plus}

-- A size formatted with a unit, by any spec, is parsed as that size.
abbrev pub SizeFormReadsBack : Type 0
SizeFormReadsBack =
    (kind : Kind) (size : ℕ) (spec : FormatSpec) (ignore_case : Bool) (text : List ℕ) → size < current.size_limit
    → IsSizeForm kind size spec text → IsAccepted kind ignore_case text size

-- A size formatted as digits is parsed as that size, unless it has a plus sign.
abbrev pub PlainFormReadsBack : Type 0
PlainFormReadsBack =
    (kind : Kind) (size : ℕ) (spec : FormatSpec) (ignore_case : Bool) → size < current.size_limit
    → spec.sign ≢ Plus → IsAccepted kind ignore_case (plain size spec) size

-- The string that a size is stored as is parsed as that size.
abbrev pub SizeStringReadsBack : Type 0
SizeStringReadsBack =
    (kind : Kind) (size : ℕ) (text : List ℕ) → size < current.size_limit
    → IsText kind size alternate_spec text → IsAccepted kind false text size

-- The size has exactly one text with a unit by this spec.
pub record HasOneForm (version : Version) (kind : Kind) (size : ℕ) (spec : FormatSpec) : Type 0 where
  pub form : List ℕ
  pub is_form : IsSizeFormIn version kind size spec form
  pub one : (other : List ℕ) → IsSizeFormIn version kind size spec other → other ≡ form

-- Every size has exactly one text with a unit by each spec.
abbrev pub SizeHasOneForm : Type 0
SizeHasOneForm =
    (version : Version) (kind : Kind) (size : ℕ) (spec : FormatSpec) → HasOneForm version kind size spec

-- The size has exactly one text in this unit by this spec.
pub record HasOneAdjustedForm (version : Version) (kind : Kind) (size : ℕ) (unit : Shape) (spec : FormatSpec)
    : Type 0 where
  pub form : List ℕ
  pub is_form : IsAdjustedFormIn version kind size unit spec form
  pub one : (other : List ℕ) → IsAdjustedFormIn version kind size unit spec other → other ≡ form

-- Every size has exactly one text in each unit by each spec.
abbrev pub SizeHasOneAdjustedForm : Type 0
SizeHasOneAdjustedForm =
    (version : Version) (kind : Kind) (size : ℕ) (unit : Shape) (spec : FormatSpec)
    → HasOneAdjustedForm version kind size unit spec

-- What `Display` writes of a size by default, its digits, is its text by the plain spec.
abbrev pub ShownSizeIsPlainForm : Type 0
ShownSizeIsPlainForm =
    (version : Version) (kind : Kind) (size : ℕ) → IsTextIn version kind size plain_spec (decimal size)

-- What `Display` writes of a size in a unit by default is its text in that unit by the plain spec.
abbrev pub ShownAdjustedSizeIsPlainForm : Type 0
ShownAdjustedSizeIsPlainForm =
    (version : Version) (kind : Kind) (size : ℕ) (unit : UnitName)
    → IsAdjustedFormIn version kind size (shape_of unit) plain_spec (adjusted_text_in version kind size (shape_of unit))

-- A size formatted as digits is as long as the width, or as its sign and digits if these are longer.
abbrev pub PlainFormFillsWidth : Type 0
PlainFormFillsWidth =
    (size : ℕ) (spec : FormatSpec)
    → length (plain size spec) ≡ max (least_columns spec.width) (length (signed_digits size spec))

-- A number with a unit is as long as the width, or as the number, the spaces and the name together if these are longer.
abbrev pub LayoutFillsWidth : Type 0
LayoutFillsWidth =
    (number name : List ℕ) (spec : FormatSpec) →
    let columns = length number + gap_of spec.sign name + length name in
    length (layout number name spec) ≡ max (least_columns spec.width) columns

-- The string of the adjusted size has at most 28 digits after the point, as many as a decimal keeps; that of the
-- largest size always has.
abbrev pub FitsDecimal : Version → Kind → ℕ → Shape → Type 0
FitsDecimal version kind size unit =
    IsGreatest version size ⊎ IsExactAt (size * bits_in kind) (bits unit) places_of_decimal

-- The string is parsed as the size if it has at most 28 digits after the point, and is otherwise rejected as too long.
pub record ReadsBack (version : Version) (kind : Kind) (size : ℕ) (unit : Shape) (text : List ℕ) : Type 0 where
  pub accepted : FitsDecimal version kind size unit → IsAcceptedIn version kind false text size
  pub refused : ¬ (FitsDecimal version kind size unit) → IsRejectedIn version kind false text too_long

-- The string that an adjusted size is stored as is read as the size, or rejected as too long.
abbrev pub AdjustedStringReadsBack : Type 0
AdjustedStringReadsBack =
    (kind : Kind) (size : ℕ) (unit : UnitName) (text : List ℕ) → size < current.size_limit
    → IsAdjustedString kind size unit text → ReadsBack current kind size (shape_of unit) text

-- A size in a unit takes as many digits after the point as its number of bits lacks factors of 2 or factors of 5 of the
-- unit, whichever is more.
abbrev pub PlacesOfSize : Type 0
PlacesOfSize =
    (kind : Kind) (size : ℕ) (unit : Shape) → TakesLackingPlaces (size * bits_in kind) (twos unit) (fives unit)

-- The most digits after the point that a size takes in a unit: 93 in bits, and 90 in bytes, since a byte is 2^3 bits.
abbrev pub most_places : Kind → ℕ
most_places Byte = expansion_places - 3
most_places OfBits = expansion_places

-- A size in a unit is a terminating decimal of at most 93 digits after the point, and of at most 90 for bytes.
abbrev pub ExpansionsEnd : Type 0
ExpansionsEnd =
    (kind : Kind) (size : ℕ) (unit : UnitName)
    → IsExactAt (size * bits_in kind) (bits (shape_of unit)) (most_places kind)
