-- What stays as in the first version, for stored strings and printed sizes.
use Rattle.std.specs.Prelude.{◌↔◌, ℕ, ◌<◌, ◌≤◌, Bool, List, length}
use Rattle.byte_unit_base.specs.Grammar.Shape.{Shape}
use Rattle.byte_unit_base.specs.Grammar.Version.{first_version, current}
use Rattle.byte_unit_base.specs.Sizes.Accepted.{IsAccepted, IsAcceptedIn}
use Rattle.byte_unit_choice.specs.Choice.{IsAppropriateIn}
use Rattle.byte_unit_format.specs.Adjusted.{IsAdjustedFormIn}
use Rattle.byte_unit_format.specs.Forms.{IsSizeForm, IsSizeFormIn}
use Rattle.byte_unit_base.specs.declared.kind.Kind.{Kind}
use Rattle.byte_unit_choice.specs.declared.unit_type.UnitType.{UnitType}
use Rattle.byte_unit_format.specs.declared.spec.FormatSpec.{FormatSpec}

-- Each string that the first version accepts is accepted as the same size.
abbrev pub AcceptedTextsStay : Type 0
AcceptedTextsStay =
    (kind : Kind) (ignore_case : Bool) (text : List ℕ) (size : ℕ)
    → IsAcceptedIn first_version kind ignore_case text size → IsAccepted kind ignore_case text size

-- Each size of the first version has the same texts with a unit.
abbrev pub SizeFormsStay : Type 0
SizeFormsStay =
    (kind : Kind) (size : ℕ) (spec : FormatSpec) (text : List ℕ) → size < first_version.size_limit
    → IsSizeFormIn first_version kind size spec text ↔ IsSizeForm kind size spec text

-- Each size of the first version has the same appropriate unit, for each unit type.
abbrev pub AppropriateUnitsStay : Type 0
AppropriateUnitsStay =
    (kind : Kind) (unit_type : UnitType) (size : ℕ) (unit : Shape) → size < first_version.size_limit
    → IsAppropriateIn first_version kind unit_type size unit ↔ IsAppropriateIn current kind unit_type size unit

-- Each size has the same texts in each unit of the first version.
abbrev pub AdjustedFormsStay : Type 0
AdjustedFormsStay =
    (kind : Kind) (size : ℕ) (unit : Shape) (spec : FormatSpec) (text : List ℕ)
    → unit.power ≤ length first_version.letters
    → IsAdjustedFormIn first_version kind size unit spec text ↔ IsAdjustedFormIn current kind size unit spec text
