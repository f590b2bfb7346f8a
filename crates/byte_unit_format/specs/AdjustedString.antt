-- The string that an adjusted size is stored as.
use Rattle.std.specs.Prelude.{◌≡◌, ℕ, ◌+◌, ◌⊎◌, List}
use Rattle.byte_unit_base.specs.Grammar.Shape.{Shape}
use Rattle.byte_unit_base.specs.Grammar.Version.{Version, current}
use Rattle.byte_unit_format.specs.Forms.{IsSizeFormIn}
use Rattle.byte_unit_format.specs.Adjusted.{IsAdjustedFormIn}
use Rattle.byte_unit_format.specs.NamedSpecs.{alternate_spec}
use Rattle.byte_unit_base.specs.declared.kind.Kind.{Kind}
use Rattle.byte_unit_base.specs.Grammar.Units.{shape_of}
use Rattle.byte_unit_base.specs.declared.unit.Unit.{Unit as UnitName}

-- The size is the largest: one more is the limit.
abbrev pub IsGreatest : Version → ℕ → Type 0
IsGreatest version size = size + 1 ≡ version.size_limit

-- The text is the size with all its digits in the unit. Only the greatest size is stored with its recovered unit. The
-- Rust crate stores its greatest size so too; here it would be rejected in units such as `GiB`, in which it has more
-- than 28 digits after the point.
abbrev pub IsAdjustedStringIn : Version → Kind → ℕ → Shape → List ℕ → Type 0
IsAdjustedStringIn version kind size unit text =
    IsGreatest version size × IsSizeFormIn version kind size alternate_spec text
    ⊎ ¬ (IsGreatest version size) × IsAdjustedFormIn version kind size unit alternate_spec text

-- The string that the size in a unit is stored as.
abbrev pub IsAdjustedString : Kind → ℕ → UnitName → List ℕ → Type 0
IsAdjustedString kind size unit text = IsAdjustedStringIn current kind size (shape_of unit) text
