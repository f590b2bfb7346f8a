-- A number formatted with its unit.
use Rattle.std.specs.Prelude.{ℕ, ◌+◌, ◌-◌, List, ◌++◌, length, Option, None, Some}
use Rattle.byte_unit_math.specs.Finite.{Finite}
use Rattle.byte_unit_math.specs.Numeral.{text_of}
use Rattle.byte_unit_math.specs.Padded.{pad_of}
use Rattle.byte_unit_base.specs.Grammar.Shape.{Shape}
use Rattle.byte_unit_base.specs.Grammar.Version.{Version, unit_name_in, current}
use Rattle.byte_unit_format.specs.Plain.{padding_for, spaces}
use Rattle.byte_unit_format.specs.declared.spec.Sign.{Sign}
use Rattle.byte_unit_format.specs.declared.spec.Sign.TheVariants.{Unset, Plus, Minus}
use Rattle.byte_unit_format.specs.declared.spec.Align.{Align}
use Rattle.byte_unit_format.specs.declared.spec.Align.TheVariants.{Left, Center, Right}
use Rattle.byte_unit_format.specs.declared.spec.FormatSpec.{FormatSpec}
use Rattle.byte_unit_base.specs.Grammar.Units.{shape_of}
use Rattle.byte_unit_base.specs.declared.unit.Unit.{Unit as UnitName}

-- The spaces between number and unit: one, none with a minus sign, and with a plus sign as many as make four columns
-- together with the unit.
abbrev pub gap_of : Sign → List ℕ → ℕ
gap_of Unset name = 1
gap_of Plus name = 4 - length name
gap_of Minus name = 0

-- The number of padding spaces before the number: all if it is aligned to the right, and else none.
abbrev pub layout_left_padding : Option Align → ℕ → ℕ
layout_left_padding None pad = 0
layout_left_padding (Some Left) pad = 0
layout_left_padding (Some Center) pad = 0
layout_left_padding (Some Right) pad = pad

-- The number of padding spaces: what number, gap and unit lack of the width.
abbrev pub layout_padding : List ℕ → List ℕ → FormatSpec → ℕ
layout_padding number name spec = padding_for spec.width (length number + gap_of spec.sign name + length name)

-- The number, the unit and the spaces between them, padded to the width. The padding is before the number or between
-- number and unit.
abbrev pub layout : List ℕ → List ℕ → FormatSpec → List ℕ
layout number name spec =
    let pad = layout_padding number name spec in
    let before = layout_left_padding spec.align pad in
    spaces before ++ number ++ spaces (pad - before) ++ spaces (gap_of spec.sign name) ++ name

-- A decimal with exactly `places` digits after the point, formatted with its unit.
abbrev pub layout_of_in : Version → Finite → ℕ → Shape → FormatSpec → List ℕ
layout_of_in version e places unit spec = layout (text_of (pad_of places e)) (unit_name_in version unit) spec

-- A decimal with exactly this many places, formatted with its unit by the unit's name in the current version.
abbrev pub layout_of : Finite → ℕ → UnitName → FormatSpec → List ℕ
layout_of e places unit spec = layout_of_in current e places (shape_of unit) spec
