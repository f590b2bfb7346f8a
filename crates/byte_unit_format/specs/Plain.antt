-- A size formatted as digits, without a unit.
use Rattle.std.specs.Prelude.{ℕ, ◌-◌, ◌/◌, List, [], ◌++◌, length, replicate, codes, Option, None, Some}
use Rattle.std.specs.Fmt.{decimal}
use Rattle.byte_unit_format.specs.declared.spec.Sign.{Sign}
use Rattle.byte_unit_format.specs.declared.spec.Sign.TheVariants.{Unset, Plus, Minus}
use Rattle.byte_unit_format.specs.declared.spec.Align.{Align}
use Rattle.byte_unit_format.specs.declared.spec.Align.TheVariants.{Left, Center, Right}
use Rattle.byte_unit_format.specs.declared.spec.FormatSpec.{FormatSpec}

-- The plus sign if it is set, and else nothing.
abbrev pub plus_of : Sign → List ℕ
plus_of Unset = []
plus_of Plus = codes "+"
plus_of Minus = []

-- The decimal digits of a size, after its sign.
abbrev pub signed_digits : ℕ → FormatSpec → List ℕ
signed_digits size spec = plus_of spec.sign ++ decimal size

-- The least number of columns for a width: 0 if no width is set.
abbrev pub least_columns : Option ℕ → ℕ
least_columns None = 0
least_columns (Some width) = width

-- The number of spaces that a text of this length lacks of the width; 0 if no width is set.
abbrev pub padding_for : Option ℕ → ℕ → ℕ
padding_for None len = 0
padding_for (Some width) len = width - len

-- A run of spaces (32).
abbrev pub spaces : ℕ → List ℕ
spaces n = replicate n 32

-- The number of padding spaces before the digits: all by default, as Rust's numbers are aligned to the right, and half
-- of them, rounded down, if they are centered.
abbrev pub plain_left_padding : Option Align → ℕ → ℕ
plain_left_padding None pad = pad
plain_left_padding (Some Left) pad = 0
plain_left_padding (Some Center) pad = pad / 2
plain_left_padding (Some Right) pad = pad

-- The number of padding spaces of a size formatted as digits.
abbrev pub plain_padding : ℕ → FormatSpec → ℕ
plain_padding size spec = padding_for spec.width (length (signed_digits size spec))

-- The digits of a size with their sign, padded to the width.
abbrev pub plain : ℕ → FormatSpec → List ℕ
plain size spec =
    let pad = plain_padding size spec in
    let before = plain_left_padding spec.align pad in
    spaces before ++ signed_digits size spec ++ spaces (pad - before)
