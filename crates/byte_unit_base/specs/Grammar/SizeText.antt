-- The text of a size: a number and a unit. A text is the list of its characters.
use Rattle.std.specs.Prelude.{◌≡◌, ℕ, List, ◌++◌, replicate}
use Rattle.std.specs.Str.{chars, skip_leading_whitespace, drop_trailing_whitespace}
use Rattle.byte_unit_base.specs.Grammar.Shape.{Shape}
use Rattle.byte_unit_base.specs.Grammar.Version.{Version}
use Rattle.byte_unit_base.specs.Grammar.Spelling.{Flags, Spells}
use Rattle.byte_unit_base.specs.Grammar.Number.{IsNumberText}

-- the characters of an input, given by its UTF-8 bytes, without the white space at both its ends
abbrev pub trim_of : List ℕ → List ℕ
trim_of bytes = drop_trailing_whitespace (skip_leading_whitespace (chars bytes))

-- the space, the one character that can be between a number and a unit
abbrev pub space : ℕ
space = 32

-- the text is this number (scaled by 10^28), any number of spaces, and a spelling of this unit;
-- `number_part` and `unit_part` are their texts
pub record IsSizeText (version : Version) (flags : Flags) (text : List ℕ) (number : ℕ) (unit : Shape) : Type 0 where
  pub number_part : List ℕ
  pub spaces : ℕ
  pub unit_part : List ℕ
  pub text_is : text ≡ number_part ++ (replicate spaces space ++ unit_part)
  pub number_is : IsNumberText version number_part number
  pub unit_is : Spells version flags unit_part unit
