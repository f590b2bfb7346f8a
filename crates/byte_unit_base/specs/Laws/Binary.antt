-- The laws of the binary reading. An input is given by its UTF-8 bytes, and a text is the list of its characters.
use Rattle.std.specs.Prelude.{◌≡◌, ◌↔◌, ℕ, ◌⊎◌, Bool, List, [], ◌∷◌, ◌++◌, replicate, Result}
use Rattle.byte_unit_base.specs.Grammar.Version.{current}
use Rattle.byte_unit_base.specs.Grammar.Spelling.{Flags, IsPrefixLetter, SpellsCount}
use Rattle.byte_unit_base.specs.Grammar.Number.{IsNumberText}
use Rattle.byte_unit_base.specs.Grammar.SizeText.{space, trim_of}
use Rattle.byte_unit_base.specs.Errors.Fault.{letter_i}
use Rattle.byte_unit_base.specs.Sizes.Kinds.{flags_for}
use Rattle.byte_unit_base.specs.Reading.Results.{IsSizeReading}
use Rattle.byte_unit_base.specs.Reading.Binary.{IsBinaryReading}
use Rattle.byte_unit_base.specs.declared.errors.ParseError.{ParseError}
use Rattle.byte_unit_base.specs.declared.kind.Kind.{Kind}

-- the text is a number, any number of spaces, the letter of a prefix, and a suffix, so the prefix is decimal; `before`
-- is all before the suffix
pub record HasDecimalPrefix (flags : Flags) (text before suffix : List ℕ) : Type 0 where
  pub number_part : List ℕ
  pub number : ℕ
  pub spaces : ℕ
  pub letter : ℕ
  pub power : ℕ
  pub bit : Bool
  pub text_is : text ≡ before ++ suffix
  pub before_is : before ≡ number_part ++ (replicate spaces space ++ letter ∷ [])
  pub number_is : IsNumberText current number_part number
  pub letter_is : IsPrefixLetter current power letter
  pub suffix_is : SpellsCount flags suffix bit

-- `other` is the text with an `i` after its decimal prefix, or the text itself if it has no decimal prefix, as a text
-- that is rejected
abbrev pub IsWithI : Flags → List ℕ → List ℕ → Type 0
IsWithI flags text other =
    ((before suffix : List ℕ) × HasDecimalPrefix flags text before suffix × (other ≡ before ++ letter_i ∷ suffix))
    ⊎ ((before suffix : List ℕ) → ¬ (HasDecimalPrefix flags text before suffix)) × (other ≡ text)

-- law: the binary reading of each input is the reading of the input with an `i` after its decimal prefix, whether it is
-- accepted or rejected
abbrev pub BinaryReadingsAreThoseWithI : Type 0
BinaryReadingsAreThoseWithI =
    (kind : Kind) (ignore_case : Bool) (bytes other : List ℕ)
    → IsWithI (flags_for kind ignore_case) (trim_of bytes) (trim_of other)
    → (result : Result ℕ ParseError)
    → IsBinaryReading kind ignore_case bytes result ↔ IsSizeReading kind ignore_case other result

-- law: for each input there is one with an `i` after its decimal prefix
abbrev pub EachTextHasOneWithI : Type 0
EachTextHasOneWithI =
    (flags : Flags) (bytes : List ℕ) → (other : List ℕ) × IsWithI flags (trim_of bytes) (trim_of other)
