-- The texts that can be completed to a unit, or to a number and a unit, and the parser state after
-- each.
use Rattle.std.specs.Prelude.{◌≡◌, ℕ, ◌<◌, Bool, ◌⊎◌, List, [], ◌++◌, replicate, codes}
use Rattle.std.specs.Str.{str_to_ascii_lowercase}
use Rattle.byte_unit_base.specs.Grammar.Version.{Version}
use Rattle.byte_unit_base.specs.Grammar.Spelling.{SpellsPrefix}
use Rattle.byte_unit_base.specs.Grammar.Number.{IsWholePart, IsPointed, IsPrecise, IsNumberText}
use Rattle.byte_unit_base.specs.Grammar.SizeText.{space}

-- the parser state after a viable prefix. `before_unit` is after the spaces that follow a number, and, if a unit is
-- parsed alone, at the beginning
pub data ParserState : Type 0 where
  beginning in_whole after_point in_fraction : ParserState
  before_unit after_prefix after_b after_bi after_bit after_bits : ParserState

-- the text is a beginning of `bits`, in either case (so `B` too leads to `after_b`), and leads to this parser state
abbrev pub IsWord : ParserState → List ℕ → Type 0
IsWord after_b word = str_to_ascii_lowercase word ≡ codes "b"
IsWord after_bi word = str_to_ascii_lowercase word ≡ codes "bi"
IsWord after_bit word = str_to_ascii_lowercase word ≡ codes "bit"
IsWord after_bits word = str_to_ascii_lowercase word ≡ codes "bits"
IsWord _ word = ⊥

-- the text is a prefix of a unit, such as `k` or `Ki`
abbrev pub IsPrefix : Version → List ℕ → Type 0
IsPrefix version text = (power : ℕ) × (binary : Bool) × SpellsPrefix version text power binary

-- the text is a prefix of a unit or nothing, and then a beginning of `bits`, and leads to this parser state
pub record IsViableWordPrefix (version : Version) (parser_state : ParserState) (text : List ℕ) : Type 0 where
  pub prefix_part : List ℕ
  pub word_part : List ℕ
  pub text_is : text ≡ prefix_part ++ word_part
  pub prefix_is : (prefix_part ≡ []) ⊎ IsPrefix version prefix_part
  pub word_is : IsWord parser_state word_part

-- the text is a viable prefix of a unit, and leads to this parser state
abbrev pub IsViableUnitPrefix : Version → ParserState → List ℕ → Type 0
IsViableUnitPrefix version before_unit text = text ≡ []
IsViableUnitPrefix version after_prefix text = IsPrefix version text
IsViableUnitPrefix version parser_state text = IsViableWordPrefix version parser_state text

-- the text is a number, any number of spaces, and a viable prefix of a unit, and leads to this parser state
pub record IsNumberAndUnitPrefix (version : Version) (parser_state : ParserState) (text : List ℕ) : Type 0 where
  pub number_part : List ℕ
  pub number : ℕ
  pub spaces : ℕ
  pub unit_part : List ℕ
  pub text_is : text ≡ number_part ++ (replicate spaces space ++ unit_part)
  pub number_is : IsNumberText version number_part number
  pub unit_is : IsViableUnitPrefix version parser_state unit_part

-- the text is a viable prefix of a number and a unit, and leads to this parser state
abbrev pub IsViableSizePrefix : Version → ParserState → List ℕ → Type 0
IsViableSizePrefix version beginning text = text ≡ []
IsViableSizePrefix version in_whole text = (value : ℕ) × IsWholePart version text value
IsViableSizePrefix version after_point text = (value : ℕ) × IsPointed version text value
IsViableSizePrefix version in_fraction text = (number : ℕ) × IsPrecise version text number
IsViableSizePrefix version before_unit text =
    (front : IsNumberAndUnitPrefix version before_unit text) × (0 < front.spaces)
IsViableSizePrefix version parser_state text = IsNumberAndUnitPrefix version parser_state text

-- the input is `front` followed by `rest`, and `front` is its longest viable prefix, with this parser state after it
pub record IsLongestViablePrefix
    (IsViable : ParserState → List ℕ → Type 0) (text : List ℕ) (parser_state : ParserState)
    (front rest : List ℕ) : Type 0 where
  pub text_is : text ≡ front ++ rest
  pub is_front : IsViable parser_state front
  pub longest : (farther : ParserState) (next others : List ℕ)
      → rest ≡ next ++ others → IsViable farther (front ++ next) → next ≡ []
