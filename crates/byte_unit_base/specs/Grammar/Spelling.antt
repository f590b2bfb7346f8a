-- The spellings of units. A text is the list of its characters; upper and lower case are those of ASCII letters.
use Rattle.std.specs.Prelude.{◌≡◌, ℕ, ◌-◌, ◌<◌, ◌≤◌, Bool, true, false, not, ◌⊎◌, List, [], ◌∷◌, ◌++◌, length}
use Rattle.std.specs.Prelude.{slice_index, codes}
use Rattle.std.specs.Char.{to_ascii_uppercase}
use Rattle.std.specs.Str.{str_to_ascii_lowercase}
use Rattle.byte_unit_base.specs.Grammar.Shape.{Shape}
use Rattle.byte_unit_base.specs.Grammar.Version.{Version}
pub use Rattle.byte_unit_base.specs.declared.spec.Flags.{Flags}

-- how a unit is read: whether case is ignored, so that `b` means bytes as `B` does, and whether a unit without a suffix
-- means bytes
abbrev pub flags_of : Bool → Bool → Flags
flags_of ignore_case prefer_byte = record { ignore_case = ignore_case; prefer_byte = prefer_byte }

-- `c` is the prefix letter at this index, in either case
abbrev pub IsPrefixLetter : Version → ℕ → ℕ → Type 0
IsPrefixLetter version power c =
    (0 < power) × (power ≤ length version.letters) × (to_ascii_uppercase c ≡ slice_index version.letters (power - 1))

-- the text is `i`, in either case, for a binary prefix, and empty for a decimal one
abbrev pub SpellsBinary : List ℕ → Bool → Type 0
SpellsBinary text binary = (text ≡ []) × (binary ≡ false) ⊎ (str_to_ascii_lowercase text ≡ codes "i") × (binary ≡ true)

-- the text is a prefix: the letter at this index, and an `i` if the prefix is binary
pub record SpellsPrefix (version : Version) (text : List ℕ) (power : ℕ) (binary : Bool) : Type 0 where
  pub letter : ℕ
  pub infix_part : List ℕ
  pub text_is : text ≡ letter ∷ infix_part
  pub letter_is : IsPrefixLetter version power letter
  pub infix_is : SpellsBinary infix_part binary

-- the text is a suffix (nothing, `B`, `b`, `bit` or `bits`) that means bits, or bytes if `bit` is false. A version has
-- no field for the suffixes, so one more here would change v1 too, and the law that v2 extends v1: give `Version` a
-- field for them first
abbrev pub SpellsCount : Flags → List ℕ → Bool → Type 0
SpellsCount flags text bit =
    (text ≡ []) × (bit ≡ not flags.prefer_byte)
    ⊎ ((text ≡ codes "B") × (bit ≡ false)
    ⊎ ((text ≡ codes "b") × (bit ≡ not flags.ignore_case)
    ⊎ ((str_to_ascii_lowercase text ≡ codes "bit") × (bit ≡ true)
    ⊎ (str_to_ascii_lowercase text ≡ codes "bits") × (bit ≡ true))))

-- the text is a suffix alone, and the unit has no prefix; a byte then counts as binary, and a bit as decimal
pub record SpellsPlain (flags : Flags) (text : List ℕ) (unit : Shape) : Type 0 where
  pub count_is : SpellsCount flags text unit.bit
  pub power_is : unit.power ≡ 0
  pub binary_is : unit.binary ≡ not unit.bit

-- the text is a prefix and then a suffix
pub record SpellsMultiple (version : Version) (flags : Flags) (text : List ℕ) (unit : Shape) : Type 0 where
  pub prefix_part : List ℕ
  pub count_part : List ℕ
  pub text_is : text ≡ prefix_part ++ count_part
  pub prefix_is : SpellsPrefix version prefix_part unit.power unit.binary
  pub count_is : SpellsCount flags count_part unit.bit

-- the text spells the unit
abbrev pub Spells : Version → Flags → List ℕ → Shape → Type 0
Spells version flags text unit = SpellsPlain flags text unit ⊎ SpellsMultiple version flags text unit
