-- What it means that an input is accepted as a size, or rejected. An input is given by its UTF-8 bytes.
use Rattle.std.specs.Prelude.{◌≡◌, ℕ, ◌<◌, ◌≤◌, ◌⊎◌, Bool, false, List, Some, None}
use Rattle.byte_unit_base.specs.Grammar.Shape.{Shape}
use Rattle.byte_unit_base.specs.Grammar.Version.{Version, current}
use Rattle.byte_unit_base.specs.Grammar.SizeText.{IsSizeText, trim_of}
use Rattle.byte_unit_base.specs.Errors.Fault.{Fault, exceeded, IsSizeFault}
use Rattle.byte_unit_base.specs.declared.kind.Kind.{Kind}
use Rattle.byte_unit_base.specs.Sizes.Kinds.{flags_for}
use Rattle.byte_unit_base.specs.Reading.ParseSpec.{ParseSpec, parse_spec, unit_meant}
use Rattle.byte_unit_base.specs.Reading.Words.{in_words}
use Rattle.byte_unit_base.specs.Sizes.Least.{IsLeastOf}

-- without the white space at its ends, the input is in the grammar: this number (scaled by 10^28) of this unit
abbrev pub IsWrittenAs : ParseSpec → Version → List ℕ → ℕ → Shape → Type 0
IsWrittenAs spec version text number unit =
    IsSizeText version (flags_for spec.kind spec.ignore_case) (trim_of text) number unit

-- without the white space at its ends, the input is not in the grammar, but it is this number of this unit in words,
-- and they are read
abbrev pub IsInWords : ParseSpec → Version → List ℕ → ℕ → Shape → Type 0
IsInWords spec version text number unit =
    ((fault : Fault) × IsSizeFault version (flags_for spec.kind spec.ignore_case) (trim_of text) fault)
    × (in_words spec (trim_of text) ≡ Some (number, unit))

-- the input is this number of this unit, by the grammar or in words
abbrev pub IsMeasureAs : ParseSpec → Version → List ℕ → ℕ → Shape → Type 0
IsMeasureAs spec version text number unit =
    IsWrittenAs spec version text number unit ⊎ IsInWords spec version text number unit

-- the input is `number` (scaled by 10^28) of some unit, and `n` is that number of the unit that is meant, rounded up to
-- a whole number of bytes or bits
pub record IsReadAs
    (spec : ParseSpec) (version : Version) (text : List ℕ) (number n : ℕ)
    : Type 0 where
  pub unit : Shape
  pub is_size : IsMeasureAs spec version text number unit
  pub is_least : IsLeastOf spec.kind number (unit_meant spec unit) n

-- the input is accepted as a size of `n` bytes or bits, which is below the limit of the version; `number`
-- is the number in it, scaled by 10^28
pub record IsAcceptedAs
    (spec : ParseSpec) (version : Version) (text : List ℕ) (n : ℕ)
    : Type 0 where
  pub number : ℕ
  pub is_read : IsReadAs spec version text number n
  pub below : n < version.size_limit

-- the input is accepted as a size in a version, by the unit that is written
abbrev pub IsAcceptedIn : Version → Kind → Bool → List ℕ → ℕ → Type 0
IsAcceptedIn version kind ignore_case = IsAcceptedAs (parse_spec kind ignore_case false) version

-- The string is accepted as the size n in the current version.
abbrev pub IsAccepted : Kind → Bool → List ℕ → ℕ → Type 0
IsAccepted = IsAcceptedIn current

-- the input is in the grammar, but its size reaches the limit of the version; `number` is its number as written, scaled
-- by 10^28
pub record ExceedsAs
    (spec : ParseSpec) (version : Version) (text : List ℕ) (number : ℕ)
    : Type 0 where
  pub size : ℕ
  pub is_read : IsReadAs spec version text number size
  pub above : version.size_limit ≤ size

-- The string is in the grammar of the current version, but its size, with this number as it is written, is 10^30 or
-- more.
abbrev pub Exceeds : Kind → Bool → List ℕ → ℕ → Type 0
Exceeds kind ignore_case = ExceedsAs (parse_spec kind ignore_case false) current

-- without the white space at its ends, the input is not in the grammar, and this is its error: that of the first
-- character which no valid input has there
abbrev pub HasFaultIn : Version → Kind → Bool → List ℕ → Fault → Type 0
HasFaultIn version kind ignore_case text fault = IsSizeFault version (flags_for kind ignore_case) (trim_of text) fault

-- The string is not in the grammar of the current version, and this is the error at its first wrong character.
abbrev pub HasFault : Kind → Bool → List ℕ → Fault → Type 0
HasFault = HasFaultIn current

-- the input is rejected with this error: its size is too large, or it is not in the grammar, and no size in words that
-- is read
abbrev pub IsRejectedAs : ParseSpec → Version → List ℕ → Fault → Type 0
IsRejectedAs spec version text fault =
    ((number : ℕ) × (fault ≡ exceeded number) × ExceedsAs spec version text number)
    ⊎ (HasFaultIn version spec.kind spec.ignore_case text fault × (in_words spec (trim_of text) ≡ None))

-- the input is rejected in a version, by the unit that is written
abbrev pub IsRejectedIn : Version → Kind → Bool → List ℕ → Fault → Type 0
IsRejectedIn version kind ignore_case = IsRejectedAs (parse_spec kind ignore_case false) version

-- The string is rejected with this error in the current version.
abbrev pub IsRejected : Kind → Bool → List ℕ → Fault → Type 0
IsRejected = IsRejectedIn current
