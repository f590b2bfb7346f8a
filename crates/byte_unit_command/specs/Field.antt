-- What is written for one field, and what is found in it.
use Rattle.std.specs.Prelude.{◌≡◌, ℕ, ◌-◌, ◌⊎◌, Bool, nat_eq, if◌then◌else◌, List, [], ◌∷◌, ◌++◌, length}
use Rattle.std.specs.Prelude.{take, Option}
use Rattle.std.specs.List.{ends_with}
use Rattle.std.specs.Str.{IsUtf8, is_utf8, trim_end}
use Rattle.byte_unit.specs.Sizes.Accepted.{IsAcceptedAs, IsRejectedAs}
use Rattle.byte_unit.specs.Errors.Position.{IsLocationOf, IsSizeLocation}
use Rattle.byte_unit.specs.Errors.Meaning.{size_fault}
use Rattle.byte_unit.specs.Errors.Fault.{Fault}
use Rattle.byte_unit.specs.Grammar.Version.{current}
use Rattle.byte_unit.specs.declared.ParseSpec.{ParseSpec}
use Rattle.byte_unit_base.specs.declared.errors.LocatedError.{LocatedError}
use Rattle.byte_unit_command.specs.Fields.{separating_blank, columns_in}
use Rattle.byte_unit_command.specs.Formatted.{IsFormatted}
use Rattle.byte_unit_command.specs.declared.options.Options.{Options}

-- whether the text ends with the suffix
abbrev pub has_suffix : List ℕ → List ℕ → Bool
has_suffix suffix text = ends_with nat_eq text suffix

-- the text without as many bytes at its end as the suffix has
abbrev pub before_suffix : List ℕ → List ℕ → List ℕ
before_suffix suffix text = take (length text - length suffix) text

-- the text without the white space at its end, if it is UTF-8
abbrev pub before_space : List ℕ → List ℕ
before_space text = if is_utf8 text then trim_end text else text

-- the text before the suffix, after which there may be white space, or the text itself if it does not end with that
abbrev pub without_suffix : List ℕ → List ℕ → List ℕ
without_suffix [] text = text
without_suffix (c ∷ cs) text =
    let suffix = c ∷ cs in
    if has_suffix suffix text then before_suffix suffix text
    else (if has_suffix suffix (before_space text) then before_suffix suffix (before_space text) else text)

-- the text is a size
abbrev pub IsSizeBy : ParseSpec → List ℕ → ℕ → Type 0
IsSizeBy spec text size = IsUtf8 text × IsAcceptedAs spec current text size

-- the field is a size, without the suffix of the options if it ends with that
abbrev pub IsSize : Options → List ℕ → ℕ → Type 0
IsSize options field = IsSizeBy options.spec (without_suffix options.suffix.now field)

-- the text is not a size: it is not UTF-8, or it is rejected
abbrev pub IsNoSizeBy : ParseSpec → List ℕ → Type 0
IsNoSizeBy spec text =
    ¬ IsUtf8 text
    ⊎ IsUtf8 text
    × ((fault : Fault) × IsRejectedAs spec current text fault)

-- the field, without the suffix of the options, is not a size
abbrev pub IsNoSize : Options → List ℕ → Type 0
IsNoSize options field = IsNoSizeBy options.spec (without_suffix options.suffix.now field)

-- the text is rejected with this error, at its location
abbrev pub IsSizeError : ParseSpec → List ℕ → LocatedError → Type 0
IsSizeError spec text e =
    IsRejectedAs spec current text (size_fault e.error)
    × IsLocationOf (IsSizeLocation text) (size_fault e.error) e.location

-- what is found in a field that is to be converted: its size, or `None` if it is not a size
abbrev pub Found : Type 0
Found = Option ℕ

-- the text that replaces the field with this number if the field is this size: the size formatted in the columns of
-- `columns_in`, after the blank that separates the field from the one before it
pub record IsPlaced (options : Options) (number : ℕ) (field : List ℕ) (size : ℕ) (text : List ℕ) : Type 0 where
  pub formatted : List ℕ
  pub is_formatted : IsFormatted (record options { width = columns_in options number field }) size formatted
  pub text_is : text ≡ separating_blank options number field ++ formatted
