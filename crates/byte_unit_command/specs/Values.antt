-- The values of options, by what clap has parsed.
use Rattle.std.specs.Prelude.{◌≡◌, ℕ, ◌<◌, ◌^◌, Bool, true, false, List, Option, None, Some, is_some, option_map, codes}
use Rattle.std.specs.Prelude.{if◌then◌else◌}
use Rattle.std.specs.Borrow.{Bor}
use Rattle.std.specs.Str.Parse.{IsNumeral, digits_value, without_leading_plus}
use Rattle.byte_unit.specs.declared.Kind.{Kind}
use Rattle.byte_unit.specs.declared.Kind.TheVariants.{Byte, Bit}
use Rattle.clap.specs.Words.{found_of, first_value, matched_of, one_text}
use Rattle.clap.specs.declared.parser.matches.ArgMatches.{ArgMatches}
use Rattle.byte_unit_command.specs.declared.values.Values.{Values}

-- the kind of the sizes: bits with `--bits`, and bytes without it
abbrev pub kind_by_flag : Bool → Kind
kind_by_flag bits = if bits then Bit else Byte

-- the text of a value
abbrev pub given_text : Option (Bor (List ℕ)) → Option (List ℕ)
given_text value = option_map (λ text. text.now) value

-- whether the option with this name, which takes no value, is given: clap has `true` as its value if it is
pub record IsFlag (matches : ArgMatches) (name : List ℕ) (given : Bool) : Type 0 where
  pub absent : one_text (found_of matches) name ≡ None → given ≡ false
  pub yes : one_text (found_of matches) name ≡ Some (codes "true") → given ≡ true
  pub no : one_text (found_of matches) name ≡ Some (codes "false") → given ≡ false

-- the text is decimal digits, with at most one plus before them, and they are this number, which is below 2^bits
pub record IsUnsigned (bits : ℕ) (text : List ℕ) (number : ℕ) : Type 0 where
  pub is_numeral : IsNumeral 10 (without_leading_plus text)
  pub value : digits_value 10 (without_leading_plus text) ≡ number
  pub bound : digits_value 10 (without_leading_plus text) < 2 ^ bits

-- the number that is the value of an option; clap rejects a value that is none
abbrev pub IsNumberValue : ℕ → Option (List ℕ) → Option ℕ → Type 0
IsNumberValue bits None number = number ≡ None
IsNumberValue bits (Some text) None = (number : ℕ) → ¬ IsUnsigned bits text number
IsNumberValue bits (Some text) (Some number) = IsUnsigned bits text number

-- these are the values of the options that clap has parsed
pub record HasValues (matches : ArgMatches) (values : Values) : Type 0 where
  pub kind : (bits : Bool) × IsFlag matches (codes "bits") bits × (values.kind ≡ kind_by_flag bits)
  pub ignore_case : IsFlag matches (codes "ignore-case") values.ignore_case
  pub words : IsFlag matches (codes "words") values.words
  pub human_readable : IsFlag matches (codes "human-readable") values.human_readable
  pub from : given_text values.from ≡ first_value (found_of matches) (codes "from")
  pub to : given_text values.to ≡ first_value (found_of matches) (codes "to")
  pub no_unit : IsFlag matches (codes "no-unit") values.no_unit
  pub suffix : given_text values.suffix ≡ first_value (found_of matches) (codes "suffix")
  pub precision : IsNumberValue 16 (one_text (found_of matches) (codes "precision")) values.precision
  pub delimiter : given_text values.delimiter ≡ first_value (found_of matches) (codes "delimiter")
  pub blanks : IsFlag matches (codes "blanks") values.blanks
  pub field : given_text values.field ≡ first_value (found_of matches) (codes "field")
  pub header : IsNumberValue 64 (one_text (found_of matches) (codes "header")) values.header
  pub padding : given_text values.padding ≡ first_value (found_of matches) (codes "padding")
  pub invalid : given_text values.invalid ≡ first_value (found_of matches) (codes "invalid")
  pub total : IsFlag matches (codes "total") values.total
  pub max : given_text values.max ≡ first_value (found_of matches) (codes "max")
  pub min : given_text values.min ≡ first_value (found_of matches) (codes "min")
  pub no_hints : IsFlag matches (codes "no-hints") values.no_hints
  pub zero_terminated : IsFlag matches (codes "zero-terminated") values.zero_terminated
  pub has_operands : values.has_operands ≡ is_some (matched_of (found_of matches) (codes "SIZE"))
