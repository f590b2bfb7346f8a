-- Options of a command line.
use Rattle.std.specs.Prelude.{◌≡◌, ◌⊎◌, ℕ, List, Option, Some, None, codes, false}
use Rattle.std.specs.Borrow.{Bor}
use Rattle.clap.specs.Words.{App, Rule, kind_of, matches_of, new_app, new_rule, one_of, with_rule}
use Rattle.clap.specs.Walk.{texts}
use Rattle.clap.specs.declared.error.Error.{Error}
use Rattle.clap.specs.declared.error.kind.ErrorKind.TheVariants.{OutOfMemory, ValueValidation}
use Rattle.byte_unit.specs.Sizes.Accepted.{IsAccepted, IsRejected}
use Rattle.byte_unit.specs.Errors.Fault.{Fault}
use Rattle.byte_unit.specs.declared.Kind.TheVariants.{Byte as InBytes}

-- The rule of the option: `--max-size` takes a value.
abbrev pub max_size_rule : Rule
max_size_rule = record (new_rule (codes "max-size")) { long = Some (codes "max-size") }

-- The command of the program has this option alone.
abbrev pub copy_app : App
copy_app = with_rule (new_app (codes "copy")) max_size_rule

-- The value that the command line gives the option, or `None`.
abbrev pub option_value : List (Bor (List ℕ)) → Option (List ℕ)
option_value words = one_of (codes "max-size") (matches_of copy_app (texts words))

-- The option has no value and there is no size, or its value represents the size.
abbrev pub IsOption : Option (List ℕ) → Option ℕ → Type 0
IsOption value None = value ≡ None
IsOption value (Some size) = (text : List ℕ) × (value ≡ Some text) × IsAccepted InBytes false text size

-- Memory ran out, or the value of the option is rejected as a size.
abbrev pub IsOptionError : Option (List ℕ) → Error → Type 0
IsOptionError value error =
    (kind_of error ≡ OutOfMemory)
    ⊎ ((kind_of error ≡ ValueValidation)
    × (text : List ℕ) × (value ≡ Some text) × (fault : Fault) × IsRejected InBytes false text fault)
