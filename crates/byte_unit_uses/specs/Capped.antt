-- Limits with a maximum, and their errors.
use Rattle.std.specs.Prelude.{◌≡◌, ℕ, ◌<◌, false, List, Option, Some, None, Result, Ok, Err}
use Rattle.byte_unit.specs.Sizes.Accepted.{IsAccepted, IsRejected}
use Rattle.byte_unit.specs.Errors.Meaning.{size_fault}
use Rattle.byte_unit.specs.declared.ParseError.{ParseError}
use Rattle.byte_unit.specs.declared.Kind.TheVariants.{Byte as InBytes}
use Rattle.byte_unit_uses.specs.declared.capped.LimitError.{LimitError}
use Rattle.byte_unit_uses.specs.declared.capped.LimitError.TheVariants.{Parse, Above}

-- the string is rejected with this error, or represents a size above the maximum, which the error holds
abbrev pub IsLimitError : List ℕ → ℕ → LimitError → Type 0
IsLimitError text max (Parse error) = IsRejected InBytes false text (size_fault error)
IsLimitError text max (Above held) =
    (held ≡ max) × (size : ℕ) × IsAccepted InBytes false text size × (max < size)

-- the limit, or the maximum if the limit exceeds it
abbrev pub capped_limit : Result ℕ LimitError → Result ℕ ParseError
capped_limit (Ok limit) = Ok limit
capped_limit (Err (Parse error)) = Err error
capped_limit (Err (Above max)) = Ok max

-- the maximum that the limit exceeds
abbrev pub exceeded_max : Result ℕ LimitError → Option ℕ
exceeded_max (Err (Above max)) = Some max
exceeded_max (Err (Parse error)) = None
exceeded_max (Ok limit) = None
