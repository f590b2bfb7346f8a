-- The errors of a quota.
use Rattle.std.specs.Prelude.{ℕ, ◌<◌, false, List}
use Rattle.byte_unit.specs.Sizes.Accepted.{IsAccepted, IsRejected}
use Rattle.byte_unit.specs.Errors.Meaning.{size_fault}
use Rattle.byte_unit.specs.declared.Kind.TheVariants.{Byte as InBytes}
use Rattle.byte_unit_uses.specs.declared.quota.QuotaError.{QuotaError}
use Rattle.byte_unit_uses.specs.declared.quota.QuotaError.TheVariants.{Text, Exceeded}

-- the string is rejected with this error, or represents less than is used
abbrev pub IsReason : List ℕ → ℕ → QuotaError → Type 0
IsReason text used (Text error) = IsRejected InBytes false text (size_fault error)
IsReason text used Exceeded = (quota : ℕ) × IsAccepted InBytes false text quota × (quota < used)
