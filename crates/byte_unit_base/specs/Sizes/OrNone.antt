-- Results that are `None` or an error if a number is not a size: a size is not negative, and is below the limit of the
-- current version.
use Rattle.std.specs.Prelude.{◌≡◌, ℕ, ◌<◌, ◌≤◌, ℤ, pos, negsuc, Option, Some, None, Result, OkIff, IsErr, ◌*◌}
use Rattle.byte_unit_math.specs.Bounds.{scale, size_limit}
use Rattle.byte_unit_base.specs.Sizes.Least.{IsLeastOf}
use Rattle.byte_unit_base.specs.Grammar.Units.{shape_of}
use Rattle.byte_unit_base.specs.declared.kind.Kind.{Kind}
use Rattle.byte_unit_base.specs.declared.unit.Unit.{Unit as UnitName}

-- the number that has this property, if it is below the limit of a size; `None` if it reaches the limit
abbrev pub IsSizeOrNone : (ℕ → Type 0) → Option ℕ → Type 0
IsSizeOrNone Has None = (n : ℕ) → Has n → size_limit ≤ n
IsSizeOrNone Has (Some n) = Has n × (n < size_limit)

-- The size of a number of the unit, scaled by 10^28: rounded up to a whole byte or bit, and `None` if it is 10^30 or
-- more.
abbrev pub IsSizeOfDecimal : Kind → ℕ → UnitName → Option ℕ → Type 0
IsSizeOfDecimal kind number unit = IsSizeOrNone (IsLeastOf kind number (shape_of unit))

-- The size of `n` units: rounded up to a whole byte or bit, and `None` if it is 10^30 or more.
abbrev pub IsSizeOfUnit : Kind → ℕ → UnitName → Option ℕ → Type 0
IsSizeOfUnit kind n unit = IsSizeOfDecimal kind (n * scale) unit

-- `None` for a negative number, and for any other the result for it as a natural number
abbrev pub IfNonNegative : (ℕ → Option ℕ → Type 0) → ℤ → Option ℕ → Type 0
IfNonNegative Gives (pos n) result = Gives n result
IfNonNegative Gives (negsuc n) result = result ≡ None

-- the number itself if it is a size; an error if it is negative or reaches the limit of a size
abbrev pub IsSizeOrError : {E : Type 0} → ℤ → Result ℕ E → Type 0
IsSizeOrError (pos n) result = OkIff result (n < size_limit) n
IsSizeOrError (negsuc n) result = IsErr result
