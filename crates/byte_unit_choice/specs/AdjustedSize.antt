-- Adjusted sizes, which have the unit that they are shown in, and how they are parsed.
use Rattle.std.specs.Prelude.{ℕ, false, List, Result, Ok, Err, IfOk}
use Rattle.byte_unit_choice.specs.Choice.{IsAppropriate}
use Rattle.byte_unit_base.specs.Reading.Results.{IsSizeReading}
use Rattle.byte_unit_base.specs.declared.errors.ParseError.{ParseError}
use Rattle.byte_unit_base.specs.declared.kind.Kind.{Kind}
use Rattle.byte_unit_choice.specs.declared.unit_type.UnitType.TheVariants.{Both}
use Rattle.byte_unit_base.specs.declared.unit.Unit.{Unit as UnitName}

-- a number of bytes or bits, and the unit that it is shown in
pub record AdjustedSize : Type 0 where
  pub size : ℕ
  pub unit : UnitName

-- the result of parsing an adjusted size, without its unit
abbrev pub size_answer : Result AdjustedSize ParseError → Result ℕ ParseError
size_answer (Ok adjusted) = Ok adjusted.size
size_answer (Err error) = Err error

-- the result of parsing an adjusted size: the size of the ordinary parser, and the largest unit, binary or decimal, not
-- above it
pub record IsAdjustedReading (kind : Kind) (bytes : List ℕ) (result : Result AdjustedSize ParseError) : Type 0 where
  pub size : IsSizeReading kind false bytes (size_answer result)
  pub unit : IfOk result (λ adjusted. IsAppropriate kind Both adjusted.size adjusted.unit)
