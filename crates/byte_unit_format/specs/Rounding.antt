-- Private: how the number of a size in a unit is rounded.
use Rattle.std.specs.Prelude.{⊤, ◌≡◌, ◌^◌, ◌<◌}
use Rattle.byte_unit_base.specs.Grammar.Units.{shape_of}
use Rattle.byte_unit_base.specs.declared.unit.Unit.{Unit as UnitName}
use Rattle.byte_unit_format.specs.Adjusted.{Rule, full, round_to, short_to, rule_of}
use Rattle.byte_unit_format.specs.declared.adjusted.Rounding.{Rounding}
use Rattle.byte_unit_format.specs.declared.adjusted.Rounding.TheVariants.{Exact, To, AtMost}
use Rattle.byte_unit_format.specs.declared.spec.FormatSpec.{FormatSpec}

-- The rule by which the number is formatted.
abbrev pub rule_from : Rounding → Rule
rule_from Exact = full
rule_from (To places) = round_to places
rule_from (AtMost places) = short_to places

-- The number of digits after the point fits 16 bits.
abbrev pub FitsRounding : Rounding → Type 0
FitsRounding Exact = ⊤
FitsRounding (To places) = places < 2 ^ 16
FitsRounding (AtMost places) = places < 2 ^ 16

-- The spec rounds a number in the unit so.
pub record IsRoundingOf (unit : UnitName) (spec : FormatSpec) (rounding : Rounding) : Type 0 where
  pub rule : rule_of spec.precision spec.alternate (shape_of unit) ≡ rule_from rounding
  pub fits : FitsRounding rounding
