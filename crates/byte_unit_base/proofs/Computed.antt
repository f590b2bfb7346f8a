-- The parsers as functions: what a parser returns is what they give, and the size that they give is the least one.
use Rattle.std.proofs.Common.{◌≡◌, ℕ, List, false, refl, arith}
use Rattle.std.specs.Str.{IsUtf8, is_utf8}
use Rattle.std.proofs.lemmas.Bool.{false_from_ne_true}
use Rattle.std.proofs.lemmas.Str.{IsUtf8-from_is_utf8}
use Rattle.byte_unit_base.specs.Grammar.Shape.{Shape}
use Rattle.byte_unit_base.specs.Grammar.Units.{shape_of, unit_of_shape}
use Rattle.byte_unit_base.specs.Sizes.Least.{IsLeastOf}
use Rattle.byte_unit_base.specs.Reading.Parsed.{rounded_up}
use Rattle.byte_unit_base.specs.declared.unit.Unit.{Unit as UnitName}
use Rattle.byte_unit_base.specs.declared.kind.Kind.{Kind}
use Rattle.byte_unit_base.specs.declared.kind.Kind.TheVariants.{Byte, Bit}
use Rattle.byte_unit_base.specs.declared.unit.Unit.TheVariants as UnitNames

-- the test for UTF-8 computes to `false` for bytes that are not UTF-8
pub test_of_not_utf8 : (bytes : List ℕ) → ¬ IsUtf8 bytes → is_utf8 bytes ≡ false
test_of_not_utf8 bytes is_not = false_from_ne_true (is_utf8 bytes) (λ is. is_not (IsUtf8-from_is_utf8 bytes is))

-- the unit of the crate that has the shape of a unit is that unit
pub unit_of_its_shape : (unit : UnitName) → unit_of_shape (shape_of unit) ≡ unit
unit_of_its_shape UnitNames.B = refl
unit_of_its_shape _ = refl

-- the quotient that is rounded up is the least size
pub rounded_up_is_least : (kind : Kind) (N : ℕ) (unit : Shape) → IsLeastOf kind N unit (rounded_up kind N unit)
rounded_up_is_least Byte N unit = record { has = omega arith; least = λ m r. omega (arith, r) }
rounded_up_is_least Bit N unit = record { has = omega arith; least = λ m r. omega (arith, r) }
