-- A size in a unit takes at most 93 digits after the point, and a size in bytes at most 90.
use Rattle.std.proofs.Common.{◌≡◌, ◌*◌, ◌/◌, ◌^◌, ℕ, arith, ap, refl}
use Rattle.byte_unit_math.specs.Exact.{IsExactAt}
use Rattle.byte_unit_base.specs.Grammar.Shape.{bits}
use Rattle.byte_unit_base.specs.Grammar.Units.{shape_of}
use Rattle.byte_unit_base.specs.Sizes.Kinds.{bits_in}
use Rattle.byte_unit_format.specs.FormLaws.{ExpansionsEnd}
use Rattle.byte_unit_base.specs.declared.kind.Kind.TheVariants.{Byte, Bit as OfBits}
use Rattle.byte_unit_base.specs.declared.unit.Unit.{Unit as UnitName}
use Rattle.byte_unit_base.specs.declared.unit.Unit.TheVariants.{Bit}
use Rattle.byte_unit_format.proofs.ShownForms.{exact_in_unit}

-- A size in bytes is exact with 90 digits in each unit that divides 8 * 10^90.
exact_by_factor : (size den factor : ℕ) → 8 * 10 ^ 90 ≡ factor * den → IsExactAt (size * 8) den 90
exact_by_factor size den factor product = (size * factor, omega (arith, ap (λ number. size * number) product))

-- A size in bytes is exact with 90 digits in each unit: the bits of each divide 8 * 10^90, which is evaluated.
bytes_exact_in : (size : ℕ) (unit : UnitName) → IsExactAt (size * 8) (bits (shape_of unit)) 90
bytes_exact_in size Bit = exact_by_factor size (bits (shape_of Bit)) (8 * 10 ^ 90 / bits (shape_of Bit)) refl
bytes_exact_in size unit = exact_by_factor size (bits (shape_of unit)) (8 * 10 ^ 90 / bits (shape_of unit)) refl

-- A size in a unit is exact with 93 digits after the point, and a size in bytes with 90.
pub expansions_end : ExpansionsEnd
expansions_end Byte size unit = bytes_exact_in size unit
expansions_end OfBits size unit = exact_in_unit (size * bits_in OfBits) unit
