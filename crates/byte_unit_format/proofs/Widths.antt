-- The length of a text that is padded to a width, and of the name of a unit.
use Rattle.std.proofs.Common.{◌≤◌, length, arith, ℕ}
use Rattle.std.proofs.lemmas.Grind.{common_steps}
use Rattle.byte_unit_base.specs.Grammar.Shape.{Shape}
use Rattle.byte_unit_base.specs.Grammar.Version.{unit_name_in, current}
use Rattle.std.proofs.lemmas.List.{length-append, length-replicate}
use Rattle.byte_unit_format.specs.FormLaws.{PlainFormFillsWidth, LayoutFillsWidth}

-- The name of a unit has at most three characters.
pub name_short : (unit : Shape) → length (unit_name_in current unit) ≤ 3
name_short unit = grind (arith, common_steps)

-- A size formatted as digits is as long as the width, or as its sign and digits if these are longer.
pub plain_form_fills_width : PlainFormFillsWidth
plain_form_fills_width size spec = grind (arith, length-append {A = ℕ}, length-replicate {A = ℕ})

-- A number with a unit is as long as the width, or as number, spaces and name if these are longer.
pub layout_fills_width : LayoutFillsWidth
layout_fills_width number name spec = grind (arith, length-append {A = ℕ}, length-replicate {A = ℕ})
