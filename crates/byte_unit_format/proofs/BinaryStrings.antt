-- The string that a size is stored as for the binary reading is read as the size.
--
-- A `string` is the exact unit of the size, that it is this, and that the text is by it.
use Rattle.std.proofs.Common.{◌≡◌, ◌<◌, ℕ, nat_lt, List, Bool, true, false, if◌then◌else◌, refl, sym, ◌∙◌, ap}
use Rattle.std.proofs.Common.{arith}
use Rattle.byte_unit_base.specs.Grammar.Shape.{Shape, shape}
use Rattle.byte_unit_base.specs.Grammar.Version.{current}
use Rattle.byte_unit_base.specs.Reading.ParseSpec.{parse_spec, binary_of}
use Rattle.byte_unit_choice.specs.Choice.{IsRecoveredIn}
use Rattle.byte_unit_base.specs.declared.kind.Kind.{Kind}
use Rattle.byte_unit_format.specs.Forms.{IsText, default_precision}
use Rattle.byte_unit_format.specs.NamedSpecs.{plain_spec, alternate_spec}
use Rattle.byte_unit_format.specs.BinaryString.{has_binary_prefix, BothReadingsAccept, BinaryStringReadsBack}
use Rattle.byte_unit_format.proofs.WrittenForms.{recovered_unit_unique}
use Rattle.byte_unit_format.proofs.ReadBack.{accepted_as, digits_accepted, form_is_size, size_form_reads_back}
use Rattle.byte_unit_format.proofs.ReadBack.{plain_form_reads_back}

-- A unit with a binary prefix is unchanged if its prefix is made binary. `some` says whether it has a prefix at all: it
-- is a parameter, since both definitions branch on it.
by_power : (some : Bool) (unit : Shape) → (if some then unit.binary else false) ≡ true
    → (if some then shape unit.power true unit.bit else unit) ≡ unit
by_power true unit prefix = ap (λ binary. shape unit.power binary unit.bit) (sym prefix)
by_power false unit prefix = refl

-- Both readings accept the string of a size, which has a unit if its exact unit has a binary prefix, and is else digits
-- only.
by_prefix :
    (kind : Kind) (ignore_case : Bool) (size : ℕ) (text : List ℕ) → size < current.size_limit → (unit : Shape)
    → IsRecoveredIn current kind false size default_precision unit → (is_binary : Bool)
    → has_binary_prefix unit ≡ is_binary → IsText kind size (if is_binary then alternate_spec else plain_spec) text
    → BothReadingsAccept kind ignore_case size text
by_prefix kind ignore_case size text below unit recovered true prefix form =
    let same =
    recovered_unit_unique current kind size default_precision form.unit unit form.is_recovered recovered in
    record {
      binary = accepted_as (parse_spec kind ignore_case true) text form.number size form.unit
          (by_power (nat_lt 0 form.unit.power) form.unit (ap has_binary_prefix same ∙ prefix))
          (form_is_size kind size alternate_spec ignore_case text below form) form.number_is below;
      usual = size_form_reads_back kind size alternate_spec ignore_case text below form;
    }
by_prefix kind ignore_case size text below unit recovered false prefix digits = rw digits (record {
  binary = digits_accepted (parse_spec kind ignore_case true) size plain_spec refl below (grind arith);
  usual = plain_form_reads_back kind size plain_spec ignore_case below (grind arith);
})

-- The string that a size is stored as for the binary reading is read as the size by both readings.
pub binary_string_reads_back : BinaryStringReadsBack
binary_string_reads_back kind ignore_case size text below string =
    by_prefix kind ignore_case size text below string.0 string.1 (has_binary_prefix string.0) refl string.2
