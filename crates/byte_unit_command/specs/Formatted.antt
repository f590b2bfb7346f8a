-- The text of a size, with its suffix and padding.
use Rattle.std.specs.Prelude.{◌≡◌, ℕ, ◌-◌, ◌*◌, Bool, true, false, if◌then◌else◌, List, ◌++◌, length, replicate}
use Rattle.std.specs.Prelude.{take, Option}
use Rattle.byte_unit.specs.Adjusted.{IsAdjustedForm, IsNumeralBy, rule_of}
use Rattle.byte_unit.specs.BinaryString.{binary_spec}
use Rattle.byte_unit.specs.Choice.{IsAppropriate, IsRecovered}
use Rattle.byte_unit.specs.Forms.{IsText, places_of}
use Rattle.byte_unit.specs.Sizes.Kinds.{bits_in}
use Rattle.byte_unit.specs.NamedSpecs.{plain_spec, alternate_spec}
use Rattle.byte_unit.specs.Grammar.Shape.{bits}
use Rattle.byte_unit.specs.Grammar.Units.{shape_of}
use Rattle.byte_unit.specs.declared.FormatSpec.{FormatSpec}
use Rattle.byte_unit.specs.declared.Kind.{Kind}
use Rattle.byte_unit.specs.declared.Unit.{Unit as UnitName}
use Rattle.byte_unit_command.specs.declared.options.Form.{Form}
use Rattle.byte_unit_command.specs.declared.options.Form.TheVariants.{Exact, Plain, InUnit, NumberOf, Largest}
use Rattle.byte_unit_command.specs.declared.options.Options.{Options}

-- a size with a unit, within this precision
abbrev pub exact_spec : Option ℕ → FormatSpec
exact_spec precision = record alternate_spec { precision = precision }

-- a size in a given unit, rounded to this precision
abbrev pub adjusted_spec : Option ℕ → FormatSpec
adjusted_spec precision = record plain_spec { precision = precision }

-- the text of a size in the exact form: in the largest unit, not above the size, that represents it exactly within the
-- precision. Where a decimal prefix means the binary one, it is digits instead, unless that unit has a binary prefix
abbrev pub IsExactText : Bool → Kind → Option ℕ → ℕ → List ℕ → Type 0
IsExactText false kind precision size text = IsText kind size (exact_spec precision) text
IsExactText true kind precision size text =
    (unit : UnitName) × IsRecovered kind false size (places_of precision) unit
    × IsText kind size (binary_spec precision (shape_of unit)) text

-- the text of a size in a form: in the exact form; as digits; in the given unit; as the number of that unit alone; in
-- the largest unit of the type that is not above the size. Only the exact form depends on what a decimal prefix means
abbrev pub IsFormText : Bool → Kind → Form → Option ℕ → ℕ → List ℕ → Type 0
IsFormText binary kind Exact precision size text = IsExactText binary kind precision size text
IsFormText binary kind Plain precision size text = IsText kind size plain_spec text
IsFormText binary kind (InUnit unit) precision size text =
    IsAdjustedForm kind size unit (adjusted_spec precision) text
IsFormText binary kind (NumberOf unit) precision size text =
    IsNumeralBy (rule_of precision false (shape_of unit)) (size * bits_in kind) (bits (shape_of unit)) text
IsFormText binary kind (Largest unit_type) precision size text =
    (unit : UnitName) × IsAppropriate kind unit_type size unit
    × IsAdjustedForm kind size unit (adjusted_spec precision) text

-- a text with the spaces that it lacks of the width: after it if it is aligned to the left, and else before it
abbrev pub padded : ℕ → Bool → List ℕ → List ℕ
padded width align_left text =
    let spaces = replicate (width - length text) 32 in
    if align_left then text ++ spaces else spaces ++ text

-- the text that is written for a size
abbrev pub IsFormatted : Options → ℕ → List ℕ → Type 0
IsFormatted options size text =
    (form : List ℕ) × IsFormText options.spec.binary options.spec.kind options.form options.precision size form
    × (text ≡ padded options.width options.align_left (form ++ options.suffix.now))

-- the first `len` of these bytes are a text for which this holds
pub record BeginsWithForm (IsForm : List ℕ → Type 0) (bytes : List ℕ) (len : ℕ) : Type 0 where
  pub form : List ℕ
  pub is_form : IsForm form
  pub len_is : len ≡ length form
  pub begins : take len bytes ≡ form
