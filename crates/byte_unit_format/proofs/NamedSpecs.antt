-- A spec that is equal to the alternate form by the derived comparison is the alternate form.
use Rattle.std.proofs.Common.{◌≡◌, true, arith}
use Rattle.std.proofs.lemmas.Bool.Decides.{nat_tests}
use Rattle.byte_unit_format.specs.contracts.spec.FormatSpecPartialEq.TheImpl.{eq-value}
use Rattle.byte_unit_format.specs.NamedSpecs.{alternate_spec}
use Rattle.byte_unit_format.specs.declared.spec.FormatSpec.{FormatSpec}

-- A spec that the derived `==` finds equal to the alternate form is the alternate form.
pub is_alternate : (spec : FormatSpec) → eq-value.it spec alternate_spec ≡ true → spec ≡ alternate_spec
is_alternate spec equal = grind (arith, nat_tests)
