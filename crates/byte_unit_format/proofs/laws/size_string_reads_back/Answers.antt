-- The law of all layouts, for the spec `ALTERNATE`.
use Rattle.std.proofs.Common.{false}
use Rattle.byte_unit_format.specs.declared.spec.TheConstants.FormatSpec.{ALTERNATE}
use Rattle.byte_unit_format.proofs.ReadBack.{size_form_reads_back}
use Rattle.byte_unit_format.proofs.laws.size_string_reads_back.Goals as goal

pub returns : goal.returns
returns c = λ kind size. size_form_reads_back kind size ALTERNATE false
