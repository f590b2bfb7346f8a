-- The law is the statement of a lemma.
use Rattle.std.proofs.Common.{false}
use Rattle.byte_unit_base.specs.Reading.ParseSpec.{parse_spec}
use Rattle.byte_unit_base.proofs.SizeOrFault.{accepted_or_refused}
use Rattle.byte_unit_base.proofs.laws.sizes.texts_are_accepted_or_refused.Goals as goal

pub returns : goal.returns
returns c = λ kind ignore_case. accepted_or_refused (parse_spec kind ignore_case false)
