-- The law is the statement of a lemma.
use Rattle.std.proofs.Common.{false, refl}
use Rattle.byte_unit_base.specs.Reading.ParseSpec.{parse_spec}
use Rattle.byte_unit_base.proofs.SizeOrFault.{one_of_three}
use Rattle.byte_unit_base.proofs.laws.sizes.each_text_is_one_of_three.Goals as goal

pub returns : goal.returns
returns c = λ kind ignore_case text. one_of_three (parse_spec kind ignore_case false) text refl
