-- The law holds of each state machine that accepts exactly the inputs of a grammar.
use Rattle.byte_unit_base.proofs.Scans.{one_answer}
use Rattle.byte_unit_base.proofs.UnitReads.{unit_scan_is}
use Rattle.byte_unit_base.proofs.laws.readers.unit_texts_have_one_answer.Goals as goal

pub returns : goal.returns
returns c = λ flags text. one_answer (unit_scan_is flags) text
