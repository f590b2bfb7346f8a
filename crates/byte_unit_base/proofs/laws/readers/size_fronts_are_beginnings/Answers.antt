-- The law holds of each state machine that accepts exactly the inputs of a grammar.
use Rattle.byte_unit_base.proofs.Scans.{fronts_are_beginnings}
use Rattle.byte_unit_base.proofs.SizeReads.{size_scan_is}
use Rattle.byte_unit_base.proofs.laws.readers.size_fronts_are_beginnings.Goals as goal

pub returns : goal.returns
returns c = λ flags text. fronts_are_beginnings (size_scan_is flags) text
