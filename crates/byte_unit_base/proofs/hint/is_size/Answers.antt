-- The parser accepts what the state machine accepts.
use Rattle.std.proofs.Common.{sym, ap}
use Rattle.std.specs.Result.{is_ok}
use Rattle.byte_unit_base.specs.Errors.Hints.{any_flags}
use Rattle.byte_unit_base.proofs.Scans.{reads_meaning}
use Rattle.byte_unit_base.proofs.SizeReads.{size_scan_is}
use Rattle.byte_unit_base.proofs.WordTexts.{stopped}
use Rattle.byte_unit_base.proofs.hint.is_size.Goals as goal

pub returns-in-Ok : goal.returns-in-Ok
returns-in-Ok c = sym (ap is_ok (reads_meaning (size_scan_is any_flags) c.args.text.now _ c.in-Ok.ensures))

pub returns-in-Err : goal.returns-in-Err
returns-in-Err c = sym (ap is_ok (stopped any_flags c.args.text.now _ _ c.requires c.in-Err.ensures))
