-- Nothing follows the last line.
use Rattle.std.proofs.Common.{[], refl, sym, append-nil}
use Rattle.byte_unit_lines.proofs.report.AnswersRecordSteps.close.Goals as goal

-- nothing is appended
pub returns : goal.returns
returns g c = ([], refl, sym (append-nil c.args.self.now.waiting.items), refl)
