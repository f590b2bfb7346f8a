-- The answer is appended to what waits; no message is.
use Rattle.std.proofs.Common.{[], refl}
use Rattle.byte_unit_lines.proofs.report.AnswersRecordSteps.step.Goals as goal

-- what was appended: the answer, that it is one, and that it follows what waited
pub returns-in-Ok-clause-step : goal.returns-in-Ok-clause-step
returns-in-Ok-clause-step g c =
    let answer = c.in-Ok.ensures.ok in
    record { out = answer.0; messages = []; step = (refl, answer.1, refl); out_is = answer.2; messages_are = refl }
