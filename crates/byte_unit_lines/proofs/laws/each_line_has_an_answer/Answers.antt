-- The law is the statement of a lemma.
use Rattle.byte_unit_lines.proofs.OneAnswer.{line_has_answer}
use Rattle.byte_unit_lines.proofs.laws.each_line_has_an_answer.Goals as goal

-- each line has an answer, for both kinds
pub returns : goal.returns
returns c = line_has_answer c.texts_are_accepted_or_refused.ensures c.size_has_one_form.ensures
