-- The law is the statement of a lemma.
use Rattle.byte_unit_lines.proofs.OneAnswer.{input_has_one_report}
use Rattle.byte_unit_lines.proofs.laws.each_input_has_one_report.Goals as goal

-- each input has exactly one report of each kind
pub returns : goal.returns
returns c = λ kind.
    input_has_one_report c.texts_are_accepted_or_refused.ensures c.size_has_one_form.ensures kind c.each_line_has_an_answer.ensures
