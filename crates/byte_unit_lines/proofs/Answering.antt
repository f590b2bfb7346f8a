-- Lemmas: the answers to lists of lines.
use Rattle.std.proofs.Common.{ℕ, List, [], ◌∷◌, ◌++◌, refl, sym, ap, subst, ◌∙◌, append_assoc}
use Rattle.byte_unit_lines.specs.Answer.{Kind, IsAnswer}
use Rattle.byte_unit_lines.specs.Report.{AreAnswers}

-- the answers to two lists of lines, one after the other, are the answers to the concatenated list
pub AreAnswers-append : (kind : Kind) (before lines : List (List ℕ)) (front back : List ℕ)
    → AreAnswers kind before front → AreAnswers kind lines back → AreAnswers kind (before ++ lines) (front ++ back)
AreAnswers-append kind [] lines front back none answers =
    let Answered : List ℕ → Type 0 = λ out. AreAnswers kind lines (out ++ back) in subst Answered (sym none) answers
AreAnswers-append kind (line ∷ before) lines front back (answer, others, is_answer, are_answers, front_is) answers = (
  answer,
  others ++ back,
  is_answer,
  AreAnswers-append kind before lines others back are_answers answers,
  ap (λ out. out ++ back) front_is ∙ append_assoc answer others back,
)

-- if each line has an answer, each list of lines has answers
pub lines_have_answers : (kind : Kind) → ((line : List ℕ) → (answer : List ℕ) × IsAnswer kind line answer)
    → (lines : List (List ℕ)) → (out : List ℕ) × AreAnswers kind lines out
lines_have_answers kind each [] = ([], refl)
lines_have_answers kind each (line ∷ lines) =
    let answer = each line in
    let others = lines_have_answers kind each lines in
    (answer.0 ++ others.0, (answer.0, others.0, answer.1, others.1, refl))
