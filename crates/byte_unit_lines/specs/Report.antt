-- The answers to several lines, and the report on a whole input.
use Rattle.std.specs.Prelude.{◌≡◌, ℕ, List, [], ◌∷◌, ◌++◌}
use Rattle.byte_unit_lines.specs.Answer.{Kind, IsAnswer}
use Rattle.byte_unit_lines.specs.Lines.{lines_of}

-- the answers to these lines, one after another in the order of the lines
abbrev pub AreAnswers : Kind → List (List ℕ) → List ℕ → Type 0
AreAnswers kind [] out = out ≡ []
AreAnswers kind (line ∷ lines) out =
    (answer others : List ℕ) × IsAnswer kind line answer × AreAnswers kind lines others × (out ≡ answer ++ others)

-- the report on an input: the answers to all its lines
abbrev pub IsReport : Kind → List ℕ → List ℕ → Type 0
IsReport kind bytes out = AreAnswers kind (lines_of bytes) out
