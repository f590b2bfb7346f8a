-- The step of a run: the answer to a line. No public contract cites this file.
use Rattle.std.specs.Prelude.{◌≡◌, ℕ, List, [], ◌++◌}
use Rattle.std.specs.declared.convert.Infallible.{Infallible}
use Rattle.byte_unit_lines.specs.Answer.{Kind, IsAnswer}
use Rattle.byte_unit_stream.specs.RecordSteps.{Relation}

-- the answer to the line was appended
abbrev pub AddsAnswer : Kind → List ℕ → List ℕ → List ℕ → Type 0
AddsAnswer kind line old new = (answer : List ℕ) × IsAnswer kind line answer × (new ≡ old ++ answer)

-- a line has its answer as output, and no messages; no line ends a run, and nothing follows the last one. The state is
-- the kind of the sizes, which stays
abbrev pub answering : Relation Kind Infallible
answering = record {
  step = λ old line new out messages. (new ≡ old) × IsAnswer old line out × (messages ≡ []);
  ends = λ kind line reason messages. ⊥;
  closes = λ kind out. out ≡ [];
  fails = λ kind reason. ⊥;
}
