-- Laws of answers and reports.
use Rattle.std.specs.Prelude.{◌≡◌, ℕ, List}
use Rattle.byte_unit_lines.specs.Answer.{Kind, IsAnswer}
use Rattle.byte_unit_lines.specs.Report.{IsReport}

-- each line has an answer, in both kinds
abbrev pub EachLineHasAnAnswer : Type 0
EachLineHasAnAnswer = (kind : Kind) (line : List ℕ) → (answer : List ℕ) × IsAnswer kind line answer

-- the input has exactly one report of this kind
pub record HasOneReport (kind : Kind) (bytes : List ℕ) : Type 0 where
  pub report : List ℕ
  pub is_report : IsReport kind bytes report
  pub is_unique : (other : List ℕ) → IsReport kind bytes other → other ≡ report

-- each input has exactly one report of each kind
abbrev pub EachInputHasOneReport : Type 0
EachInputHasOneReport = (kind : Kind) (bytes : List ℕ) → HasOneReport kind bytes
