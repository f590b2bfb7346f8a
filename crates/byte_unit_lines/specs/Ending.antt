-- A call of the program: what its arguments ask for, its output, its exit status, its line for standard error.
use Rattle.std.specs.Prelude.{◌≡◌, ◌⊎◌, ℕ, List, [], ◌∷◌, Option, None, Some, Ok, Err, codes}
use Rattle.std.specs.declared.convert.Infallible.{Infallible}
use Rattle.byte_unit_lines.specs.Answer.{Kind}
use Rattle.byte_unit.specs.declared.Kind.TheVariants.{Byte, Bit}
use Rattle.byte_unit_lines.specs.RunOutput.{IsWritten}
use Rattle.byte_unit_lines.specs.declared.ending.Ending.{Ending}
use Rattle.byte_unit_lines.specs.declared.ending.Ending.TheVariants.{Done, Usage, Failed}
use Rattle.byte_unit_stream.specs.declared.run.RunError.{RunError}
use Rattle.byte_unit_stream.specs.declared.run.RunError.TheVariants.{Memory, Read, Write, Ended}

-- these arguments, each as its bytes, ask for sizes of this kind: none or `byte` for bytes, `bit` for bits
abbrev pub AskFor : List (List ℕ) → Kind → Type 0
AskFor words Byte = (words ≡ []) ⊎ (words ≡ codes "byte" ∷ [])
AskFor words Bit = words ≡ codes "bit" ∷ []

-- what a call with valid arguments has written that has read these bytes and ends in this way: what a run with that
-- result has written. It never ends in `Usage`
abbrev pub IsWrittenAtEnding : Kind → List ℕ → Ending → List ℕ → Type 0
IsWrittenAtEnding kind read Done written = IsWritten kind read (Ok tt) written
IsWrittenAtEnding kind read (Failed error) written = IsWritten kind read (Err error) written
IsWrittenAtEnding kind read Usage written = ⊥

-- the exit status
abbrev pub status_of_ending : Ending → ℕ
status_of_ending Done = 0
status_of_ending (Failed _) = 1
status_of_ending Usage = 2

-- the line for standard error, without its line end, if a run fails with this error. No line ends a run
abbrev pub failure_line : RunError Infallible → List ℕ
failure_line Memory = codes "out of memory"
failure_line Read = codes "read failed"
failure_line Write = codes "write failed"
failure_line (Ended _) = []

-- the line for standard error, without its line end; `None` if all lines are answered
abbrev pub line_of : Ending → Option (List ℕ)
line_of Done = None
line_of (Failed error) = Some (failure_line error)
line_of Usage = Some (codes "usage: byte_unit_lines [byte|bit]")
