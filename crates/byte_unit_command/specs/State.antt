-- The state of a run.
use Rattle.std.specs.Prelude.{ℕ, ◌+◌, ◌-◌, ◌^◌, min, List, []}
use Rattle.byte_unit_command.specs.Sums.{tally_of}
use Rattle.byte_unit_command.specs.declared.options.Options.{Options}
use Rattle.byte_unit_command.specs.declared.tally.Tally.{Tally}

-- the context of a record: the options of its run, what a record is called, and its number
pub record Context : Type 0 where
  pub options : Options
  pub word : List ℕ
  pub number : ℕ

-- the context of the next record; a number of 2^64 or more is told as 2^64 - 1
abbrev pub next_context : Context → Context
next_context context = record context { number = min (context.number + 1) (2 ^ 64 - 1) }

-- between two records of a run: the context of the last one, the number of header records to come, and what was counted
pub record RunState : Type 0 where
  pub context : Context
  pub header : ℕ
  pub tally : Tally

-- the state of a run that has not begun
abbrev pub start_of : Options → List ℕ → RunState
start_of options word = record {
  context = record { options = options; word = word; number = 0 };
  header = options.header;
  tally = tally_of options [];
}
