-- Lemmas: tallies, and the mode `abort`, over lists of what is found.
use Rattle.std.proofs.Common.{◌||◌, List, [], ◌++◌, is_none, sym, ap, ◌∙◌, append_assoc, append-nil}
use Rattle.std.proofs.lemmas.List.Folds.{list_any-append}
use Rattle.std.specs.List.{list_any}
use Rattle.byte_unit_command.specs.Field.{Found}
use Rattle.byte_unit_command.specs.Output.{Passes}
use Rattle.byte_unit_command.specs.Sums.{Counts, tally_of}
use Rattle.byte_unit_command.specs.declared.options.Options.{Options}
use Rattle.byte_unit_command.specs.declared.tally.Tally.{Tally}

-- nothing is counted
pub Counts-none : (options : Options) (tally : Tally) → Counts options tally [] tally
Counts-none options tally = λ before is. is ∙ ap (tally_of options) (sym (append-nil before))

-- what is counted by two calls
pub Counts-append : (options : Options) (old between new : Tally) (front back : List Found)
    → Counts options old front between → Counts options between back new → Counts options old (front ++ back) new
Counts-append options old between new front back first second = λ before is.
    second (before ++ front) (first before is) ∙ ap (tally_of options) (append_assoc before front back)

-- the mode `abort` lets pass two lists one after the other
pub Passes-append : (options : Options) (front back : List Found) → Passes options front → Passes options back
    → Passes options (front ++ back)
Passes-append options front back first second = λ mode.
    list_any-append {X = Found} is_none front back ∙ ap (λ yes. yes || list_any is_none back) (first mode) ∙ second mode
