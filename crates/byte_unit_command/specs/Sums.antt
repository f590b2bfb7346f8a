-- What a run counts.
use Rattle.std.specs.Prelude.{◌≡◌, ℕ, min, Bool, false, ◌||◌, nat_lt, List, ◌++◌, Option, None, Some, is_none, unwrap_or}
use Rattle.std.specs.List.{list_any, sum_by}
use Rattle.byte_unit.specs.Bounds.{size_limit}
use Rattle.byte_unit_command.specs.Field.{Found}
use Rattle.byte_unit_command.specs.declared.options.Options.{Options}
use Rattle.byte_unit_command.specs.declared.tally.Tally.{Tally}

-- whether a field was rejected
abbrev pub has_rejected : List Found → Bool
has_rejected found = list_any is_none found

-- whether the size is above the maximum; a size equal to it is not
abbrev pub is_above : Option ℕ → ℕ → Bool
is_above None size = false
is_above (Some most) size = nat_lt most size

-- whether the size is below the minimum; a size equal to it is not
abbrev pub is_below : Option ℕ → ℕ → Bool
is_below None size = false
is_below (Some least) size = nat_lt size least

-- whether the size is beyond a limit of the options
abbrev pub is_beyond : Options → ℕ → Bool
is_beyond options size = is_above options.max size || is_below options.min size

-- the same of what is found in a field
abbrev pub is_found_beyond : Options → Found → Bool
is_found_beyond options None = false
is_found_beyond options (Some size) = is_beyond options size

-- the tally of what is found: the exact sum of the sizes, or 10^30 if it reaches that; whether a size is beyond a
-- limit; whether a field was rejected
abbrev pub tally_of : Options → List Found → Tally
tally_of options found = record {
  total = min (sum_by (λ one. unwrap_or one 0) found) size_limit;
  beyond = list_any (is_found_beyond options) found;
  rejected = has_rejected found;
}

-- the new tally is that of all that was found before and of this: `old` is the tally of what was found before
abbrev pub Counts : Options → Tally → List Found → Tally → Type 0
Counts options old found new =
    (before : List Found) → old ≡ tally_of options before → new ≡ tally_of options (before ++ found)
