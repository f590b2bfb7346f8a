-- What a comparison returns in the C API.
use Rattle.std.specs.Prelude.{ℕ, ℤ, pos, negsuc}
use Rattle.std.specs.Ordering.{match_ordering, nat_cmp}

-- -1, 0 or 1, as the first number is less than the second, equal to it or greater
abbrev pub comparison : ℕ → ℕ → ℤ
comparison a b = match_ordering (nat_cmp a b) (negsuc 0) (pos 0) (pos 1)
