-- The sum of both lists is the sum of their sums, and the limit is kept twice as it is once.
use Rattle.std.proofs.Common.{◌≡◌, ℕ, ◌+◌, ◌*◌, min, replicate, Some, unwrap_or, ap, ◌∙◌, arith}
use Rattle.std.proofs.lemmas.List.Folds.{sum_by-replicate}
use Rattle.std.proofs.lemmas.List.Sums.{sum_by-append}
use Rattle.std.specs.List.{sum_by}
use Rattle.byte_unit.specs.Bounds.{size_limit}
use Rattle.byte_unit_command.specs.Field.{Found}
use Rattle.byte_unit_command.proofs.laws.totals_add_up.Goals as goal

-- the limit of a sum, whose first part may have been limited before
limited_again : (limit first second : ℕ) → min (first + second) limit ≡ min (min first limit + second) limit
limited_again limit first second = grind arith

pub returns : goal.returns
returns c = λ options found count size.
    let size_of = λ (one : Found). unwrap_or one 0 in
    let added = sum_by-append size_of found (replicate count (Some size))
    ∙ ap (λ n. sum_by size_of found + n) (sum_by-replicate size_of count (Some size)) in
    ap (λ n. min n size_limit) added ∙ limited_again size_limit (sum_by size_of found) (count * size)
