-- Rounding a quotient to a number of digits after the point.
use Rattle.std.specs.Prelude.{◌≡◌, ◌≢◌, ℕ, ◌*◌, ◌%◌, ◌^◌, ◌≤◌}
use Rattle.std.specs.Int.{abs_diff}
use Rattle.byte_unit_math.specs.declared.expansion.Ties.{Ties}
use Rattle.byte_unit_math.specs.declared.expansion.Ties.TheVariants.{Even, Up}

-- If `q` and `other` are equally near, `q` is preferred: because it is even, or because it is the larger one.
abbrev pub BreaksTie : Ties → ℕ → ℕ → Type 0
BreaksTie Even q other = q % 2 ≡ 0
BreaksTie Up q other = other ≤ q

-- Of all decimals with `p` digits after the point, q / 10^p is nearest to num / den. A tie is broken as `ties` says.
pub record IsNearest (num den p : ℕ) (ties : Ties) (q : ℕ) : Type 0 where
  pub nearest : (other : ℕ) → abs_diff (q * den) (num * 10 ^ p) ≤ abs_diff (other * den) (num * 10 ^ p)
  pub tie :
      (other : ℕ) → other ≢ q → abs_diff (other * den) (num * 10 ^ p) ≡ abs_diff (q * den) (num * 10 ^ p)
      → BreaksTie ties q other
