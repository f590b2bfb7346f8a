-- Private: the prefixes in which a size has few digits after the point.
use Rattle.std.specs.Prelude.{ℕ, ◌*◌, ◌^◌, ◌≤◌}
use Rattle.byte_unit_math.specs.Exact.{IsExactAt}

-- The prefix is at most the size, and the size has at most `places` digits after the point in it.
pub record FitsPrefix (places size prefix : ℕ) : Type 0 where
  pub exact : IsExactAt size prefix places
  pub not_above : prefix ≤ size

-- The size fits the prefix base^(step * power) within three digits after the point, and none of a greater power.
pub record IsGreatestPower (base step size power : ℕ) : Type 0 where
  pub fits : FitsPrefix 3 size (base ^ (step * power))
  pub greatest : (other : ℕ) → FitsPrefix 3 size (base ^ (step * other)) → other ≤ power
