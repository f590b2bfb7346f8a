-- Private: a product that is rounded up seven digits at a time. No public contract cites this file.
use Rattle.std.specs.Prelude.{ℕ, ◌+◌, ◌*◌, ◌/◌, ◌^◌, ◌<◌, ◌≤◌}
use Rattle.byte_unit_math.specs.Bounds.{places_of_decimal}

-- 7, a quarter of the digits of a fraction.
abbrev pub group_places : ℕ
group_places = places_of_decimal / 4

-- 10^7, the limit of a group of digits.
abbrev pub group_limit : ℕ
group_limit = 10 ^ group_places

-- 10^14, the limit of half the digits of a fraction as a number.
abbrev pub half_limit : ℕ
half_limit = group_limit * group_limit

-- n is product / scale, rounded up to a whole number.
pub record IsRoundedUp (product scale n : ℕ) : Type 0 where
  pub enough : product ≤ n * scale
  pub close : n * scale < product + scale
