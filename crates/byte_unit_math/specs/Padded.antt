-- Decimals with a fixed number of digits after the point.
use Rattle.std.specs.Prelude.{ℕ, ◌-◌, ◌++◌, length, take, replicate}
use Rattle.byte_unit_math.specs.Finite.{Finite}

-- The decimal with exactly `places` digits after the point: missing ones are zeros, further ones are cut off.
abbrev pub pad_of : ℕ → Finite → Finite
pad_of places e = record { whole = e.whole; digits = take places e.digits ++ replicate (places - length e.digits) 0 }
