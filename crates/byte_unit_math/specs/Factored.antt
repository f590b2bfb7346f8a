-- Private: numbers that are given by their factors.
use Rattle.std.specs.Prelude.{ℕ, ◌*◌, ◌^◌}
use Rattle.byte_unit_math.specs.declared.factors.Factors.{Factors}

-- The number with these factors: left * 2^twos * 5^fives.
abbrev pub product_of : Factors → ℕ
product_of factors = factors.left * (2 ^ factors.twos * 5 ^ factors.fives)
