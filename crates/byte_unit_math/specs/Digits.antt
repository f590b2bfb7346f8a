-- The decimal digits of a number, and the decimal expansion of a fraction.
use Rattle.std.specs.Prelude.{ℕ, ◌*◌, ◌/◌, ◌%◌, ◌^◌, List, [], ◌∷◌, zero, suc}
use Rattle.byte_unit_math.specs.Bounds.{expansion_places}
use Rattle.byte_unit_math.specs.Finite.{Finite}

-- The last `p` decimal digits of a number, with leading zeros if it has fewer.
abbrev pub last_digits : ℕ → ℕ → List ℕ
last_digits zero q = []
last_digits (suc p) q = (q / 10 ^ p % 10) ∷ last_digits p q

-- The decimal q / 10^p with all `p` digits after the point.
abbrev pub at_places : ℕ → ℕ → Finite
at_places p q = record { whole = q / 10 ^ p; digits = last_digits p q }

-- Prepends a digit to digits after the point, except a zero to none: it would be a trailing zero.
abbrev pub prepend_digit : ℕ → List ℕ → List ℕ
prepend_digit zero [] = []
prepend_digit (suc d) [] = suc d ∷ []
prepend_digit d (e ∷ es) = d ∷ e ∷ es

-- The digits without trailing zeros.
abbrev pub trim_zeros : List ℕ → List ℕ
trim_zeros [] = []
trim_zeros (d ∷ ds) = prepend_digit d (trim_zeros ds)

-- The same decimal without trailing zeros after the point.
abbrev pub trim_expansion : Finite → Finite
trim_expansion e = record { whole = e.whole; digits = trim_zeros e.digits }

-- The quotient num / den, cut off after 93 digits after the point and without trailing zeros.
abbrev pub expansion_of : ℕ → ℕ → Finite
expansion_of num den = trim_expansion (at_places expansion_places (num * 10 ^ expansion_places / den))
