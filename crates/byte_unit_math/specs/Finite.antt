-- Terminating decimals: a whole part and the digits after the point.
use Rattle.std.specs.Prelude.{◌≡◌, ℕ, ◌+◌, ◌*◌, ◌^◌, ◌<◌, ◌≤◌, List, length, take, refl}
use Rattle.std.specs.List.{fold, All}
use Rattle.std.specs.Coded.{Coded, code_by, coded×, coded_ℕ, coded_list}
use Rattle.byte_unit_math.specs.Exact.{IsExactAt}

-- A terminating decimal: its whole part, and its digits after the point, of which the first is the tenths.
pub record Finite : Type 0 where
  pub whole : ℕ
  pub digits : List ℕ

-- An encoding of a decimal as the pair of its fields.
abbrev pub finite_code : Coded Finite
finite_code =
    code_by (ℕ × List ℕ) (coded× coded_ℕ (coded_list coded_ℕ)) (λ e. (e.whole, e.digits))
    (λ p. record { whole = p.0; digits = p.1 }) (λ _. refl)

-- The number with these decimal digits, the most significant first; 0 if there are none.
abbrev pub value_of_digits : List ℕ → ℕ
value_of_digits digits = fold (λ n d. n * 10 + d) 0 digits

-- The decimal times 10^d, a whole number, where d is the number of its digits after the point.
abbrev pub ulps_of : Finite → ℕ
ulps_of e = e.whole * 10 ^ length e.digits + value_of_digits e.digits

-- `e` is the quotient num / den as a decimal, with the fewest digits after the point that are exact.
pub record IsExpansion (num den : ℕ) (e : Finite) : Type 0 where
  pub small : All (λ d. d < 10) e.digits
  pub exact : num * 10 ^ length e.digits ≡ ulps_of e * den
  pub least : (p : ℕ) → IsExactAt num den p → length e.digits ≤ p

-- The decimal cut off after its first `places` digits after the point.
abbrev pub cut_after : ℕ → Finite → Finite
cut_after places e = record { whole = e.whole; digits = take places e.digits }
