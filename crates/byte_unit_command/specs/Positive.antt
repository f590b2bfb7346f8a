-- Positive numbers on the command line.
use Rattle.std.specs.Prelude.{◌≡◌, ℕ, ◌<◌, ◌^◌, List}
use Rattle.std.specs.Str.Parse.{IsNumeral, digits_value}

-- the text is decimal digits, without a sign, and they are this number, which is from 1 to 2^64 - 1
pub record IsPositive (text : List ℕ) (number : ℕ) : Type 0 where
  pub is_numeral : IsNumeral 10 text
  pub value : digits_value 10 text ≡ number
  pub positive : 0 < number
  pub bound : number < 2 ^ 64
