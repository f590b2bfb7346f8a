-- The parts of an error in a unit.
use Rattle.std.specs.Prelude.{ℕ, Bool, List}
use Rattle.std.specs.Borrow.{Bor}

-- what an error in a unit says
pub record UnitErrorView : Type 0 where
  -- the first character that cannot continue a unit
  pub character : ℕ
  -- the characters that the message names as expected, in this order
  pub expected_characters : Bor (List ℕ)
  -- whether the input could end before this character
  pub also_expect_no_character : Bool
