-- The operands as an input.
use Rattle.std.specs.Prelude.{◌≡◌, ◌≢◌, ℕ, List}
use Rattle.std.specs.List.{All}
use Rattle.byte_unit_stream.specs.Records.{records_of}

-- the input has each operand as a record that ends with a zero byte, if no operand contains one; in the arguments of a
-- process none does
abbrev pub HasOperands : List (List ℕ) → List ℕ → Type 0
HasOperands operands input = All (All (λ byte. byte ≢ 0)) operands → records_of 0 input ≡ operands
