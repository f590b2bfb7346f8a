-- Messages with a quoted character.
use Rattle.std.proofs.Common.{◌≡◌, ◌≢◌, ℕ, ◌+◌, ◌≤◌, List, [], ◌∷◌, length, arith, length-append}
use Rattle.std.proofs.lemmas.Bool.Decides.{nat_tests}
use Rattle.std.specs.Fmt.{debug_escape}
use Rattle.byte_unit_base.specs.Errors.Position.{location_words}
use Rattle.byte_unit_base.specs.declared.errors.Location.{Location}
use Rattle.byte_unit_c.specs.Parse.{quoting}

-- `Debug` writes a printable character of ASCII (32 to 126), if it is no quote (39) and no backslash (92), as it is
pub letter : (c : ℕ) → 32 ≤ c → c ≤ 126 → c ≢ 39 → c ≢ 92 → debug_escape 39 c ≡ c ∷ []
unfolding debug_escape
letter c printable ascii no_quote no_backslash = grind (arith, nat_tests)

-- the length of such a message
pub quoted_length : (character : ℕ) (rest : List ℕ) (location : Location)
    → length (quoting character rest location) ≡ 16 + length rest + length (location_words location)
quoted_length character rest location = omega (arith, length-append rest (location_words location))
