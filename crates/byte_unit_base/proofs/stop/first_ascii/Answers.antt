-- The characters of ASCII bytes are these bytes.
use Rattle.std.proofs.Common.{◌≡◌, ℕ, ◌<◌, ◌≤◌, List, [], ◌∷◌, Some, None, length, slice_index, refl, sym, ap, ◌∙◌, arith}
use Rattle.std.proofs.lemmas.Str.{chars-IsAscii}
use Rattle.byte_unit_base.specs.Errors.Position.{next_char}
use Rattle.byte_unit_base.proofs.stop.first_ascii.Goals as goal

-- an empty list has no first character
none : (bytes : List ℕ) → length bytes < 1 → None ≡ next_char bytes
none [] short = refl
none (b ∷ bs) short = absurd (omega (arith, short))

-- the first element of a list is its first character
first : (bytes : List ℕ) (c : ℕ) → 1 ≤ length bytes → c ≡ slice_index bytes 0 → Some c ≡ next_char bytes
first [] c some is = absurd (omega (arith, some))
first (b ∷ bs) c some is = ap Some is

-- if there are no bytes, there is no first character
pub returns-in-empty : goal.returns-in-empty
returns-in-empty c =
    none c.args.bytes.now (omega (arith, c.in-empty.len_below)) ∙ ap next_char (sym (chars-IsAscii c.args.bytes.now c.requires))

-- the first byte, if there is one, is the first character
pub returns-in-len1-up : goal.returns-in-len1-up
returns-in-len1-up c = first c.args.bytes.now c.from.result (omega (arith, c.in-len1-up.len_at_least)) c.from.ensures
    ∙ ap next_char (sym (chars-IsAscii c.args.bytes.now c.requires))
