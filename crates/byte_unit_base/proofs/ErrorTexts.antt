-- The list of expected characters in the message of an error is written character by character.
use Rattle.std.proofs.Common.{◌≡◌, ℕ, ◌-◌, ◌≤◌, List, [], ◌∷◌, length, take, drop, get_or, take_all, Some, arith, ap}
use Rattle.std.proofs.Common.{◌∙◌, if◌then◌else◌, ◌==◌, codes}
use Rattle.std.proofs.Output.{then_text_assoc}
use Rattle.std.specs.Fmt.{debug_char, ◌++?◌}
use Rattle.byte_unit_base.specs.Errors.Text.{others_text}

-- what is written before an expected character, by those that follow it
abbrev pub separator : List ℕ → List ℕ
separator rest = if length rest == 0 then codes " or " else codes ", "

-- the message of the expected characters that are left is the first of them with what is written before it, and then
-- the message of the others
pub left_text : (left before : List ℕ) (first : ℕ) → 1 ≤ length left → first ≡ get_or left 0 first
    → before ≡ separator (take (length left - 1) (drop 1 left))
    → (Some before ++? debug_char first) ++? others_text (take (length left - 1) (drop 1 left)) ≡ others_text left
left_text [] before first some same e = absurd (omega (arith, some))
left_text (c ∷ cs) before first some same e =
    let rest = take (length (c ∷ cs) - 1) (drop 1 (c ∷ cs)) in
    let whole : rest ≡ cs = take_all _ _ (omega arith) in
    then_text_assoc (Some before) (debug_char first) (others_text rest)
    ∙ (ap (λ b. Some b ++? debug_char first ++? others_text rest) e
    ∙ (ap (λ n. Some (separator rest) ++? debug_char n ++? others_text rest) same
    ∙ ap (λ l. Some (separator l) ++? debug_char c ++? others_text l) whole))
