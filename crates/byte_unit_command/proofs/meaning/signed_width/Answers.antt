-- A text without a hyphen that is no width is no padding.
use Rattle.std.proofs.Common.{◌≡◌, ◌≢◌, ℕ, List, ◌∷◌, Option, Some, MatchOption, Bor, inl, inr, sym, subst, lit<}
use Rattle.std.proofs.lemmas.Str.Pattern.{strip_prefix_char}
use Rattle.byte_unit_command.specs.Meaning.{IsPadding, IsWidth}
use Rattle.byte_unit_command.specs.declared.meaning.Padding.{Padding}
use Rattle.byte_unit_command.proofs.meaning.signed_width.Goals as goal

-- a text without a hyphen (45) that is no width is no value of `--padding`
without_hyphen : (text : List ℕ) → ((rest : List ℕ) → text ≢ 45 ∷ rest) → ((width : ℕ) → ¬ IsWidth text width)
    → (padding : Padding) → ¬ IsPadding (Some text) padding
without_hyphen text lacks none padding (inl is) = none padding.width is.0
without_hyphen text lacks none padding (inr (others, others_are, is, on_left)) = lacks others others_are

-- the text does not begin with a hyphen and is no width
pub returns-in_err-width_of-in-None : goal.returns-in_err-width_of-in-None
returns-in_err-width_of-in-None c =
    let text = c.args.text.now in
    let Stripped : Option (Bor (List ℕ)) → Type 0 =
    λ r. MatchOption r ((rest : List ℕ) → text ≢ 45 ∷ rest) (λ rest. text ≡ 45 ∷ rest.now) in
    -- the hyphen (45) could not be taken off, so the text does not begin with one
    let lacks_hyphen = subst Stripped c.in-None.is
    (strip_prefix_char 45 text c.strip_prefix.result c.strip_prefix.ensures.cases (lit< tt)) in
    let Is : Option Padding → Type 0 =
    λ found. MatchOption found ((padding : Padding) → ¬ IsPadding (Some text) padding) (IsPadding (Some text)) in
    subst Is (sym c.from_residual-in_err-width_of-in-None.ensures)
    (without_hyphen text lacks_hyphen c.in_err-width_of-in-None.ensures)
