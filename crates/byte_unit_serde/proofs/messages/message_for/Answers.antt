-- The reason, and the colon and space after it, are kept whole.
use Rattle.std.proofs.Common.{arith, ◌≡◌, ◌≤◌, ℕ, List, ◌++◌, length, length-append, codes, refl, ap, ◌∙◌}
use Rattle.std.proofs.lemmas.Bool.{le-leb}
use Rattle.std.specs.Fmt.Cut.{cut_to}
use Rattle.std.specs.Fmt.InlineText.{inline_text}
use Rattle.byte_unit_serde.proofs.messages.message_for.Goals as goal

-- A text that has room is kept whole.
cut_to_fits : (room : ℕ) (text : List ℕ) → length text ≤ room → cut_to room text ≡ text
unfolding cut_to
cut_to_fits room text fits = rw (le-leb (length text) room fits) refl

-- The message is the reason, what is between, and what is kept of the quote.
pub returns : goal.returns
returns c =
    let reason = c.args.reason.now in
    let first : inline_text c.and_str.result ≡ reason =
    (rw c.new.ensures.text at c.and_str.ensures.within) (omega arith) ∙ cut_to_fits 16 reason c.requires in
    let second : inline_text c.and_str-2.result ≡ reason ++ codes ": " =
    (rw first at c.and_str-2.ensures.within) (omega (arith, c.requires))
    ∙ ap (λ between. reason ++ between) (cut_to_fits 2 (codes ": ") (omega arith)) in
    let quoted = c.and.ensures.text in (
      quoted.kept,
      quoted.text,
      (rw second at quoted.within) (omega (arith, length-append reason (codes ": "), c.requires)),
    )
