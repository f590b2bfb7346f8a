-- Only a string of ASCII has a hint.
use Rattle.std.proofs.Common.{◌≡◌, None, sym, subst, IsAscii, ◌∙◌}
use Rattle.byte_unit_base.specs.Errors.Hints.{hint_for, hint_of}
use Rattle.byte_unit_base.proofs.WordTexts.{of_ascii, of_other}
use Rattle.byte_unit_base.proofs.hint.hint_of.Goals as goal

pub hint_for-requires : goal.hint_for-requires
hint_for-requires c = subst IsAscii (sym c.as_bytes.ensures.value) c.if-is_ascii.ensures.cases

pub returns-then-is_ascii : goal.returns-then-is_ascii
returns-then-is_ascii c =
    subst (λ text. c.hint_for.result ≡ hint_of text) c.trimmed-text.ensures
    (c.hint_for.ensures
    ∙ of_ascii hint_for _ c.trimmed-text.result.now c.as_bytes.ensures.value c.if-is_ascii.ensures.cases)

pub returns-else-is_ascii : goal.returns-else-is_ascii
returns-else-is_ascii c =
    subst (λ text. None ≡ hint_of text) c.trimmed-text.ensures
    (of_other hint_for c.trimmed-text.result.now c.trimmed-text.utf8 c.if-is_ascii.ensures.cases)
