-- A field that the parser accepts is a size.
use Rattle.std.proofs.Common.{Some, inl, inr, ap, sym, ◌∙◌, subst}
use Rattle.byte_unit.specs.Reading.Results.{IsBytesReadingAs, without_location}
use Rattle.byte_unit_base.proofs.SizeOrFault.{accepted_or_refused}
use Rattle.byte_unit_command.specs.Field.{IsNoSizeBy}
use Rattle.byte_unit_command.proofs.notice.reason_of.Goals as goal

-- this case never happens: a rejected field is not accepted
pub returns-in-Some-Ok : goal.returns-in-Some-Ok
returns-in-Some-Ok c =
    let spec = c.args.options.now.spec in
    let field = c.without_suffix-text.result.now in
    -- a pair: the text is UTF-8, and parsing it gives the size
    let read = subst (λ answer. IsBytesReadingAs spec field (without_location answer))
    (c.in-Some-Ok.is ∙ ap Some c.in-Some-Ok.field-0-is) c.explain.ensures.reading in
    let law = accepted_or_refused spec field in
    let none = subst (IsNoSizeBy spec) (sym c.without_suffix-text.ensures) c.requires in
    elim none [
      | inl no_text ↦ absurd (no_text read.0)
      | inr rejected ↦ absurd (law.not_both _ rejected.1.0 read.1.found rejected.1.1)
    ]
