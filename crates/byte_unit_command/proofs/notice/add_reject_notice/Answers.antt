-- The message is told unless rejected fields are ignored.
use Rattle.std.proofs.Common.{◌∙◌, Bool, MatchBool, [], ◌≡◌, sym, subst}
use Rattle.byte_unit_command.specs.CallEnds.{context_of}
use Rattle.byte_unit_command.specs.Messages.{IsFieldError, IsFieldMessage}
use Rattle.byte_unit_command.specs.declared.notice.FieldError.{FieldError}
use Rattle.std.proofs.lemmas.Result.{on_ok_weaker}
use Rattle.byte_unit_command.proofs.notice.add_reject_notice.Goals as goal

-- the message about the rejected field is appended with the reason
pub returns-clause-ok : goal.returns-clause-ok
returns-clause-ok g c =
    let context = context_of c.args.context.now in
    let field = c.args.field.now in
    -- `added` is a triple: the text that was appended, that it is the message, and the equation
    on_ok_weaker c.add_message.result (λ added. (
      added.0,
      subst (λ (told : Bool). MatchBool told ((reason : FieldError) × IsFieldError context.options field reason
          × IsFieldMessage context c.args.number field reason added.0) (added.0 ≡ []))
          (sym c.if-not-tells_rejected.false ∙ c.tells_rejected.ensures)
          (c.reason_of-reason.result, c.reason_of-reason.ensures, added.1),
      added.2,
    )) c.add_message.ensures.ok
