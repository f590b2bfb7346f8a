-- The message is appended if it is told.
use Rattle.std.proofs.Common.{Bool, sym, subst}
use Rattle.byte_unit_command.specs.CallEnds.{context_of}
use Rattle.byte_unit_command.specs.Messages.{IsMessageIf}
use Rattle.std.proofs.lemmas.Result.{on_ok_weaker}
use Rattle.byte_unit_command.proofs.notice.add_message_if.Goals as goal

-- the message is told, so it is appended
pub returns-then-told-clause-ok : goal.returns-then-told-clause-ok
returns-then-told-clause-ok g c =
    -- `added` is a triple: the text that was appended, that it is the message, and the equation
    on_ok_weaker c.add_message.result (λ added. (
      added.0,
      subst (λ (told : Bool). IsMessageIf told (context_of c.args.context.now) c.args.number c.args.field.now
          c.args.reason.now added.0) (sym c.if-told.true) added.1,
      added.2,
    )) c.add_message.ensures.ok
