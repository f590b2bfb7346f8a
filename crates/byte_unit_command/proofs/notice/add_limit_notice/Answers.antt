-- The message about the maximum, and then that about the minimum.
use Rattle.std.proofs.Common.{◌≡◌, ◌++◌, refl, ap, subst, ◌∙◌, append_assoc, rules}
use Rattle.byte_unit_command.specs.Messages.{IsMessageIf}
use Rattle.byte_unit_command.specs.CallEnds.{messages_of, context_of}
use Rattle.byte_unit_command.specs.Sums.{is_above, is_below}
use Rattle.byte_unit_command.specs.declared.notice.FieldError.TheVariants.{Above, Below}
use Rattle.std.proofs.lemmas.Result.{on_ok_weaker}
use Rattle.byte_unit_command.proofs.notice.add_limit_notice.Goals as goal

-- the two messages, each of which may be empty, are appended one after the other
pub returns-clause-ok : goal.returns-clause-ok
returns-clause-ok g c =
    let context = context_of c.args.context.now in
    let options = context.options in
    let number = c.args.number in
    let field = c.args.field.now in
    -- a triple: the text that was appended, that it is the message, if it is told, and the equation; so is `below`
    let above = c.in_ok-add_message_if.ensures.ok in
    let above_is : c.is_some_and-above.result ≡ is_above options.max c.args.size = search rules in
    let below_is : c.is_some_and-below.result ≡ is_below options.min c.args.size = search rules in
    on_ok_weaker c.add_message_if-2.result (λ below. (
      above.0 ++ below.0,
      (
        above.0,
        below.0,
        subst (λ told. IsMessageIf told context number field Above above.0) above_is above.1,
        subst (λ told. IsMessageIf told context number field Below below.0) below_is below.1,
        refl,
      ),
      below.2 ∙ ap (λ messages. messages ++ below.0) above.2
          ∙ append_assoc (messages_of c.args.notices.now) above.0 below.0,
    )) c.add_message_if-2.ensures.ok
