-- The message is appended whole, or nothing is.
use Rattle.std.proofs.Common.{◌≡◌, ◌++◌, ℕ, Bool, true, false, List, [], if◌then◌else◌, sym, ◌∙◌, append-nil}
use Rattle.byte_unit_stream.specs.Beginnings.{IsBeginningOf}
use Rattle.byte_unit_command.proofs.notice.add_message.Goals as goal

-- what is extended, or not changed, begins as it was
extended : (done : Bool) (old new more : List ℕ) → new ≡ (if done then old ++ more else old) → IsBeginningOf old new
extended true old new more is = (more, is)
extended false old new more is = ([], is ∙ sym (append-nil old))

pub returns-clause-kept : goal.returns-clause-kept
returns-clause-kept g c = extended _ _ _ _ c.extend_from_slice.ensures.items
