-- A string that is accepted as a size is parsed without an error.
use Rattle.std.proofs.lemmas.Bool.{false≢true}
use Rattle.byte_unit_uses.proofs.message.parse_argument.Goals as goal

pub returns-in_err-limit-clause-complete : goal.returns-in_err-limit-clause-complete
returns-in_err-limit-clause-complete c = λ limit is_accepted.
    let read = c.parse.ensures.value.reads limit is_accepted in
    let failed = c.in_err-limit.ensures.0 in
    absurd (false≢true (rw read at failed))
