-- A string that is accepted as a size is parsed as it, and `unwrap_or` returns it.
use Rattle.byte_unit_uses.proofs.limit.limit_or.Goals as goal

-- a string that is accepted as a size gives that size, not the default
pub returns-clause-complete : goal.returns-clause-complete
returns-clause-complete c = λ limit is_accepted.
    let read = c.parse.ensures.value.reads limit is_accepted in
    rw read at c.unwrap_or.ensures
