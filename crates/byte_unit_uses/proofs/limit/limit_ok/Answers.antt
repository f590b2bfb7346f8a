-- A string that is accepted as a size is parsed as it, and `ok` returns it.
use Rattle.byte_unit_uses.proofs.limit.limit_ok.Goals as goal

-- a string that is accepted as a size gives that size
pub returns-clause-complete : goal.returns-clause-complete
returns-clause-complete c = λ limit is_accepted.
    let read = c.parse_str.ensures.reads limit is_accepted in
    rw read at c.ok.ensures.value
