-- A value that is accepted as a size gives that size.
use Rattle.byte_unit_uses.proofs.CommandLine.{accepted-option}
use Rattle.byte_unit_uses.proofs.command_line.size_option.Goals as goal

-- the option has a value that is accepted as a size, so that size is returned
pub returns-clause-complete : goal.returns-clause-complete
returns-clause-complete c = λ value size has accepted.
    accepted-option value size _ (c.try_get_one.ensures.value value has) accepted
