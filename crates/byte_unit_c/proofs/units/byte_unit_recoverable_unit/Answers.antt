-- The unit is chosen for the size, by the flags that were decoded.
use Rattle.std.proofs.Common.{◌≡◌, Some, rules}
use Rattle.byte_unit_c.specs.Flags.{choice_flags_at}
use Rattle.byte_unit_c.proofs.units.byte_unit_recoverable_unit.Goals as goal

-- the code is that of the unit that was chosen
pub returns-clause-found : goal.returns-clause-found
returns-clause-found c =
    let asked : choice_flags_at c.args.flags ≡ Some c.in-Some-Some.asked = cc in
    rw asked (λ small. (_, c.unit_code.ensures, search rules))
