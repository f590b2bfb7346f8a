-- The unit is chosen for the size, by the flags that were decoded.
use Rattle.std.proofs.Common.{◌≡◌, Some, rules}
use Rattle.byte_unit_c.specs.Flags.{choice_flags_at}
use Rattle.byte_unit_c.specs.Values.{number_of}
use Rattle.byte_unit_c.proofs.units.byte_unit_exact_unit.Goals as goal

-- the code is that of the unit that was chosen
pub returns-clause-found : goal.returns-clause-found
returns-clause-found c =
    let asked : choice_flags_at c.args.flags ≡ Some c.in-Some-Some.asked = cc in
    let size : c.in-Some-Some.size ≡ number_of c.args.size = search rules in
    let chosen = c.exact_unit-whole.ensures in
    rw asked
    (λ small. (_, c.unit_code.ensures, (rw size at chosen.recovered, rw (c.new.ensures, ← size) chosen.exact)))
