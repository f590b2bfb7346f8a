-- The law of numbers, for a size in bits and a unit.
use Rattle.std.proofs.Common.{◌*◌}
use Rattle.byte_unit_math.proofs.Powers.{places_by_powers}
use Rattle.byte_unit_base.specs.Grammar.Shape.{twos, fives}
use Rattle.byte_unit_base.specs.Sizes.Kinds.{bits_in}
use Rattle.byte_unit_format.proofs.laws.places_of_size.Goals as goal

pub returns-clause-places : goal.returns-clause-places
returns-clause-places c = λ kind size unit. places_by_powers (size * bits_in kind) (twos unit) (fives unit)
