-- The parts of the law are lemmas.
use Rattle.byte_unit_math.proofs.Powers.{numbers_have_exponents, places_by_powers, zero_takes_no_places}
use Rattle.byte_unit_math.proofs.laws.places_by_powers.Goals as goal

pub returns : goal.returns
returns c = record { some = numbers_have_exponents; places = places_by_powers; zero = zero_takes_no_places }
