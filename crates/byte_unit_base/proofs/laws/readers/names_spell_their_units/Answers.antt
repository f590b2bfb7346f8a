-- The law is the statement of a lemma.
use Rattle.byte_unit_base.proofs.Names.{names_spell_their_units}
use Rattle.byte_unit_base.proofs.laws.readers.names_spell_their_units.Goals as goal

pub returns : goal.returns
returns c = names_spell_their_units
