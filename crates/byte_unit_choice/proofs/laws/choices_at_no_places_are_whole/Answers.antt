-- A larger unit that divides the size would be the chosen one.
use Rattle.byte_unit_choice.proofs.LaterChoices.{no_larger_divides}
use Rattle.byte_unit_choice.proofs.laws.choices_at_no_places_are_whole.Goals as goal

pub returns : goal.returns
returns c = λ version family in_bits number unit h. record {
  whole = (h.number_is.count, h.number_is.number);
  no_larger = no_larger_divides version family in_bits unit h.unit_is;
}
