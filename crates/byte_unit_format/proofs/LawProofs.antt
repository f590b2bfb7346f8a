-- The lemmas that laws of `src/laws.rt` state.
use Rattle.byte_unit_math.proofs.Powers.{zero_takes_no_places}
use Rattle.byte_unit_format.proofs.ReadBack.{plain_form_reads_back, adjusted_string_reads_back}
use Rattle.byte_unit_format.proofs.WrittenForms.{has_one_form}
use Rattle.byte_unit_format.proofs.AdjustedForms.{has_one_adjusted_form}
use Rattle.byte_unit_format.proofs.ShownForms.{shown_size_is_plain}
use Rattle.byte_unit_format.proofs.Widths.{plain_form_fills_width, layout_fills_width}
use Rattle.byte_unit_format.proofs.ShortExpansions.{expansions_end}
use Rattle.byte_unit_format.proofs.LaterVersion.{meanings_stay}

-- Lemmas whose statements are laws: `auto` proves each of these laws by its lemma.
pub ruleset law_lemmas = (
  plain_form_reads_back,
  adjusted_string_reads_back,
  has_one_form,
  has_one_adjusted_form,
  shown_size_is_plain,
  plain_form_fills_width,
  layout_fills_width,
  zero_takes_no_places,
  expansions_end,
  meanings_stay,
)
