-- A numeral with all its places, and a short one, each by its lemma.
use Rattle.byte_unit_math.proofs.Digits.{scaled_at_places}
use Rattle.byte_unit_math.proofs.Texts.{short_numeral_is_expansion}
use Rattle.byte_unit_math.proofs.laws.numerals_are_exact.Goals as goal

pub returns : goal.returns
returns c = record { all = λ number places. scaled_at_places places number; short = short_numeral_is_expansion }
