-- What is written is the adjusted text, which is no longer than such a text can be, `most_adjusted_text`.
use Rattle.byte_unit_format.specs.TextParts.{parts_text}
use Rattle.byte_unit_format.proofs.TextParts.{writes_form}
use Rattle.byte_unit_format.proofs.AdjustedLengths.{written_narrow}
use Rattle.byte_unit_format.proofs.adjusted.write_adjusted.Goals as goal

-- The parts were found quickly, and are written.
pub returns-in-Some-clause-written : goal.returns-in-Some-clause-written
returns-in-Some-clause-written c =
    writes_form (parts_text c.in-Some.parts) c.in-Some.ensures.text c.write.ensures.written

pub returns-in-Some-clause-narrow : goal.returns-in-Some-clause-narrow
returns-in-Some-clause-narrow c =
    written_narrow c.args.kind c.args.size c.args.unit c.args.spec c.requires (returns-in-Some-clause-written c)

-- Otherwise all digits were found.
pub returns-in-None-clause-narrow : goal.returns-in-None-clause-narrow
returns-in-None-clause-narrow c =
    written_narrow c.args.kind c.args.size c.args.unit c.args.spec c.requires c.write_full.ensures.written
