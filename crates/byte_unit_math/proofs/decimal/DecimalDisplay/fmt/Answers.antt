-- The expansion of the decimal has its shortest numeral as its text.
use Rattle.std.proofs.Common.{rules}
use Rattle.std.proofs.Output.{has_written_of_eq, has_written_styled_of_eq}
use Rattle.byte_unit_math.specs.Bounds.{places_of_decimal}
use Rattle.byte_unit_math.proofs.Texts.{text_of_short_numeral}
use Rattle.byte_unit_math.proofs.decimal.DecimalDisplay.fmt.Goals as goal

-- If the formatter has no options, the text is written.
pub returns-clause-writes : goal.returns-clause-writes
returns-clause-writes g c = λ plain ok.
    has_written_of_eq _ _ _ _ _
    (text_of_short_numeral c.args.self.now places_of_decimal c.from_decimal.result c.from_decimal.ensures)
    (search rules)

-- Whatever the options of the formatter, the text is written.
pub returns-clause-styled : goal.returns-clause-styled
returns-clause-styled g c = λ flush ok.
    has_written_styled_of_eq _ _ _ _ _
    (text_of_short_numeral c.args.self.now places_of_decimal c.from_decimal.result c.from_decimal.ensures)
    (c.fmt.ensures.styled flush ok)
