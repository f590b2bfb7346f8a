-- Only a string of ASCII may be a size in words.
use Rattle.std.proofs.Common.{sym, subst, IsAscii, ◌∙◌}
use Rattle.byte_unit_base.specs.Reading.Words.{measure_of_text}
use Rattle.byte_unit_base.proofs.WordTexts.{of_ascii, of_other}
use Rattle.byte_unit_base.proofs.words.read_in_words.Goals as goal

pub read_ascii_in_words-requires : goal.read_ascii_in_words-requires
read_ascii_in_words-requires c = subst IsAscii (sym c.as_bytes.ensures.value) c.if-is_ascii.ensures.cases

pub returns-then-is_ascii : goal.returns-then-is_ascii
returns-then-is_ascii c =
    c.read_ascii_in_words.ensures
    ∙ of_ascii (measure_of_text c.args.flags) _ c.args.text.now c.as_bytes.ensures.value c.if-is_ascii.ensures.cases

pub returns-else-is_ascii : goal.returns-else-is_ascii
returns-else-is_ascii c =
    of_other (measure_of_text c.args.flags) c.args.text.now c.utf8.text c.if-is_ascii.ensures.cases
