-- The first bytes are a line with which the bytes begin, and its number and unit are those of the string. If it is
-- visible ASCII, the parser stops in the string where it stops in the line.
use Rattle.std.proofs.Common.{take, sym, inl, inr}
use Rattle.byte_unit_base.specs.Sizes.Kinds.{flags_for}
use Rattle.byte_unit_base.specs.Reading.Ends.{IsStopAt}
use Rattle.byte_unit_base.proofs.Lines.{first_line}
use Rattle.byte_unit_base.proofs.Positions.{stop_in_visible}
use Rattle.byte_unit_base.proofs.SizeOfText.{bytes_number, reading_of_fault}
use Rattle.byte_unit_base.proofs.size.parse_line.Goals as goal

pub read_number_and_unit-requires : goal.read_number_and_unit-requires
read_number_and_unit-requires c = first_line c.args.bytes.now c.args.len c.requires

pub returns-in-Ok-clause-reading : goal.returns-in-Ok-clause-reading
returns-in-Ok-clause-reading c =
    let found = c.in-Ok.found in
    let line = take c.args.len c.args.bytes.now in
    let number = bytes_number (flags_for c.args.spec.kind c.args.spec.ignore_case) line found.number found.unit
    (rw c.flags-flags.ensures at c.in-Ok.ensures) in
    (number.0, c.size_of.ensures.reading _ (inl number.1.found))

-- the line is no number and unit, but one in words
pub returns-in-Some-measure_in_words-clause-reading : goal.returns-in-Some-measure_in_words-clause-reading
returns-in-Some-measure_in_words-clause-reading c =
    let line = take c.args.len c.args.bytes.now in
    let flags = flags_for c.args.spec.kind c.args.spec.ignore_case in
    let stop : IsStopAt flags line c.in-Err.stop.index c.in-Err.stop.reason =
    rw c.flags-flags.ensures at c.in-Err.ensures in
    let is = stop_in_visible flags line c.in-Err.stop.index c.in-Err.stop.reason c.in-Some.next c.in-Some.ensures stop in
    let error = is.position flags in (
      is.utf8,
      c.size_of-in-Some-measure_in_words.ensures.reading line
          (inr ((error.fault, error.first), sym (c.in-Some-measure_in_words.ensures is.utf8))),
    )

-- the parser stops in the line
pub returns-in-None-measure_in_words-clause-reading : goal.returns-in-None-measure_in_words-clause-reading
returns-in-None-measure_in_words-clause-reading c =
    let line = take c.args.len c.args.bytes.now in
    let flags = flags_for c.args.spec.kind c.args.spec.ignore_case in
    let stop : IsStopAt flags line c.in-Err.stop.index c.in-Err.stop.reason =
    rw c.flags-flags.ensures at c.in-Err.ensures in
    let is = stop_in_visible flags line c.in-Err.stop.index c.in-Err.stop.reason c.in-Some.next c.in-Some.ensures stop in
    let error_is = rw c.flags-flags.ensures at c.error_at.ensures in (
      is.utf8,
      reading_of_fault c.args.spec line c.error_at.result
          (is.reading c.error_at.result error_is) (sym (c.in-None-measure_in_words.ensures is.utf8)),
    )
