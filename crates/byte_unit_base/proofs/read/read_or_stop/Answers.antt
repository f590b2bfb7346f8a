-- The number and unit of the trimmed string, or where the parser stops in it.
use Rattle.std.proofs.Common.{Ok, ap, subst, ◌∙◌, ◌+◌, chars, IsUtf8}
use Rattle.byte_unit_base.specs.Grammar.Units.{shape_of}
use Rattle.byte_unit_base.specs.Errors.Position.{next_char}
use Rattle.byte_unit_base.specs.Reading.Ends.{IsStopAt}
use Rattle.byte_unit_base.proofs.Positions.{stop_in_string}
use Rattle.byte_unit_base.proofs.SizeAscii.{size_of_chars}
use Rattle.byte_unit_base.proofs.SizeReads.{number_reading}
use Rattle.byte_unit_base.proofs.SizeRest.{boundary_of_stop}
use Rattle.byte_unit_base.proofs.read.read_or_stop.Goals as goal

-- the parser stops at the boundary of a character, since ASCII comes before
pub range_from-requires : goal.range_from-requires
range_from-requires c =
    λ _. boundary_of_stop c.as_bytes-bytes.ensures.value c.as_bytes-bytes.ensures.utf8 c.in-Err.ensures

-- the bytes are the number and the unit that the parser has read
pub returns-in-Ok : goal.returns-in-Ok
returns-in-Ok c =
    let flags = c.args.flags in
    let found = c.in-Ok.found in
    let text = rw c.as_bytes-bytes.ensures.value at c.in-Ok.ensures in
    number_reading flags c.args.s.now (Ok (found.number, found.unit))
    (rw c.trimmed-text.ensures at (size_of_chars flags c.trimmed-text.result.now found.number (shape_of found.unit) text))

-- the parser stops in the string where it stops in the trimmed string
pub returns-in-Err : goal.returns-in-Err
returns-in-Err c =
    let stop = c.in-Err.stop in
    let stops = subst (λ text. IsStopAt c.args.flags text stop.index stop.reason) c.as_bytes-bytes.ensures.value
    c.in-Err.ensures in
    let utf8 = subst IsUtf8 c.as_bytes-bytes.ensures.value c.as_bytes-bytes.ensures.utf8 in
    stop_in_string c.args.flags c.args.s.now c.trimmed-text.result.now stop.index _ stop.reason _ c.utf8.s
    c.trimmed-text.ensures utf8 stops
    (c.first_char.ensures ∙ ap (λ rest. next_char (chars rest)) c.range_from.ensures.value)
    (ap (λ start. start + stop.index) c.leading_len.ensures.start)
