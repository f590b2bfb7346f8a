-- The number and unit of the trimmed string, or the error of the rest of it, where the parser stops.
use Rattle.std.proofs.Common.{Ok, ap, refl, subst, ◌∙◌, chars, IsUtf8}
use Rattle.byte_unit_base.specs.Grammar.Units.{shape_of}
use Rattle.byte_unit_base.specs.Errors.Position.{next_char}
use Rattle.byte_unit_base.specs.Reading.Ends.{IsStopAt}
use Rattle.byte_unit_base.proofs.Positions.{stop_in_string}
use Rattle.byte_unit_base.proofs.SizeAscii.{size_of_chars}
use Rattle.byte_unit_base.proofs.SizeReads.{number_reading}
use Rattle.byte_unit_base.proofs.SizeRest.{boundary_of_stop}
use Rattle.byte_unit_base.proofs.read.read_size.Goals as goal

pub range_from-requires : goal.range_from-requires
range_from-requires c =
    λ _. boundary_of_stop c.as_bytes-bytes.ensures.value c.as_bytes-bytes.ensures.utf8 c.in-Err.ensures

pub returns-in-Ok : goal.returns-in-Ok
returns-in-Ok c =
    let flags = c.new-flags.result in
    let found = c.in-Ok.found in
    let text = rw c.as_bytes-bytes.ensures.value at c.in-Ok.ensures in
    let reading = number_reading flags c.args.s.now (Ok (found.number, found.unit))
    (rw c.trimmed-text.ensures at (size_of_chars flags c.trimmed-text.result.now found.number (shape_of found.unit) text)) in
    rw c.new-flags.ensures at reading

pub returns-in-Err : goal.returns-in-Err
returns-in-Err c =
    let flags = c.new-flags.result in
    let stop = c.in-Err.stop in
    let text = c.trimmed-text.result.now in
    let stops = subst (λ text. IsStopAt flags text stop.index stop.reason) c.as_bytes-bytes.ensures.value c.in-Err.ensures in
    let utf8 = subst IsUtf8 c.as_bytes-bytes.ensures.value c.as_bytes-bytes.ensures.utf8 in
    let next_is = c.first_char-next.ensures ∙ ap (λ rest. next_char (chars rest)) c.range_from.ensures.value in
    let is = stop_in_string flags c.args.s.now text stop.index _ stop.reason _ c.utf8.s c.trimmed-text.ensures utf8 stops
    next_is refl in
    rw c.new-flags.ensures at (is.reading c.error_at.result c.error_at.ensures)
