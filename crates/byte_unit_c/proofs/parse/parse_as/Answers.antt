-- The result is that of the number and the unit of the string, by the grammar or in words, or the error where the parser
-- stops in it.
use Rattle.std.proofs.Common.{subst, sym, inl, inr}
use Rattle.byte_unit_base.specs.Sizes.Kinds.{flags_for}
use Rattle.byte_unit_base.specs.Reading.Ends.{IsNumberOrStop}
use Rattle.byte_unit_c.proofs.Stops.{stop_parsed}
use Rattle.byte_unit_c.proofs.parse.parse_as.Goals as goal

-- the string is a number and a unit
pub returns-in-Some-Ok : goal.returns-in-Some-Ok
returns-in-Some-Ok c =
    let read = subst (IsNumberOrStop c.flags-flags.result c.args.text.now) c.in-Some-Ok.field-0-is
    c.in-Some-Ok.ensures.1 in
    let found = rw c.flags-flags.ensures at read in
    c.write_size.ensures c.args.text.now c.in-Some-Ok.ensures.0 (inl found.found)

-- it is a number and a unit in words
pub returns-in-Some : goal.returns-in-Some
returns-in-Some c =
    let stop = subst (IsNumberOrStop c.flags-flags.result c.args.text.now) c.in-Some-Err.field-0-is
    c.in-Some-Err.ensures.1 in
    let error = stop.position (flags_for c.args.spec.kind c.args.spec.ignore_case) in
    c.write_size-in-Some.ensures c.args.text.now stop.utf8
    (inr ((error.fault, error.first), sym (c.in-Some.ensures stop.utf8)))

-- the parser stops in the string
pub returns-in-None-measure_in_words : goal.returns-in-None-measure_in_words
returns-in-None-measure_in_words c =
    let stop = subst (IsNumberOrStop c.flags-flags.result c.args.text.now) c.in-Some-Err.field-0-is
    c.in-Some-Err.ensures.1 in
    stop_parsed c.args.spec c.args.text.now c.in-Some-Err.stop _ _ _ _
    (rw c.flags-flags.ensures at stop) (rw c.flags-flags.ensures at c.write_stop.ensures)
    (sym (c.in-None-measure_in_words.ensures stop.utf8))
