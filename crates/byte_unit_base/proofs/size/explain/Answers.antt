-- The result is that of the number and the unit of the string, or the error where the parser stops in it.
use Rattle.std.proofs.Common.{subst, sym, inl, inr}
use Rattle.byte_unit_base.specs.Sizes.Kinds.{flags_for}
use Rattle.byte_unit_base.specs.Errors.Position.{IsSizeLocation}
use Rattle.byte_unit_base.specs.Errors.Meaning.{size_fault}
use Rattle.byte_unit_base.specs.Reading.Ends.{IsNumberOrStop}
use Rattle.byte_unit_base.proofs.Positions.{location_of}
use Rattle.byte_unit_base.proofs.SizeOfText.{reading_of_fault}
use Rattle.byte_unit_base.proofs.size.explain.Goals as goal

-- the string is a number and a unit
pub returns-in-Some-Ok-clause-reading : goal.returns-in-Some-Ok-clause-reading
returns-in-Some-Ok-clause-reading c =
    let bytes = c.args.bytes.now in
    let read = subst (IsNumberOrStop c.flags-flags.result bytes) c.in-Some-Ok.field-0-is c.in-Some-Ok.ensures.1 in
    let found = rw c.flags-flags.ensures at read in
    c.located_size.ensures.reading bytes c.in-Some-Ok.ensures.0 (inl found.found)

-- it is a number and a unit in words
pub returns-in-Some-clause-reading : goal.returns-in-Some-clause-reading
returns-in-Some-clause-reading c =
    let bytes = c.args.bytes.now in
    let stop = subst (IsNumberOrStop c.flags-flags.result bytes) c.in-Some-Err.field-0-is c.in-Some-Err.ensures.1 in
    let error = stop.position (flags_for c.args.spec.kind c.args.spec.ignore_case) in
    c.located_size-in-Some.ensures.reading bytes stop.utf8
    (inr ((error.fault, error.first), sym (c.in-Some.ensures stop.utf8)))

-- the parser stops in the string
pub returns-in-None-measure_in_words-clause-reading : goal.returns-in-None-measure_in_words-clause-reading
returns-in-None-measure_in_words-clause-reading c =
    let bytes = c.args.bytes.now in
    let stop = subst (IsNumberOrStop c.flags-flags.result bytes) c.in-Some-Err.field-0-is c.in-Some-Err.ensures.1 in
    let reading = rw c.flags-flags.ensures at (stop.reading c.error_at.result c.error_at.ensures) in (
      stop.utf8,
      reading_of_fault c.args.spec bytes c.error_at.result reading
          (sym (c.in-None-measure_in_words.ensures stop.utf8)),
    )

pub returns-in-None-measure_in_words-clause-location : goal.returns-in-None-measure_in_words-clause-location
returns-in-None-measure_in_words-clause-location c =
    let bytes = c.args.bytes.now in
    let stop = subst (IsNumberOrStop c.flags-flags.result bytes) c.in-Some-Err.field-0-is c.in-Some-Err.ensures.1 in
    let reading = stop.reading c.error_at.result c.error_at.ensures in
    location_of (IsSizeLocation bytes) (size_fault c.error_at.result) c.location_at.result reading.no_bounds
    (subst (IsSizeLocation bytes) (sym c.location_at.ensures) stop.location)
