-- What is returned and written where the parser stops in a string.
use Rattle.std.proofs.Common.{◌≡◌, ◌≢◌, ℕ, List, Option, Some, None, Err, refl}
use Rattle.byte_unit_base.specs.Errors.Position.{IsSizePosition}
use Rattle.byte_unit_base.specs.Errors.Fault.{Fault, exceeded, not_number, no_value, too_long, bad_unit}
use Rattle.byte_unit_base.specs.Grammar.SizeText.{trim_of}
use Rattle.byte_unit_base.specs.Reading.Words.{in_words}
use Rattle.byte_unit_base.specs.Sizes.Kinds.{flags_for}
use Rattle.byte_unit_base.specs.Reading.Ends.{IsStop}
use Rattle.byte_unit_base.specs.declared.stop.Reason.{Reason}
use Rattle.byte_unit_base.specs.declared.stop.Stop.{Stop}
use Rattle.byte_unit_base.specs.declared.spec.ParseSpec.{ParseSpec}
use Rattle.byte_unit_base.proofs.SizeOfText.{reading_of_fault}
use Rattle.byte_unit_c.specs.declared.error.Error.{Error}
use Rattle.byte_unit_c.specs.declared.values.Number.{Number}
use Rattle.byte_unit_c.specs.Error.{IsPositionOf, IsStopWritten}
use Rattle.byte_unit_c.specs.Parse.{Parses}

-- the position of each error but that of a size which is too large
position_of : (IsPosition : Option ℕ → Type 0) (fault : Fault) (position : ℕ) → ((n : ℕ) → fault ≢ exceeded n)
    → IsPosition (Some position) → IsPositionOf IsPosition fault position
position_of IsPosition (exceeded n) position within is = absurd (within n refl)
position_of IsPosition (not_number c) position within is = is
position_of IsPosition no_value position within is = is
position_of IsPosition too_long position within is = is
position_of IsPosition (bad_unit c expected may_end) position within is = is

-- the code and the details of the error where the parser stops are those of the string, in each reading in which it is
-- no size in words
pub stop_parsed : (spec : ParseSpec) (bytes : List ℕ) (stop : Stop Reason) (code : ℕ) (size : Number)
    (old new : List Error) → IsStop (flags_for spec.kind spec.ignore_case) bytes stop
    → IsStopWritten (flags_for spec.kind spec.ignore_case) stop code old new → in_words spec (trim_of bytes) ≡ None
    → Parses spec bytes code size size old new
stop_parsed spec bytes stop code size old new is (error, error_is, code_is, written) none =
    let reading = is.reading error error_is in (
      Some (Err error),
      (is.utf8, reading_of_fault spec bytes error reading none),
      (code_is, (stop.index, position_of (IsSizePosition bytes) _ stop.index reading.no_bounds is.position, written), refl),
    )
