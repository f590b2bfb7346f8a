-- The laws of the parsers as functions: for each input they give its meaning or its error.
--
-- Here `found` is a number, `found.0`, and its unit, `found.1`.
use Rattle.std.proofs.Common.{◌≡◌, ℕ, false, List, Result, Ok, Err, refl, ap, ap₂, sym, ◌∙◌, arith, inl, inr, ⊎_elim}
use Rattle.std.proofs.Common.{Option, Some, None}
use Rattle.std.proofs.lemmas.Bool.{cond_both, cond-true, cond-false, lt-ltb, le-ltb}
use Rattle.std.specs.Prelude.{nat_lt}
use Rattle.std.specs.Result.{result_map_both}
use Rattle.byte_unit_math.specs.Bounds.{size_limit}
use Rattle.byte_unit_base.specs.Grammar.Shape.{Shape}
use Rattle.byte_unit_base.specs.Grammar.Spelling.{Flags}
use Rattle.byte_unit_base.specs.Grammar.Version.{current}
use Rattle.byte_unit_base.specs.Grammar.SizeText.{trim_of}
use Rattle.byte_unit_base.specs.Errors.Fault.{Fault, exceeded, IsSizeFault}
use Rattle.byte_unit_base.specs.Sizes.Kinds.{flags_for}
use Rattle.byte_unit_base.specs.Reading.ParseSpec.{ParseSpec, parse_spec, unit_meant}
use Rattle.byte_unit_base.specs.Sizes.Accepted.{IsMeasureAs, IsReadAs, IsAcceptedAs, IsRejectedAs}
use Rattle.byte_unit_base.specs.Errors.Meaning.{size_fault}
use Rattle.byte_unit_base.specs.Reading.Results.{IsReadingAs}
use Rattle.byte_unit_base.specs.declared.errors.ParseError.{ParseError}
use Rattle.byte_unit_base.specs.Laws.Readers.{Represents}
use Rattle.byte_unit_base.specs.Reading.Parsed.{parsed_unit, parsed_number, parsed_size_as, rounded_up, size_of_parsed}
use Rattle.byte_unit_base.specs.Reading.Parsed.{size_within_limit, parsed_measure}
use Rattle.byte_unit_base.specs.Reading.Words.{in_words, or_in_words}
use Rattle.byte_unit_base.specs.Laws.Parsed.{GivesAnswer, ParsedUnitsAreSpelled, ParsedNumbersAreRepresented}
use Rattle.byte_unit_base.specs.Laws.Parsed.{ParsedSizesAreAccepted}
use Rattle.byte_unit_base.proofs.Scans.{IsAnswer, reads_meaning_or_fault, reads_meaning, reads_fault, reads}
use Rattle.byte_unit_base.proofs.Scans.{gives_answer, one_of_given}
use Rattle.byte_unit_base.proofs.Computed.{rounded_up_is_least}
use Rattle.byte_unit_base.proofs.Rounding.{least_is_unique}
use Rattle.byte_unit_base.proofs.UnitReads.{unit_scan_is}
use Rattle.byte_unit_base.proofs.SizeReads.{size_scan_is}

-- the unit, and the number and unit, that the state machines give

-- the parser as a function gives exactly the unit that the input spells, or exactly its error
pub parsed_units_are_spelled : ParsedUnitsAreSpelled
unfolding parsed_unit
parsed_units_are_spelled flags bytes = reads (unit_scan_is flags) (trim_of bytes)

-- the parser as a function gives exactly the number and unit that the input represents, or exactly its error
pub parsed_numbers_are_represented : ParsedNumbersAreRepresented
unfolding parsed_number
parsed_numbers_are_represented flags bytes = reads (size_scan_is flags) (trim_of bytes)

-- the size, by the number and the unit

-- an input, `bytes`, in one reading
module _ (spec : ParseSpec) (bytes : List ℕ) where
  -- how it reads a unit
  abbrev flags : Flags
  flags = flags_for spec.kind spec.ignore_case

  -- the result is a size that is accepted, or the error of an input that is rejected
  abbrev Answers : Result ℕ Fault → Type 0
  Answers = IsAnswer (IsAcceptedAs spec current bytes)
      (IsRejectedAs spec current bytes)

  -- the result is a number and a unit of the input, by the grammar or in words, or the error of an input that is neither
  abbrev Measured : Result (ℕ × Shape) Fault → Type 0
  Measured = IsAnswer (λ found. IsMeasureAs spec current bytes found.0 found.1)
      (λ fault. IsSizeFault current flags (trim_of bytes) fault × (in_words spec (trim_of bytes) ≡ None))

  -- an error of the grammar stays the error if the input is no size in words
  measured : (words : Option (ℕ × Shape)) (r : Result (ℕ × Shape) Fault) → in_words spec (trim_of bytes) ≡ words
      → IsAnswer (Represents flags (trim_of bytes)) (IsSizeFault current flags (trim_of bytes)) r
      → Measured (or_in_words words r)
  measured words (Ok found) is h = inl h
  measured (Some found) (Err fault) is h = inr ((fault, h), is)
  measured None (Err fault) is h = (h, is)

  -- the parser as a function gives the number and the unit of the input
  parsed_measured : (number : ℕ) (unit : Shape) → IsMeasureAs spec current bytes number unit
      → parsed_measure spec bytes ≡ Ok (number, unit)
  unfolding parsed_number
  parsed_measured number unit =
      ⊎_elim
      (λ is. ap (or_in_words (in_words spec (trim_of bytes)))
      (reads_meaning (size_scan_is flags) (trim_of bytes) (number, unit) is))
      (λ is. ap₂ or_in_words is.1 (reads_fault (size_scan_is flags) (trim_of bytes) is.0.0 is.0.1))

  -- a number and unit give their size, rounded up, or the error if it is too large, and an error stays the error
  by_number : (r : Result (ℕ × Shape) Fault) → Measured r → Answers (size_of_parsed spec r)
  by_number (Ok found) h =
      let least = rounded_up_is_least spec.kind found.0 (unit_meant spec found.1) in
      let is_read : IsReadAs spec current bytes found.0 (rounded_up spec.kind found.0 (unit_meant spec found.1)) =
      record { unit = found.1; is_size = h; is_least = least } in
      cond_both (nat_lt (rounded_up spec.kind found.0 (unit_meant spec found.1)) size_limit) _ _ Answers
      (λ e. record { number = found.0; is_read = is_read; below = grind (arith, e) })
      (λ e. inl (found.0, refl, record { size = _; is_read = is_read; above = grind (arith, e) }))
  by_number (Err fault) h = inr h

  -- of an input that is this number, and this size when rounded up, the parser as a function gives the size, or the
  -- error if it is too large
  parsed_read : (number size : ℕ) → IsReadAs spec current bytes number size
      → parsed_size_as spec bytes ≡ size_within_limit number size
  unfolding parsed_size_as
  parsed_read number size h =
      let least = rounded_up_is_least spec.kind number (unit_meant spec h.unit) in
      ap (size_of_parsed spec) (parsed_measured number h.unit h.is_size)
      ∙ ap (size_within_limit number) (least_is_unique spec.kind number (unit_meant spec h.unit) _ size least h.is_least)

  -- the parser as a function gives exactly the size that is accepted, or exactly the error
  pub size_given : GivesAnswer ℕ (IsAcceptedAs spec current bytes)
      (IsRejectedAs spec current bytes) (parsed_size_as spec bytes)
  unfolding parsed_size_as parsed_number
  size_given =
      gives_answer
      (by_number _ (measured _ _ refl (reads_meaning_or_fault (size_scan_is flags) (trim_of bytes))))
      (λ n a. parsed_read a.number n a.is_read ∙ cond-true _ _ _ (lt-ltb n size_limit a.below))
      (λ fault. ⊎_elim
      (λ e. parsed_read e.0 e.2.size e.2.is_read
      ∙ (cond-false _ _ _ (le-ltb e.2.size size_limit e.2.above) ∙ ap Err (sym e.1)))
      (λ f. ap (size_of_parsed spec) (ap₂ or_in_words f.1 (reads_fault (size_scan_is flags) (trim_of bytes) fault f.0))))

  -- a parser that returns what the parser as a function gives returns exactly the size that is accepted, or the error
  pub size_reading : (r : Result ℕ ParseError)
      → result_map_both (λ n. n) size_fault r ≡ parsed_size_as spec bytes
      → IsReadingAs spec bytes r
  size_reading (Ok n) e =
      let one = one_of_given size_given in
      let accepted = (size_given.is_meaning n).0 (sym e) in
      record {
        found = accepted;
        reads = λ m a. ap Ok (one.one_meaning n m accepted a);
        exceeds = λ number x. absurd (one.not_both n (exceeded number) accepted (inl (number, refl, x)));
        fault = tt;
        computed = e;
      }
  size_reading (Err error) e =
      let one = one_of_given size_given in
      let rejected = (size_given.is_fault (size_fault error)).0 (sym e) in
      record {
        found = tt;
        reads = λ m a. absurd (one.not_both m (size_fault error) a rejected);
        exceeds = λ number x. one.one_fault (size_fault error) (exceeded number) rejected (inl (number, refl, x));
        fault = rejected;
        computed = e;
      }

-- the parser as a function gives exactly the size that is accepted, or exactly the error
pub parsed_sizes_are_accepted : ParsedSizesAreAccepted
parsed_sizes_are_accepted kind ignore_case bytes = size_given (parse_spec kind ignore_case false) bytes

-- what the parsed unit, number and size of a string are
pub ruleset parsed_texts = (parsed_units_are_spelled, parsed_numbers_are_represented, parsed_sizes_are_accepted)
