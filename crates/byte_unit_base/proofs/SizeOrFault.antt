-- Each input is accepted as one size, or rejected with one error, in each reading.
--
-- Of a size `e` that is too large, `e.0` is the number, and the last part that its size is too large.
use Rattle.std.proofs.Common.{◌≡◌, ℕ, List, None, inl, inr, ⊎_elim, refl}
use Rattle.byte_unit_base.specs.Grammar.Version.{current}
use Rattle.byte_unit_base.specs.Errors.Fault.{exceeded}
use Rattle.byte_unit_base.specs.Grammar.SizeText.{trim_of}
use Rattle.byte_unit_base.specs.Reading.Words.{in_words}
use Rattle.byte_unit_base.specs.Sizes.Kinds.{flags_for}
use Rattle.byte_unit_base.specs.Reading.ParseSpec.{ParseSpec}
use Rattle.byte_unit_base.specs.Sizes.Accepted.{IsAcceptedAs, ExceedsAs, HasFault, IsRejectedAs}
use Rattle.byte_unit_base.specs.Laws.Sizes.{IsOneOfThree}
use Rattle.byte_unit_base.specs.Laws.Readers.{IsOneAnswer}
use Rattle.byte_unit_base.proofs.Scans.{one_of_given}
use Rattle.byte_unit_base.proofs.SizeReads.{no_bounds_after}
use Rattle.byte_unit_base.proofs.ParsedTexts.{size_given}

-- an input, `text`, in one reading
module _ (spec : ParseSpec) (text : List ℕ) where
  -- an input is accepted as one size, or rejected with one error
  pub accepted_or_refused : IsOneAnswer ℕ (IsAcceptedAs spec current text)
      (IsRejectedAs spec current text)
  accepted_or_refused = one_of_given (size_given spec text)

  -- an input whose size is too large is rejected
  excess : (number : ℕ) → ExceedsAs spec current text number
      → IsRejectedAs spec current text (exceeded number)
  excess number e = inl (number, refl, e)

  -- an input that is no size in words is accepted as one size, or its size is too large, or it has one error
  pub one_of_three : in_words spec (trim_of text) ≡ None → IsOneOfThree (IsAcceptedAs spec current text)
      (ExceedsAs spec current text)
      (HasFault spec.kind spec.ignore_case text)
  one_of_three none =
      let one = accepted_or_refused in
      record {
        some = ⊎_elim (λ a. inl a) (λ r. inr (⊎_elim (λ e. inl (e.0, e.2)) (λ f. inr (r.0, f.0)) r.1)) one.some;
        one_size = one.one_meaning;
        one_number = λ number other a b.
            let same = one.one_fault (exceeded number) (exceeded other) (excess number a) (excess other b) in cc;
        one_fault = λ fault other f g. one.one_fault fault other (inr (f, none)) (inr (g, none));
        no_excess = λ n number a e. one.not_both n (exceeded number) a (excess number e);
        no_fault = λ n fault a f. one.not_both n fault a (inr (f, none));
        no_fault_of_excess = λ number fault e f.
            no_bounds_after (flags_for spec.kind spec.ignore_case) f.rest f.parser_state fault number f.fault_is
            (one.one_fault fault (exceeded number) (inr (f, none)) (excess number e));
      }
