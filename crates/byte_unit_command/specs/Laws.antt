-- Laws of the texts of sizes: what is formatted can be read again; and of totals.
use Rattle.std.specs.Prelude.{◌≡◌, ℕ, ◌+◌, ◌*◌, ◌<◌, ⊤, true, min, List, ◌++◌, replicate, Some}
use Rattle.byte_unit.specs.Sizes.Accepted.{IsAcceptedAs}
use Rattle.byte_unit.specs.Bounds.{size_limit}
use Rattle.byte_unit.specs.Grammar.Version.{current}
use Rattle.byte_unit_command.specs.Field.{Found, without_suffix}
use Rattle.byte_unit_command.specs.Formatted.{IsFormatted}
use Rattle.byte_unit_command.specs.Sums.{tally_of}
use Rattle.byte_unit_command.specs.declared.options.Form.{Form}
use Rattle.byte_unit_command.specs.declared.options.Form.TheVariants.{Exact, Plain, InUnit, NumberOf, Largest}
use Rattle.byte_unit_command.specs.declared.options.Options.{Options}

-- the form states each size exactly: the exact form and digits do
abbrev pub IsLossless : Form → Type 0
IsLossless Exact = ⊤
IsLossless Plain = ⊤
IsLossless (InUnit unit) = ⊥
IsLossless (NumberOf unit) = ⊥
IsLossless (Largest unit_type) = ⊥

-- the text is parsed as this size by a run with these options
abbrev pub IsParsedBy : Options → List ℕ → ℕ → Type 0
IsParsedBy options text size =
    IsAcceptedAs options.spec current (without_suffix options.suffix.now text) size

-- law: a size formatted in the exact form or as digits, without padding, is parsed as that size by a run with
-- any options of the same kind and suffix, unless decimal prefixes mean binary ones in that run alone. So nothing is
-- lost by `--to=plain` and then `--to=exact`
abbrev pub FormattedSizesAreRead : Type 0
FormattedSizesAreRead =
    (options others : Options) (size : ℕ) (text : List ℕ) → size < size_limit → IsLossless options.form
    → options.width ≡ 0 → others.spec.kind ≡ options.spec.kind → others.suffix.now ≡ options.suffix.now
    → (others.spec.binary ≡ true → options.spec.binary ≡ true) → IsFormatted options size text
    → IsParsedBy others text size

-- law: if a size formatted in the exact form, without padding, is parsed and formatted so once more, the text is the
-- same. So a second run of `--to=exact` changes nothing, whatever prefixes mean
abbrev pub ExactTwiceIsOnce : Type 0
ExactTwiceIsOnce =
    (options : Options) (size : ℕ) (text : List ℕ) → size < size_limit → options.form ≡ Exact → options.width ≡ 0
    → IsFormatted options size text → (again : ℕ) (text_again : List ℕ)
    → IsParsedBy options text again → IsFormatted options again text_again → text_again ≡ text

-- law: fields of the same size raise the total by their number times the size, or up to 10^30
abbrev pub TotalsAddUp : Type 0
TotalsAddUp =
    (options : Options) (found : List Found) (count size : ℕ)
    → (tally_of options (found ++ replicate count (Some size))).total
    ≡ min ((tally_of options found).total + count * size) size_limit
