-- Lemmas: what the parser has returned for a field.
use Rattle.std.proofs.Common.{◌≡◌, List, ℕ, Bool, Option, Some, Result, Err, ap, inr, subst, sym, ◌∙◌, IsUtf8}
use Rattle.byte_unit.specs.Reading.ParseSpec.{parse_spec, with_words}
use Rattle.byte_unit.specs.Reading.Results.{IsBytesReadingAs, IsReadingAs}
use Rattle.byte_unit.specs.declared.Kind.{Kind}
use Rattle.byte_unit.specs.declared.ParseError.{ParseError}
use Rattle.byte_unit.specs.declared.ParseSpec.{ParseSpec}
use Rattle.byte_unit_command.specs.Field.{IsNoSizeBy}

-- a reading with the kind and prefixes of another, and words as it has them, is the other
pub same_spec : (spec : ParseSpec) (kind : Kind) (binary words : Bool) → spec.kind ≡ kind → spec.binary ≡ binary
    → spec.words ≡ words → with_words words (parse_spec kind spec.ignore_case binary) ≡ spec
same_spec spec kind binary words kind_is binary_is words_is =
    ap (λ kind. with_words words (parse_spec kind spec.ignore_case binary)) (sym kind_is)
    ∙ ap (λ binary. with_words words (parse_spec spec.kind spec.ignore_case binary)) (sym binary_is)
    ∙ ap (λ words. with_words words (parse_spec spec.kind spec.ignore_case spec.binary)) (sym words_is)

-- the result that is in `Some` is that of a string
pub reading-of : (spec : ParseSpec) (field : List ℕ) {answer : Option (Result ℕ ParseError)}
    {found result : Result ℕ ParseError} → answer ≡ Some found → found ≡ result → IsBytesReadingAs spec field answer
    → IsUtf8 field × IsReadingAs spec field result
reading-of spec field answer_is found_is reading =
    subst (λ found. IsUtf8 field × IsReadingAs spec field found) found_is
    (subst (IsBytesReadingAs spec field) answer_is reading)

-- a field with an error is no size
pub no-size-of : (spec : ParseSpec) (field : List ℕ) {answer : Option (Result ℕ ParseError)}
    {found : Result ℕ ParseError} {error : ParseError} → answer ≡ Some found → found ≡ Err error
    → IsBytesReadingAs spec field answer → IsNoSizeBy spec field
no-size-of spec field answer_is found_is reading =
    let read = reading-of spec field answer_is found_is reading in
    inr (read.0, (_, read.1.fault))
