-- The law of sizes in words. An input is given by its UTF-8 bytes.
use Rattle.std.specs.Prelude.{ℕ, true, false, List}
use Rattle.byte_unit_base.specs.Grammar.Version.{current}
use Rattle.byte_unit_base.specs.Reading.ParseSpec.{ParseSpec, with_words}
use Rattle.byte_unit_base.specs.Sizes.Accepted.{IsAcceptedAs}

-- law: an input that is accepted without words is accepted as the same size where words are read
abbrev pub WordsChangeNoAcceptedText : Type 0
WordsChangeNoAcceptedText =
    (spec : ParseSpec) (bytes : List ℕ) (n : ℕ) → IsAcceptedAs (with_words false spec) current bytes n
    → IsAcceptedAs (with_words true spec) current bytes n
