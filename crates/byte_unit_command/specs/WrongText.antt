-- The message about a wrong option.
use Rattle.std.specs.Prelude.{◌≡◌, ℕ, List, [], ◌++◌, Option, None, Some, IfSome, codes}
use Rattle.std.specs.Borrow.{Bor}
use Rattle.byte_unit.specs.Errors.Text.{unit_text}
use Rattle.byte_unit_command.specs.Messages.{AreErrorWords, quoted_text}
use Rattle.byte_unit_command.specs.declared.wrong.ValueError.{ValueError}
use Rattle.byte_unit_command.specs.declared.wrong.ValueError.TheVariants.{Unit as UnitFault, Blank, NoUnit, Precision}
use Rattle.byte_unit_command.specs.declared.wrong.ValueError.TheVariants.{From, Delimiter, NoDelimiter, Fields, Padding}
use Rattle.byte_unit_command.specs.declared.wrong.ValueError.TheVariants.{Mode, Size}
use Rattle.byte_unit_command.specs.declared.wrong.Wrong.{Wrong}

-- the words for a reason. An error of the library has its message; where the library's contract says nothing of that,
-- since it quotes a character that is not ASCII, nothing is said
abbrev pub AreReasonWords : ValueError → List ℕ → Type 0
AreReasonWords (UnitFault error) words =
    IfSome (unit_text error) (λ text. words ≡ codes "not a form or a unit: " ++ text)
AreReasonWords Blank words = words ≡ codes "not a form or a unit"
AreReasonWords From words = words ≡ codes "not auto, si, iec or iec-i"
AreReasonWords NoUnit words = words ≡ codes "needs --to=plain or --to with a unit, such as --to=MiB"
AreReasonWords Precision words = words ≡ codes "above 28 in the form exact"
AreReasonWords Delimiter words = words ≡ codes "not one character of one byte"
AreReasonWords NoDelimiter words = words ≡ codes "needs -d or --blanks, by which fields are separated"
AreReasonWords Fields words = words ≡ codes "not a list of fields"
AreReasonWords Padding words = words ≡ codes "not a number from 1 to 65535, or its negative"
AreReasonWords Mode words = words ≡ codes "not abort, fail, warn or ignore"
AreReasonWords (Size error) words = AreErrorWords error words

-- the value of an option as a field is quoted, or nothing if there is no value to tell
abbrev pub quoted_value : Option (Bor (List ℕ)) → List ℕ
quoted_value None = []
quoted_value (Some value) = quoted_text value.now

-- the message, without its line end: the option, its value, and the words for the reason
abbrev pub IsWrongMessage : Wrong → List ℕ → Type 0
IsWrongMessage wrong message =
    (words : List ℕ) × AreReasonWords wrong.reason words
    × (message ≡ wrong.option.now ++ codes ": " ++ quoted_value wrong.value ++ words)
