-- The messages about fields, for standard error.
use Rattle.std.specs.Prelude.{◌≡◌, ℕ, Bool, true, false, IfSome, MatchBool, List, [], ◌∷◌, ◌++◌, Option, Some, None}
use Rattle.std.specs.Prelude.{codes, if◌then◌else◌}
use Rattle.std.specs.Fmt.{decimal}
use Rattle.std.specs.Str.{IsUtf8}
use Rattle.byte_unit.specs.Errors.Position.{location_words}
use Rattle.byte_unit.specs.Errors.Text.{parse_text}
use Rattle.byte_unit_base.specs.Errors.Quoted.{quote}
use Rattle.byte_unit_base.specs.Errors.Hints.{hint_of, hint_text}
use Rattle.byte_unit_base.specs.Grammar.SizeText.{trim_of}
use Rattle.byte_unit_base.specs.declared.hint.Hint.{Hint}
use Rattle.byte_unit_base.specs.declared.errors.LocatedError.{LocatedError}
use Rattle.byte_unit_base.specs.declared.errors.Location.{Location}
use Rattle.byte_unit_base.specs.declared.errors.Location.TheVariants.{Whole}
use Rattle.byte_unit_command.specs.Field.{IsSizeError, without_suffix}
use Rattle.byte_unit_command.specs.State.{Context}
use Rattle.byte_unit_command.specs.Sums.{is_above, is_below}
use Rattle.byte_unit_command.specs.declared.notice.FieldError.{FieldError}
use Rattle.byte_unit_command.specs.declared.notice.FieldError.TheVariants.{NotUtf8, Rejected, Above, Below}
use Rattle.byte_unit_command.specs.declared.options.Invalid.{Invalid}
use Rattle.byte_unit_command.specs.declared.options.Invalid.TheVariants.{Abort, Fail, Warn, Ignore}
use Rattle.byte_unit_command.specs.declared.options.Options.{Options}
use Rattle.byte_unit_command.specs.declared.options.Separator.{Separator}

-- the words for an error of the parser: the message that the library has for it, and its location; where the library's
-- contract says nothing of its message, since it quotes a character that is not ASCII, nothing is said of that
abbrev pub AreErrorWords : LocatedError → List ℕ → Type 0
AreErrorWords e words =
    (message : List ℕ) × IfSome (parse_text e.error) (λ text. message ≡ text)
    × (words ≡ message ++ location_words e.location)

-- the hint for a text that is told; none if only the size is too large, which has no place
abbrev pub told_hint : Options → Location → List ℕ → Option Hint
told_hint options Whole text = None
told_hint options _ text = if options.hints then hint_of (trim_of text) else None

-- the words of a hint, after those for the error
abbrev pub hint_words : Option Hint → List ℕ
hint_words None = []
hint_words (Some hint) = codes "; hint: " ++ hint_text hint

-- the words for a reason
abbrev pub AreWords : FieldError → List ℕ → Type 0
AreWords NotUtf8 words = words ≡ codes "not UTF-8"
AreWords (Rejected e hint) words =
    (message : List ℕ) × AreErrorWords e message × (words ≡ message ++ hint_words hint)
AreWords Above words = words ≡ codes "above the maximum"
AreWords Below words = words ≡ codes "below the minimum"

-- the number of the field, if fields are separated
abbrev pub field_text : Option Separator → ℕ → List ℕ
field_text None number = []
field_text (Some separator) number = codes "field " ++ decimal number ++ codes ": "

-- what a record is called, and its number
abbrev pub record_text : Context → List ℕ
record_text context = codes "byte-unit: " ++ (context.word ++ (codes " " ++ (decimal context.number ++ codes ": ")))

-- a field or a value in quotes, with a colon after it
abbrev pub quoted_text : List ℕ → List ℕ
quoted_text field = codes "'" ++ quote field ++ codes "': "

-- the beginning of a message about the field with this number
abbrev pub heading_text : Context → ℕ → List ℕ
heading_text context number = record_text context ++ field_text context.options.separator number

-- a message about the field with this number, in the record with this context
abbrev pub IsFieldMessage : Context → ℕ → List ℕ → FieldError → List ℕ → Type 0
IsFieldMessage context number field reason text =
    (words : List ℕ) × AreWords reason words
    × (text ≡ heading_text context number ++ quoted_text field ++ words ++ 10 ∷ [])

-- such a message if it is told, and else nothing
abbrev pub IsMessageIf : Bool → Context → ℕ → List ℕ → FieldError → List ℕ → Type 0
IsMessageIf told context number field reason text =
    MatchBool told (IsFieldMessage context number field reason text) (text ≡ [])

-- the messages about a size: that it is above the maximum, and that it is below the minimum
abbrev pub AreLimitMessages : Context → ℕ → List ℕ → ℕ → List ℕ → Type 0
AreLimitMessages context number field size text =
    (above below : List ℕ) × IsMessageIf (is_above context.options.max size) context number field Above above
    × IsMessageIf (is_below context.options.min size) context number field Below below × (text ≡ above ++ below)

-- this is the reason why the field is not a size, with the location of the error in its text, and its hint
abbrev pub IsFieldError : Options → List ℕ → FieldError → Type 0
IsFieldError options field NotUtf8 = ¬ IsUtf8 (without_suffix options.suffix.now field)
IsFieldError options field (Rejected e hint) =
    let text = without_suffix options.suffix.now field in
    IsUtf8 text × IsSizeError options.spec text e × (hint ≡ told_hint options e.location text)
IsFieldError options field _ = ⊥

-- whether rejected fields are told
abbrev pub tells_rejected : Invalid → Bool
tells_rejected Abort = true
tells_rejected Fail = true
tells_rejected Warn = true
tells_rejected Ignore = false

-- the message about a field that is not a size, with the reason, if rejected fields are told
abbrev pub IsRejectMessage : Context → ℕ → List ℕ → List ℕ → Type 0
IsRejectMessage context number field text =
    MatchBool (tells_rejected context.options.invalid)
    ((reason : FieldError) × IsFieldError context.options field reason
    × IsFieldMessage context number field reason text) (text ≡ [])
