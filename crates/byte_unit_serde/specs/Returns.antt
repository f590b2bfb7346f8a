-- What a function returns, by what the calls of a format returned. `D` is what a format is read from or written to, and
-- `E` is the error of the format.
use Rattle.std.specs.Prelude.{◌≡◌, ◌⊎◌, ℕ, List, length, Bool, MatchBool, Option, Some, None, Result, Ok, Err, MatchResult, true, false, [], ◌∷◌, IsUtf8}
use Rattle.std.specs.Result.{result_map_both}
use Rattle.serde.specs.Event.{Event, seq_begins}
use Rattle.serde.specs.Steps.{Gives, Stays}
use Rattle.serde.specs.declared.deserializer.Deserializer.{Deserializer}
use Rattle.byte_unit.specs.Errors.Meaning.{size_fault, unit_fault}
use Rattle.byte_unit.specs.Reading.Results.{IsUnitReading}
use Rattle.byte_unit.specs.Grammar.Spelling.{flags_of}
use Rattle.byte_unit.specs.Forms.{IsText}
use Rattle.byte_unit.specs.NamedSpecs.{alternate_spec}
use Rattle.byte_unit.specs.declared.Kind.{Kind}
use Rattle.byte_unit.specs.declared.ParseError.{ParseError}
use Rattle.byte_unit.specs.declared.Unit.{Unit as UnitName}
use Rattle.byte_unit.specs.declared.UnitParseError.{UnitParseError}
use Rattle.byte_unit_serde.specs.Messages.{IsMessage, reason_of}
use Rattle.byte_unit_serde.specs.Serialized.{ReadsValue, ReadsEach}

-- A relation of what is read or written before a call, of what the call returns, and of what is read or written after
-- it.
abbrev pub Returns : Type 0 → Type 0 → Type 0 → Type 1
Returns D A E = D → Result A E → D → Type 0

-- This value is returned, without a call.
abbrev pub Returning : {D E A : Type 0} → A → Returns D A E
Returning value old result new = (result ≡ Ok value) × (new ≡ old)

-- What the first call returned is passed on; its error is returned as it is.
abbrev pub AndThen :
    {D E A B : Type 0} → Returns D A E → (A → Returns D B E) → Returns D B E
AndThen {D} {E} {A} first rest old result new =
    (got : Result A E) × (between : D) × first old got between × MatchResult got
    (λ value. rest value between result new)
    (λ error. (result ≡ Err error) × (new ≡ between))

-- What the call returned is converted; its error is returned as it is.
abbrev pub Converting : {D E A B : Type 0} → Returns D A E → (A → D → Result B E → Type 0) → Returns D B E
Converting {D} {E} {A} call Converts old result new =
    (got : Result A E) × call old got new
    × MatchResult got (λ value. Converts value new result) (λ error. result ≡ Err error)

-- The string that the format gives is parsed in this way: its value is returned, or the error that is made of a message
-- with the reason and the string.
abbrev pub ReadingValue :
    {D E A : Type 0} → (List ℕ → Result A (List ℕ) → Type 0) → Returns D (List ℕ) E → (D → List ℕ → E → Type 0)
    → Returns D A E
ReadingValue {D} {E} {A} Parses string_returns rejects = Converting string_returns (λ bytes from result.
    (parsed : Result A (List ℕ)) × Parses bytes parsed × MatchResult parsed
    (λ value. result ≡ Ok value)
    (λ reason. (message : List ℕ) × (error : E) × IsMessage reason bytes message × rejects from message error
    × (result ≡ Err error)))

-- A string is parsed as a size in this way; an error is its reason.
abbrev pub ParsesSize : (List ℕ → Result ℕ ParseError → Type 0) → List ℕ → Result ℕ (List ℕ) → Type 0
ParsesSize Reads bytes parsed = (reading : Result ℕ ParseError) × Reads bytes reading
    × (parsed ≡ result_map_both (λ size. size) (λ error. reason_of (size_fault error)) reading)

-- A string is parsed as a unit; an error is its reason.
abbrev pub ParsesUnit : List ℕ → Result UnitName (List ℕ) → Type 0
ParsesUnit bytes parsed = (reading : Result UnitName UnitParseError) × IsUnitReading (flags_of false true) bytes reading
    × (parsed ≡ result_map_both (λ unit. unit) (λ error. reason_of (unit_fault error)) reading)

-- `None` is returned if the format gives nothing, and else what is read.
abbrev pub ReadingOption :
    {D E A : Type 0} → Returns D Bool E → Returns D A E → Returns D (Option A) E
ReadingOption none_returns ReadingItem = AndThen none_returns (λ is_none old result new. MatchBool is_none
    (Returning None old result new)
    (Converting ReadingItem (λ value from read. read ≡ Ok (Some value)) old result new))

-- The error of a sequence: the format's own error at its beginning, or, after the values that were read, the format's
-- own error at the next item, that of reading the item, or that of a failed allocation after it was read.
abbrev pub IsListError :
    {A F E M : Type 0} → (List ℕ → A → Type 0) → (F → List ℕ → Event → F → Type 0) → (F → F → Type 0)
    → Returns (Deserializer F E M) Unit E → Returns (Deserializer F E M) Bool E
    → Returns (Deserializer F E M) A E → (Deserializer F E M → E → Type 0)
    → Deserializer F E M → Deserializer F E M → E → Type 0
IsListError {A} {F} {E} {M} Means gives stays begin_returns next_returns ReadingItem runs_out old new error =
    begin_returns old (Err error) new
    ⊎ ((first last : Deserializer F E M) × (values : List A) × Gives gives old (seq_begins None) first
    × ReadsEach Means gives stays first last values
    × (next_returns last (Err error) new
    ⊎ ((looked : Deserializer F E M) × Stays stays last looked × ReadingItem looked (Err error) new)
    ⊎ ((looked : Deserializer F E M) × (value : A) × Stays stays last looked
    × ReadsValue Means gives looked new value × runs_out new error)))

-- A string of the size of this form is written.
abbrev pub WritingSizeAs :
    {S E : Type 0} → (ℕ → List ℕ → Type 0) → (List ℕ → Returns S Unit E) → ℕ → Returns S Unit E
WritingSizeAs IsForm str_returns size old result new =
    (form : List ℕ) × IsForm size form × (IsUtf8 form → str_returns form old result new)

-- The string of the size is written: its text with a unit.
abbrev pub WritingSize : {S E : Type 0} → Kind → (List ℕ → Returns S Unit E) → ℕ → Returns S Unit E
WritingSize kind = WritingSizeAs (λ size. IsText kind size alternate_spec)

-- The value is written, or nothing for `None`.
abbrev pub WritingOption :
    {S E A : Type 0} → Returns S Unit E → (A → Returns S Unit E) → Option A → Returns S Unit E
WritingOption none_returns Writing None = none_returns
WritingOption none_returns Writing (Some value) = Writing value

-- The values are written, one after the other, and then `end` is called.
abbrev pub WritingEach : {S E A : Type 0} → (A → Returns S Unit E) → Returns S Unit E → List A → Returns S Unit E
WritingEach Writing end_returns [] = end_returns
WritingEach Writing end_returns (value ∷ values) =
    AndThen (Writing value) (λ done. WritingEach Writing end_returns values)

-- A sequence of the values is written, with their number at its beginning.
abbrev pub WritingList :
    {S E A : Type 0} → (ℕ → Returns S Unit E) → Returns S Unit E → (A → Returns S Unit E) → List A
    → Returns S Unit E
WritingList begin_returns end_returns Writing values =
    AndThen (begin_returns (length values)) (λ done. WritingEach Writing end_returns values)
