-- What is written for a size or a unit, and read as one.
use Rattle.std.specs.Prelude.{◌≡◌, ℕ, List, [], ◌∷◌, Option, Some, None, true, false}
use Rattle.serde.specs.Event.{Event, Log, Logs, text, nothing, seq_begins, seq_ends}
use Rattle.serde.specs.Steps.{Gives, Begins, Stays}
use Rattle.serde.specs.declared.deserializer.Deserializer.{Deserializer}
use Rattle.byte_unit.specs.Grammar.Version.{current, unit_name}
use Rattle.byte_unit.specs.Grammar.Units.{shape_of}
use Rattle.byte_unit.specs.Grammar.Spelling.{Spells, flags_of}
use Rattle.byte_unit.specs.Grammar.SizeText.{trim_of}
use Rattle.byte_unit.specs.Forms.{IsText}
use Rattle.byte_unit.specs.NamedSpecs.{alternate_spec}
use Rattle.byte_unit.specs.declared.Kind.{Kind}
use Rattle.byte_unit.specs.declared.Unit.{Unit as UnitName}

-- One string is written: a text of the size of this form.
abbrev pub WritesSizeAs : (ℕ → List ℕ → Type 0) → ℕ → Log → Log → Type 0
WritesSizeAs IsForm size old new = (form : List ℕ) × IsForm size form × Logs old new (text form)

-- One string is written: the text of the size with its unit.
abbrev pub WritesSize : Kind → ℕ → Log → Log → Type 0
WritesSize kind = WritesSizeAs (λ size. IsText kind size alternate_spec)

-- One string is written: the name of the unit.
abbrev pub WritesUnit : UnitName → Log → Log → Type 0
WritesUnit unit old new = Logs old new (text (unit_name unit))

-- The string, without the white space at its ends, spells the unit: `b` means bits, `B` bytes, and a prefix alone is a
-- multiple of bytes.
abbrev pub SpellsUnit : List ℕ → UnitName → Type 0
SpellsUnit bytes unit = Spells current (flags_of false true) (trim_of bytes) (shape_of unit)

-- The format gave a string that has this meaning.
abbrev pub ReadsValue :
    {A F E M : Type 0} → (List ℕ → A → Type 0) → (F → List ℕ → Event → F → Type 0)
    → Deserializer F E M → Deserializer F E M → A → Type 0
ReadsValue Means gives old new value = (bytes : List ℕ) × Means bytes value × Gives gives old (text bytes) new

-- The format gave nothing (`None`), or, perhaps after a look, a string that has this meaning.
abbrev pub ReadsOption :
    {A F E M : Type 0} → (List ℕ → A → Type 0) → (F → List ℕ → Event → F → Type 0) → (F → F → Type 0)
    → Deserializer F E M → Deserializer F E M → Option A → Type 0
ReadsOption Means gives stays old new None = Gives gives old nothing new
ReadsOption Means gives stays old new (Some value) =
    (bytes : List ℕ) × Means bytes value × Begins gives stays old (text bytes) new

-- The format gave, one after the other and each after a look, strings that have these meanings.
abbrev pub ReadsEach :
    {A F E M : Type 0} → (List ℕ → A → Type 0) → (F → List ℕ → Event → F → Type 0) → (F → F → Type 0)
    → Deserializer F E M → Deserializer F E M → List A → Type 0
ReadsEach Means gives stays old new [] = new ≡ old
ReadsEach {A} {F} {E} {M} Means gives stays old new (value ∷ values) =
    (looked next : Deserializer F E M) × Stays stays old looked × ReadsValue Means gives looked next value
    × ReadsEach Means gives stays next new values

-- The format gave a sequence of strings that have these meanings, from its beginning to its end.
abbrev pub ReadsSeq :
    {A F E M : Type 0} → (List ℕ → A → Type 0) → (F → List ℕ → Event → F → Type 0) → (F → F → Type 0)
    → Deserializer F E M → Deserializer F E M → List A → Type 0
ReadsSeq {A} {F} {E} {M} Means gives stays old new values =
    (first last : Deserializer F E M) × Gives gives old (seq_begins None) first
    × ReadsEach Means gives stays first last values × Gives gives last seq_ends new
