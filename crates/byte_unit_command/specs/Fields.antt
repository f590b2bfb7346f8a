-- The fields of a record.
use Rattle.std.specs.Prelude.{◌≡◌, ℕ, ◌+◌, ◌-◌, ◌<◌, ◌≤◌, Bool, false, not, ◌&&◌, ◌||◌, cond, nat_lt, List, [], ◌∷◌}
use Rattle.std.specs.Prelude.{◌==◌, length, take, drop, Option, None, Some}
use Rattle.std.specs.List.{onto_first, slice_split}
use Rattle.byte_unit_command.specs.declared.options.Options.{Options}
use Rattle.byte_unit_command.specs.declared.options.Separator.{Separator}
use Rattle.byte_unit_command.specs.declared.options.Separator.TheVariants.{Byte, Blanks}

-- whether a byte is a blank: a space or a tab
abbrev pub is_blank : ℕ → Bool
is_blank byte = (byte == 32) || (byte == 9)

-- whether bytes begin with a blank
abbrev pub begins_blank : List ℕ → Bool
begins_blank [] = false
begins_blank (byte ∷ bytes) = is_blank byte

-- the fields of a record between blanks, each with the blanks before it: the record is cut before each blank that
-- follows another byte. Blanks at the end are a field of their own
abbrev pub blank_fields : List ℕ → List (List ℕ)
blank_fields [] = [] ∷ []
blank_fields (byte ∷ bytes) =
    cond (not (is_blank byte) && begins_blank bytes) ((byte ∷ []) ∷ blank_fields bytes)
    (onto_first byte (blank_fields bytes))

-- the fields of a record: the record itself if nothing separates them; the subslices between the bytes that do, empty
-- ones included; or those between blanks
abbrev pub fields_by : Option Separator → List ℕ → List (List ℕ)
fields_by None record_bytes = record_bytes ∷ []
fields_by (Some (Byte mark)) record_bytes = slice_split (λ byte. byte == mark) record_bytes
fields_by (Some Blanks) record_bytes = blank_fields record_bytes

-- the fields of a record by the options
abbrev pub fields_of : Options → List ℕ → List (List ℕ)
fields_of options record_bytes = fields_by options.separator record_bytes

-- the bytes between two fields: none between blanks, since a field has those before it
abbrev pub between_by : Option Separator → List ℕ
between_by None = []
between_by (Some (Byte mark)) = mark ∷ []
between_by (Some Blanks) = []

-- the bytes between two fields by the options
abbrev pub between_of : Options → List ℕ
between_of options = between_by options.separator

-- the first field has this number of bytes, and others follow after the bytes between two fields
abbrev pub EndsFirst : Option Separator → List ℕ → ℕ → Type 0
EndsFirst separator bytes n =
    let next = n + length (between_by separator) in
    (0 < next) × (next ≤ length bytes)
    × (fields_by separator bytes ≡ take n bytes ∷ fields_by separator (drop next bytes))

-- between blanks, the one that separates a field from the field before it
abbrev pub separating_blank_by : Option Separator → ℕ → List ℕ → List ℕ
separating_blank_by (Some Blanks) number field = cond (nat_lt 1 number) (take 1 field) []
separating_blank_by _ number field = []

-- the blank that separates a field from the field before it, by the options
abbrev pub separating_blank : Options → ℕ → List ℕ → List ℕ
separating_blank options number field = separating_blank_by options.separator number field

-- the columns of a field between blanks: its bytes but the blank that separates it. A first field has none if no blank
-- is before it
abbrev pub columns_of : ℕ → List ℕ → ℕ
columns_of number field = cond (nat_lt 1 number) (length field - 1) (cond (begins_blank field) (length field) 0)

-- the least number of columns of a size that replaces a field: that of the options; without one, and between blanks,
-- the columns of the field
abbrev pub columns_by : Option Separator → ℕ → ℕ → List ℕ → ℕ
columns_by (Some Blanks) width number field = cond (width == 0) (columns_of number field) width
columns_by _ width number field = width

-- the least number of columns of a size in place of this field, by the options
abbrev pub columns_in : Options → ℕ → List ℕ → ℕ
columns_in options number field = columns_by options.separator options.width number field
