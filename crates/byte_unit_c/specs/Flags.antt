-- The flags words of the C API: sums of 1 (bits), 2 (ignore case), 4 (units of either kind), 8 (decimal prefixes are
-- binary), 16 (words for units are read).
use Rattle.std.specs.Prelude.{ℕ, ◌-◌, ◌==◌, nat_lt, Bool, true, false, if◌then◌else◌, [], ◌∷◌, Option, Some, None}
use Rattle.std.specs.Prelude.{slice_get}
use Rattle.std.specs.Option.{option_map}
use Rattle.byte_unit_base.specs.Reading.ParseSpec.{parse_spec, with_words}
use Rattle.byte_unit_base.specs.declared.kind.Kind.{Kind}
use Rattle.byte_unit_base.specs.declared.kind.Kind.TheVariants.{Byte as InBytes, Bit as InBits}
use Rattle.byte_unit_base.specs.declared.spec.ParseSpec.{ParseSpec}
use Rattle.byte_unit_c.specs.declared.flags.ChoiceFlags.{ChoiceFlags}

-- the kind of sizes: bytes with no flag, bits with the flag 1; `None` with any other flag
abbrev pub kind_at : ℕ → Option Kind
kind_at flags = slice_get (InBytes ∷ InBits ∷ []) flags

-- how a parsing call reads a size, by the flags 1 and 2; `None` with any other flag
abbrev pub parse_spec_at : ℕ → Option ParseSpec
parse_spec_at flags =
    slice_get
    (parse_spec InBytes false false ∷ parse_spec InBits false false
    ∷ parse_spec InBytes true false ∷ parse_spec InBits true false ∷ [])
    flags

-- how a parsing call reads a size if decimal prefixes mean binary ones, by the flag 8 and the flags 1 and 2 beside it;
-- `None` without the flag 8, or with any other flag
abbrev pub binary_spec_at : ℕ → Option ParseSpec
binary_spec_at flags =
    if nat_lt flags 8 then None
    else option_map (λ spec. parse_spec spec.kind spec.ignore_case true) (parse_spec_at (flags - 8))

-- how a call reads a size without words, that takes the flag 8 or not
abbrev pub plain_spec_at : ℕ → Option ParseSpec
plain_spec_at flags = if nat_lt flags 8 then parse_spec_at flags else binary_spec_at flags

-- how a call reads a size if words are read, by the flag 16 and any of the others beside it; `None` without the flag
-- 16, or with any other flag
abbrev pub words_spec_at : ℕ → Option ParseSpec
words_spec_at flags = if nat_lt flags 16 then None else option_map (with_words true) (plain_spec_at (flags - 16))

-- how a call reads a size that takes the flags 8 and 16 or not
abbrev pub any_spec_at : ℕ → Option ParseSpec
any_spec_at flags = if nat_lt flags 16 then plain_spec_at flags else words_spec_at flags

-- how a unit is chosen, by the flags 1 and 4; `None` with any other flag
unfoldable pub choice_flags_at : ℕ → Option ChoiceFlags
choice_flags_at flags =
    if flags == 0 then Some (record { kind = InBytes; of_either = false })
    else if flags == 1 then Some (record { kind = InBits; of_either = false })
    else if flags == 4 then Some (record { kind = InBytes; of_either = true })
    else if flags == 5 then Some (record { kind = InBits; of_either = true })
    else None

-- whether a unit with no suffix is of bytes: it is of the kind of sizes
abbrev pub prefers_byte : Kind → Bool
prefers_byte InBytes = true
prefers_byte InBits = false
