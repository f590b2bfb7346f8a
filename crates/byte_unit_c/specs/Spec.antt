-- Format specs in the C API.
use Rattle.std.specs.Prelude.{ℕ, ◌==◌, nat_lt, Bool, true, false, if◌then◌else◌, List, [], ◌∷◌, slice_get}
use Rattle.std.specs.Prelude.{Option, Some, None, option_map}
use Rattle.byte_unit_format.specs.declared.spec.Sign.{Sign}
use Rattle.byte_unit_format.specs.declared.spec.Sign.TheVariants.{Unset, Plus, Minus}
use Rattle.byte_unit_format.specs.declared.spec.Align.{Align}
use Rattle.byte_unit_format.specs.declared.spec.Align.TheVariants.{Left, Center, Right}
use Rattle.byte_unit_format.specs.declared.spec.FormatSpec.{FormatSpec}
use Rattle.byte_unit_c.specs.declared.spec.Spec.{Spec}

-- the signs, in the order of their codes
abbrev pub signs : List Sign
signs = Unset ∷ Plus ∷ Minus ∷ []

-- the alignments, in the order of their codes; 0 is unset
abbrev pub aligns : List (Option Align)
aligns = None ∷ Some Left ∷ Some Center ∷ Some Right ∷ []

-- the values of a switch, in the order of their codes
abbrev pub switches : List Bool
switches = false ∷ true ∷ []

-- a number of 16 bits
abbrev pub short : ℕ → Option ℕ
short n = if nat_lt n 65536 then Some n else None

-- the precision, by whether there is one; if there is none, its number has to be 0
abbrev pub precision_at : ℕ → ℕ → Option (Option ℕ)
precision_at has n =
    if has == 0 then (if n == 0 then Some None else None)
    else if has == 1 then option_map Some (short n)
    else None

-- the width; unset if it is 0
abbrev pub width_at : ℕ → Option (Option ℕ)
width_at n = if n == 0 then Some None else option_map Some (short n)

-- the spec with these fields, if each of them is valid
abbrev pub spec_of : Option Bool → Option Sign → Option (Option ℕ) → Option (Option ℕ) → Option (Option Align)
    → Option FormatSpec
spec_of (Some alternate) (Some sign) (Some precision) (Some width) (Some align) =
    Some (record { alternate = alternate; sign = sign; precision = precision; width = width; align = align })
spec_of _ _ _ _ _ = None

-- the spec, if each of its fields is valid
abbrev pub spec_at : Spec → Option FormatSpec
spec_at s =
    spec_of (slice_get switches s.alternate) (slice_get signs s.sign) (precision_at s.has_precision s.precision)
    (width_at s.width) (slice_get aligns s.align)
