-- Private: what the parser of an adjusted size returns, as a function that a proof can compute for a literal.
use Rattle.std.specs.Prelude.{ℕ, ◌*◌, false, List, [], ◌∷◌, Result, if◌then◌else◌, nat_le}
use Rattle.std.specs.Result.{result_map_both}
use Rattle.byte_unit_base.specs.Grammar.Shape.{Shape, bits}
use Rattle.byte_unit_base.specs.Grammar.Units.{unit_of_shape}
use Rattle.byte_unit_base.specs.Errors.Fault.{Fault}
use Rattle.byte_unit_base.specs.Sizes.Kinds.{bits_in, own_unit}
use Rattle.byte_unit_choice.specs.Family.{own_family}
use Rattle.byte_unit_choice.specs.Multiples.{units_of_prefixes, prefix_count}
use Rattle.byte_unit_base.specs.Reading.Parsed.{parsed_size}
use Rattle.byte_unit_choice.specs.AdjustedSize.{AdjustedSize}
use Rattle.byte_unit_base.specs.declared.kind.Kind.{Kind}

-- the first of the units that is not above the size, which is in bits, or else `own`
abbrev pub first_not_above : ℕ → Shape → List Shape → Shape
first_not_above in_bits own [] = own
first_not_above in_bits own (unit ∷ units) =
    if nat_le (bits unit) in_bits then unit else first_not_above in_bits own units

-- the largest unit of the kind that is not above the size, or the base unit of the kind if there is none
abbrev pub largest_unit_of : Kind → ℕ → Shape
largest_unit_of kind size =
    first_not_above (size * bits_in kind) (own_unit kind) (units_of_prefixes (own_family kind) prefix_count)

-- the size with this unit
abbrev pub in_largest_unit_of : Kind → ℕ → AdjustedSize
in_largest_unit_of kind size = record { size = size; unit = unit_of_shape (largest_unit_of kind size) }

-- the size that the input is accepted as, in the largest unit that is not above it, or the error of the input
unfoldable pub parsed_adjusted : Kind → List ℕ → Result AdjustedSize Fault
parsed_adjusted kind bytes = result_map_both (in_largest_unit_of kind) (λ fault. fault) (parsed_size kind false bytes)
