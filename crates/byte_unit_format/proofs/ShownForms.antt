-- What `Display` writes of a size, and of a size in a unit, is its text by the plain spec.
use Rattle.std.proofs.Common.{◌≡◌, ◌*◌, ◌++◌, ℕ, List, true, leb, append-nil, ap, sym, refl, codes}
use Rattle.std.specs.Fmt.{decimal}
use Rattle.std.proofs.lemmas.Bool.{leb-true}
use Rattle.byte_unit_math.specs.Bounds.{expansion_places, unit_limit}
use Rattle.byte_unit_math.specs.Exact.{IsExactAt}
use Rattle.byte_unit_math.specs.Finite.{Finite, IsExpansion}
use Rattle.byte_unit_math.specs.Digits.{expansion_of}
use Rattle.byte_unit_math.specs.Numeral.{text_of}
use Rattle.byte_unit_math.proofs.Expanding.{powers_are_exact}
use Rattle.byte_unit_math.proofs.Texts.{expansion_is_by_division, expansion_of_is_expansion}
use Rattle.byte_unit_base.specs.Grammar.Shape.{bits, twos, fives}
use Rattle.byte_unit_base.specs.Grammar.Version.{unit_name, unit_name_in}
use Rattle.byte_unit_base.specs.declared.kind.Kind.{Kind}
use Rattle.byte_unit_format.specs.Adjusted.{adjusted_text}
use Rattle.byte_unit_base.specs.Grammar.Units.{shape_of}
use Rattle.byte_unit_base.specs.Sizes.Kinds.{bits_in}
use Rattle.byte_unit_format.specs.FormLaws.{ShownSizeIsPlainForm, ShownAdjustedSizeIsPlainForm}
use Rattle.byte_unit_base.specs.declared.unit.Unit.{Unit as UnitName}
use Rattle.byte_unit_base.specs.declared.unit.Unit.TheVariants.{Bit}
use Rattle.byte_unit_choice.proofs.Choosing.{some_bits}

-- No unit has more bits than the limit: evaluated for each unit.
pub unit_below_limit : (unit : UnitName) → leb (bits (shape_of unit)) unit_limit ≡ true
unit_below_limit Bit = refl
unit_below_limit _ = refl

-- A number of bits in a unit is exact with 93 digits after the point.
pub exact_in_unit : (num : ℕ) (unit : UnitName) → IsExactAt num (bits (shape_of unit)) expansion_places
exact_in_unit num unit = powers_are_exact num (twos (shape_of unit)) (fives (shape_of unit))
    (leb-true _ _ (unit_below_limit unit))

-- The text of the expansion of a size in a unit, a space and the unit's name are what `Display` writes.
pub written_text : (kind : Kind) (size : ℕ) (unit : UnitName) {e : Finite} {name : List ℕ}
    → IsExpansion (size * bits_in kind) (bits (shape_of unit)) e → name ≡ unit_name unit
    → text_of e ++ codes " " ++ name ≡ adjusted_text kind size unit
written_text kind size unit {e} expansion name_is =
    let num : ℕ = size * bits_in kind in
    let same = expansion_is_by_division num (bits (shape_of unit)) e (some_bits (shape_of unit)) (exact_in_unit num unit)
    expansion in
    rw (same, name_is) refl

-- The digits of a size are its text by the plain spec.
pub shown_size_is_plain : ShownSizeIsPlainForm
shown_size_is_plain version kind size = sym (append-nil (decimal size))

-- All digits of a size in a unit, a space and the unit's name are its text in that unit by the plain spec, which puts
-- one space between number and name, and no padding.
pub shown_adjusted_size_is_plain : ShownAdjustedSizeIsPlainForm
shown_adjusted_size_is_plain version kind size unit =
    let num : ℕ = size * bits_in kind in
    let den : ℕ = bits (shape_of unit) in
    record {
      number = text_of (expansion_of num den);
      number_is = (
        expansion_of num den,
        expansion_of_is_expansion num den (some_bits (shape_of unit)) (exact_in_unit num unit),
        refl,
      );
      text_is = ap (λ front. front ++ codes " " ++ unit_name_in version (shape_of unit))
          (sym (append-nil (text_of (expansion_of num den))));
    }
