-- A whole part and what follows it are the text of a size in its unit; how its bytes are written.
--
-- What is `known` of a fraction is that it is less than one, and the two bounds of the position of its prefix.
use Rattle.std.proofs.Common.{◌≡◌, ℕ, ◌+◌, ◌-◌, ◌*◌, ◌^◌, ◌<◌, ◌≤◌, Bool, false, List, [], ◌∷◌, ◌++◌, length, take}
use Rattle.std.proofs.Common.{drop, arith, ap, sym, ◌∙◌, append-nil, append_assoc}
use Rattle.std.specs.Prelude.{if◌then◌else◌, slice_index, codes}
use Rattle.std.specs.Fmt.{decimal}
use Rattle.std.proofs.lemmas.Grind.{common_steps}
use Rattle.std.proofs.lemmas.List.{take-append-drop, drop-take, drop-drop}
use Rattle.std.proofs.Math.Nat.{mul-le-mul_left, pow-le-pow_right}
use Rattle.byte_unit_format.proofs.NarrowTexts.{prefix_of, prefix_at_least}
use Rattle.std.proofs.lemmas.Slice.{drop-append-drop}
use Rattle.byte_unit_math.specs.Bounds.{scale, places_of_decimal, size_limit}
use Rattle.byte_unit_math.specs.Digits.{at_places, trim_expansion}
use Rattle.byte_unit_math.specs.Numeral.{text_of, short_numeral}
use Rattle.byte_unit_math.proofs.Texts.{short_numeral_is_expansion, expansion_of_same_fraction, text_of_short_numeral}
use Rattle.byte_unit_choice.specs.Choice.{IsRecoveredIn}
use Rattle.byte_unit_base.specs.Sizes.Kinds.{bits_in, counts_bits, own_unit}
use Rattle.byte_unit_base.specs.Grammar.Shape.{Shape, shape, bits}
use Rattle.byte_unit_base.specs.Grammar.Version.{unit_name_in, current}
use Rattle.byte_unit_base.specs.declared.kind.Kind.{Kind}
use Rattle.byte_unit_base.proofs.Names.{with_prefix}
use Rattle.byte_unit_format.specs.Forms.{IsSizeForm}
use Rattle.byte_unit_format.specs.NamedSpecs.{alternate_spec}
use Rattle.byte_unit_format.specs.UnitFraction.{thousandths_text, thousandths_of, fraction_unit}
use Rattle.byte_unit_format.specs.UnitFraction.{unit_fraction_text, IsProperFraction, IsSplit}
use Rattle.byte_unit_format.specs.declared.form.split.UnitFraction.{UnitFraction}
use Rattle.byte_unit_format.specs.declared.form.split.UnitFraction.TheVariants.{Own, Eighths, Thousandths}

-- The text of whole units, and then that of thousandths, is the text of both as one decimal without trailing zeros.
text_of_thousandths : (whole thousandths : ℕ) → thousandths < 1000
    → text_of (trim_expansion (at_places 3 (whole * 1000 + thousandths)))
    ≡ decimal whole ++ thousandths_text thousandths
text_of_thousandths whole thousandths below = grind arith

-- The thousandths are less than one.
thousandths_below : (fraction : UnitFraction) → IsProperFraction fraction → thousandths_of fraction < 1000
thousandths_below Own known = omega arith
thousandths_below (Eighths eighths power) known = omega (arith, known.0)
thousandths_below (Thousandths thousandths power) known = known.0

-- Whole units and thousandths of the unit that the size is shown in are the text of the size.
pub form_of_thousandths : (kind : Kind) (size whole thousandths : ℕ) (unit : Shape) → thousandths < 1000
    → IsRecoveredIn current kind false size 3 unit
    → (whole * scale + thousandths * 10 ^ 25) * bits unit ≡ size * bits_in kind * scale
    → IsSizeForm kind size alternate_spec
    (decimal whole ++ (thousandths_text thousandths ++ 32 ∷ unit_name_in current unit))
form_of_thousandths kind size whole thousandths unit below recovered product =
    let number = whole * scale + thousandths * 10 ^ 25 in
    let q = whole * 1000 + thousandths in
    let name = unit_name_in current unit in
    let e = trim_expansion (at_places 3 q) in
    let expansion = expansion_of_same_fraction q (10 ^ 3) number scale e
    (record { positive = omega arith; positive' = omega arith; same = omega arith }) (short_numeral_is_expansion q 3) in
    let numeral : short_numeral number places_of_decimal ≡ decimal whole ++ thousandths_text thousandths =
    sym (text_of_short_numeral number places_of_decimal e expansion) ∙ text_of_thousandths whole thousandths below in
    record {
      unit = unit;
      number = number;
      is_recovered = recovered;
      number_is = product;
      text_is = rw numeral (simp (append_assoc {A = ℕ}, append-nil {A = ℕ}));
    }

-- A split size is the text of its whole part and of what follows.
pub form_of_split : (kind : Kind) (size whole : ℕ) (fraction : UnitFraction) → IsProperFraction fraction
    → IsSplit kind size whole fraction
    → IsSizeForm kind size alternate_spec (decimal whole ++ unit_fraction_text kind fraction)
form_of_split kind size whole fraction known split =
    form_of_thousandths kind size whole (thousandths_of fraction) (fraction_unit kind fraction)
    (thousandths_below fraction known) split.recovered split.value

-- A space, the letter of a prefix, an `i` if it is binary, and the letter of the kind are a space and the unit's name.
pub named : {first last : ℕ} (kind : Kind) (power : ℕ) (binary : Bool) → 1 ≤ power
    → first ≡ slice_index current.letters (power - 1) → last ∷ [] ≡ unit_name_in current (own_unit kind)
    → 32 ∷ first ∷ ((if binary then codes "i" else []) ++ last ∷ [])
    ≡ 32 ∷ unit_name_in current (shape power binary (counts_bits kind))
named {first} {last} kind power binary some first_is last_is =
    rw (first_is, last_is) (ap (λ name. 32 ∷ name) (sym (with_prefix (shape power binary (counts_bits kind)) some)))

-- A list from an index on is known, also by another name of the index.
pub drop_known : {index other : ℕ} {rest : List ℕ} (list : List ℕ) → index ≡ other → drop index list ≡ rest
    → drop other list ≡ rest
drop_known {index} {other} list same known = ap (λ n. drop n list) (sym same) ∙ known

-- Four bytes are written of which the first are the text, and a name after the text, over what is left of them.
pub written_over :
    {text : List ℕ} {first second : ℕ} (old middle new digits name : List ℕ) (point len end : ℕ) → length digits ≡ 4
    → len ≤ 4 → point + 4 ≤ end → take len digits ≡ text
    → first ≡ point → drop first middle ≡ digits ++ drop (point + 4) old
    → second ≡ point + len → take second new ≡ take second middle → drop second new ≡ name ++ drop end middle
    → drop point new ≡ (text ++ name) ++ drop end old
written_over {text} old middle new digits name point len end four few covers text_is first_is digits_are second_is kept
    name_is =
    grind (
      arith,
      common_steps,
      drop-take point len new,
      drop-take point len middle,
      drop-drop (end - point) point middle,
      drop-drop (end - point) point old,
      drop-drop 4 point old,
      drop-append-drop 4 (drop point old) digits (end - point),
      take-append-drop len (drop point new),
      drop-drop len point new,
    )

-- In a unit with a prefix the whole part is below 10^27.
pub whole_below : (size power : ℕ) (binary : Bool) (whole thousandths : ℕ) → size < size_limit → 1 ≤ power
    → (whole * 1000 + thousandths) * prefix_of power binary ≡ size * 1000 → whole < 10 ^ 27
whole_below size power binary whole thousandths small some value =
    let large = pow-le-pow_right {n = 10} (omega arith) {i = 3} {j = 3 * power} (omega (arith, some)) in
    omega (arith, small, value, mul-le-mul_left whole (prefix_at_least power binary), mul-le-mul_left whole large)
