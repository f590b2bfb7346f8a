-- What the first version of the grammar accepts and formats, the current version does in the same way.
--
-- Of a prefix letter, `letter_is` is the two bounds of its position, and an equation.
use Rattle.std.proofs.lemmas.Grind.{common_steps}
use Rattle.std.proofs.Common.{◌≡◌, ℕ, ◌-◌, ◌*◌, ◌<◌, ◌≤◌, inl, inr, Bool, false, List, length, rules, arith, sym, ap}
use Rattle.std.proofs.Common.{◌∙◌, ◌↔◌, slice_index}
use Rattle.std.proofs.Math.Nat.{le_of_mul-le-mul_right}
use Rattle.std.proofs.lemmas.Bool.Decides.{nat_tests}
use Rattle.byte_unit_math.specs.Bounds.{places_of_decimal}
use Rattle.byte_unit_math.specs.Numeral.{short_numeral}
use Rattle.byte_unit_base.specs.Grammar.Shape.{Shape, shape, bits}
use Rattle.byte_unit_base.specs.Grammar.Version.{first_version, current, unit_name_in}
use Rattle.byte_unit_base.specs.Grammar.Spelling.{Spells, SpellsPrefix}
use Rattle.byte_unit_base.specs.declared.spec.Flags.{Flags}
use Rattle.byte_unit_base.specs.Grammar.Number.{IsNumberText}
use Rattle.byte_unit_base.specs.Reading.ParseSpec.{parse_spec}
use Rattle.byte_unit_base.specs.Sizes.Accepted.{IsMeasureAs}
use Rattle.byte_unit_choice.specs.Family.{InFamily, own_family}
use Rattle.byte_unit_base.specs.Sizes.Kinds.{bits_in, flags_for}
use Rattle.byte_unit_choice.specs.Choice.{IsLargestOrOwn, IsRecoveredIn}
use Rattle.byte_unit_format.specs.Layout.{layout}
use Rattle.byte_unit_format.specs.Forms.{places_of}
use Rattle.byte_unit_format.specs.VersionLaws.{AcceptedTextsStay, SizeFormsStay, AppropriateUnitsStay}
use Rattle.byte_unit_format.specs.VersionLaws.{AdjustedFormsStay}
use Rattle.byte_unit_base.specs.declared.kind.Kind.{Kind}
use Rattle.byte_unit_choice.specs.declared.choice.Family.{Family}
use Rattle.byte_unit_format.specs.declared.spec.FormatSpec.{FormatSpec}
use Rattle.byte_unit_format.proofs.NarrowTexts.{prefix_of, unit_bits, bits_in_positive, prefix_at_least}
use Rattle.byte_unit_format.proofs.FewPlaces.{exponent_below}

-- A prefix of the first version has the same letter.
letter_stays : (power : ℕ) → 0 < power → power ≤ length first_version.letters
    → slice_index first_version.letters (power - 1) ≡ slice_index current.letters (power - 1)
letter_stays power some known = grind arith

-- A unit of the first version has the same name.
name_stays : (power : ℕ) (binary bit : Bool) → power ≤ length first_version.letters
    → unit_name_in first_version (shape power binary bit) ≡ unit_name_in current (shape power binary bit)
name_stays power binary bit known = grind (arith, nat_tests, letter_stays power)

-- A prefix of the first version has the same spelling.
prefix_stays : (text : List ℕ) (power : ℕ) (binary : Bool) → SpellsPrefix first_version text power binary
    → SpellsPrefix current text power binary
prefix_stays text power binary h =
    let known : power ≤ length current.letters = omega (arith, h.letter_is.1) in
    search (rules, known, h.letter_is.2 ∙ letter_stays power h.letter_is.0 h.letter_is.1)

-- A unit of the first version has the same spellings.
spelling_stays : (flags : Flags) (text : List ℕ) (unit : Shape) → Spells first_version flags text unit
    → Spells current flags text unit
spelling_stays flags text unit (inl h) = inl h
spelling_stays flags text unit (inr h) =
    let prefix = prefix_stays h.prefix_part unit.power unit.binary h.prefix_is in inr (search (rules, prefix))

-- A number of the first version is the same number.
number_stays : (text : List ℕ) (number : ℕ) → IsNumberText first_version text number → IsNumberText current text number
number_stays text number (inl h) = inl (search rules)
number_stays text number (inr h) = inr (search rules)

-- A string that the first version reads without words as a number of a unit is read as the same.
measure_stays : (kind : Kind) (ignore_case : Bool) (text : List ℕ) (number : ℕ) (unit : Shape)
    → IsMeasureAs (parse_spec kind ignore_case false) first_version text number unit
    → IsMeasureAs (parse_spec kind ignore_case false) current text number unit
measure_stays kind ignore_case text number unit (inl is) =
    let spelled = spelling_stays (flags_for kind ignore_case) is.unit_part unit is.unit_is in
    inl (search (rules, number_stays is.number_part number is.number_is, spelled))
measure_stays kind ignore_case text number unit (inr words) = absurd (let never : ⊥ = cc (words.1) in never)

-- A string that the first version accepts is accepted as the same size.
pub accepted_stays : AcceptedTextsStay
accepted_stays kind ignore_case text size h =
    search (rules, measure_stays kind ignore_case text h.number h.is_read.unit h.is_read.is_size)

-- A unit that is at most a size of the first version is a unit of the first version.
member_is_old : (kind : Kind) (size : ℕ) (unit : Shape) → size < first_version.size_limit
    → InFamily current (own_family kind) unit
    → bits unit ≤ size * bits_in kind → InFamily first_version (own_family kind) unit
member_is_old kind size unit small h not_above =
    grind (arith, prefix_of, le_of_mul-le-mul_right, unit_bits, bits_in_positive, prefix_at_least, exponent_below)

-- A unit of a unit set in the first version is one in the current version.
member_stays : (family : Family) (unit : Shape) → InFamily first_version family unit → InFamily current family unit
member_stays family unit h =
    record { prefix = record { some = h.prefix.some; known = omega (arith, h.prefix.known) }; kind = h.kind }

-- If the same units have two properties, the largest of them, or the base unit of the kind, is the same.
same_largest : (kind : Kind) (Has Had : Shape → Type 0) (unit : Shape) → ((other : Shape) → Has other → Had other)
    → ((other : Shape) → Had other → Has other) → IsLargestOrOwn kind Has unit → IsLargestOrOwn kind Had unit
same_largest kind Has Had unit there back (inl h) =
    inl (record { has = there unit h.has; largest = λ other had. h.largest other (back other had) })
same_largest kind Has Had unit there back (inr h) = inr ((λ other had. h.0 other (back other had)), h.1)

-- A size of the first version has the same appropriate unit.
pub appropriate_stays : AppropriateUnitsStay
appropriate_stays kind unit_type size unit small =
    grind (arith, common_steps, member_stays, member_is_old, same_largest)

-- The exact unit of a size in the first version is a unit of that version.
recovered_old : (kind : Kind) (size precision : ℕ) (unit : Shape)
    → IsRecoveredIn first_version kind false size precision unit → unit.power ≤ length first_version.letters
recovered_old kind size precision unit (inl h) = h.has.member.prefix.known
recovered_old kind size precision unit (inr h) = omega (arith, ap (λ s. s.power) h.1)

-- A size of the first version has the same exact unit at each precision.
recovered_stays : (kind : Kind) (size precision : ℕ) (unit : Shape) → size < first_version.size_limit
    → IsRecoveredIn first_version kind false size precision unit ↔ IsRecoveredIn current kind false size precision unit
recovered_stays kind size precision unit small = grind (arith, common_steps, member_stays, member_is_old, same_largest)

-- A number with a unit of the first version is laid out the same.
layout_stays : (number : List ℕ) (unit : Shape) (spec : FormatSpec) → unit.power ≤ length first_version.letters
    → layout number (unit_name_in first_version unit) spec ≡ layout number (unit_name_in current unit) spec
layout_stays number unit spec known =
    ap (λ letters. layout number letters spec) (name_stays unit.power unit.binary unit.bit known)

-- A size of the first version has the same texts with a unit.
pub forms_stay : SizeFormsStay
forms_stay kind size spec text small =
    let same = recovered_stays kind size (places_of spec.precision) in (
      λ h.
          let known = recovered_old kind size (places_of spec.precision) h.unit h.is_recovered in
          let is_recovered = (same h.unit small).0 h.is_recovered in
          let text_is = h.text_is ∙ layout_stays (short_numeral h.number places_of_decimal) h.unit spec known in
          search (rules, is_recovered, text_is),
      λ h.
          let recovered = (same h.unit small).1 h.is_recovered in
          let known = recovered_old kind size (places_of spec.precision) h.unit recovered in
          let text_is = h.text_is ∙ sym (layout_stays (short_numeral h.number places_of_decimal) h.unit spec known) in
          search (rules, recovered, text_is),
    )

-- A size has the same texts in each unit of the first version.
pub adjusted_forms_stay : AdjustedFormsStay
adjusted_forms_stay kind size unit spec text known = grind (arith, common_steps, layout_stays)

-- what the first version accepts and prints keeps its meaning
pub ruleset meanings_stay = (accepted_stays, forms_stay, appropriate_stays, adjusted_forms_stay)
