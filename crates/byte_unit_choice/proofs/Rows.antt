-- The rows of the table of units that a size can have, and the search for the largest that has a property.
--
-- The highest bit `top` of a number is its index, the leading zeros before it, and the two powers of two that bound the
-- number.
use Rattle.std.proofs.Common.{◌≡◌, ℕ, ◌+◌, ◌-◌, ◌*◌, ◌/◌, ◌^◌, ◌<◌, ◌≤◌, ⊎_elim, suc, Bool, true, false, List, [], ◌∷◌}
use Rattle.std.proofs.Common.{length, map, max, drop, get_or, add-one, drop-cons, ◌&&◌, leb, arith, sym, ap, ◌∙◌, subst}
use Rattle.std.proofs.Common.{refl}
use Rattle.std.proofs.Math.Nat.{pow-le-pow_right}
use Rattle.std.proofs.lemmas.List.{drop_all, drop-map, get_or-map, length-map}
use Rattle.std.proofs.lemmas.Bool.{cases_Bool, cases_lt, leb-true, agree_below, agree_below_at}
use Rattle.std.proofs.lemmas.Bool.Decides.{nat_tests}
use Rattle.std.proofs.lemmas.List.Elements.{All-from_recursion, All-map, All-same}
use Rattle.std.proofs.lemmas.Nat.{leading_top}
use Rattle.std.specs.Int.{w128, leading_zeros}
use Rattle.byte_unit_math.specs.Bounds.{unit_limit}
use Rattle.byte_unit_base.specs.Grammar.Shape.{Shape, shape, bits, twos, fives}
use Rattle.byte_unit_base.specs.Grammar.Version.{current}
use Rattle.byte_unit_base.specs.Grammar.Units.{shape_of}
use Rattle.byte_unit_choice.specs.Family.{HasPrefix, InFamily}
use Rattle.byte_unit_choice.specs.Choice.{IsLargest, NoneHas}
use Rattle.byte_unit_choice.specs.Multiples.{ListsUnits, ShapeRow, row_of, row_shape, units_of_prefixes, prefix_count}
use Rattle.byte_unit_base.specs.declared.unit.Unit.TheVariants.{Bit}
use Rattle.byte_unit_choice.specs.declared.tables.UnitRow.{UnitRow}
use Rattle.byte_unit_choice.specs.declared.choice.Family.{Family}
use Rattle.byte_unit_choice.proofs.Falling.{IsIn, Remain, falls, in_falling, all_in_family, current_falls, falls_after}
use Rattle.byte_unit_choice.proofs.Falling.{le_of_falls, units_per_prefix, drop_prefixes}
use Rattle.byte_unit_choice.proofs.Choosing.{small_bits, some_bits}

-- the unit of a row of the table, as a `Shape`
abbrev pub unit_in : UnitRow → Shape
unit_in row = shape_of row.unit

-- the row that is read past the end of the table
abbrev pub no_row : UnitRow
no_row = record { unit = Bit; bits = 0; twos = 0; fives = 0 }

-- the bits of the row are 2 and 5 to its exponents, and are from 2^9 to the limit of a unit
pub record IsMultiple (row : ShapeRow) : Type 0 where
  pub powers : row.bits ≡ 2 ^ row.twos * 5 ^ row.fives
  pub large : 2 ^ 9 ≤ row.bits
  pub small : row.bits ≤ unit_limit

-- a unit of the set that is not above the size, with exponents of 2 and 5 no greater than these
pub record HasPowers (family : Family) (in_bits most_twos most_fives : ℕ) (unit : Shape)
    : Type 0 where
  pub member : InFamily current family unit
  pub not_above : bits unit ≤ in_bits
  pub few_twos : twos unit ≤ most_twos
  pub few_fives : fives unit ≤ most_fives

-- each unit with the n-th prefix letter has at least 10 n binary digits
abbrev reaches : Bool → Bool → ℕ → Bool
reaches binary bit power = leb (2 ^ (10 * power - 1)) (bits (shape power binary bit))

-- the units of each prefix letter have enough binary digits: evaluated one by one
known_units_reach : (binary bit : Bool) → agree_below (reaches binary bit) (λ n. true) (prefix_count + 1) ≡ true
known_units_reach true true = refl
known_units_reach false true = refl
known_units_reach _ _ = refl

-- a unit with the n-th prefix letter has at least 2^(10 n - 1) bits, so 10 n binary digits
reaches_its_prefix : (unit : Shape) → HasPrefix current unit → 2 ^ (10 * unit.power - 1) ≤ bits unit
reaches_its_prefix unit prefix =
    leb-true _ _ (agree_below_at (reaches unit.binary unit.bit) (λ n. true) (prefix_count + 1) unit.power
    (known_units_reach unit.binary unit.bit) (omega (arith, prefix.known)))

-- if a unit is not above a size of this many binary digits, ten times the index of its prefix is at most their number
pub prefix_within : (in_bits digits : ℕ) (unit : Shape) → in_bits < 2 ^ 128 → digits ≡ 128 - leading_zeros w128 in_bits
    → HasPrefix current unit → bits unit ≤ in_bits → 10 * unit.power ≤ digits
prefix_within in_bits digits unit small count prefix not_above =
    let some : 0 < in_bits = omega (arith, some_bits unit, not_above) in
    let top = leading_top 128 in_bits some small in
    let reached = reaches_its_prefix unit prefix in
    ⊎_elim
    (λ fewer.
    let more = pow-le-pow_right {n = 2} (omega arith) {i = suc top.0} {j = 10 * unit.power - 1}
    (omega (arith, fewer, count, top.1)) in
    absurd (omega (arith, more, reached, not_above, top.3)))
    (λ k. k)
    (cases_lt digits (10 * unit.power))

-- without the rows of its last prefix letters, the table has the rows of the other letters
pub rows_behind : (family : Family) (rows : List UnitRow) (prefixes skipped : ℕ)
    → map row_shape rows ≡ map row_of (units_of_prefixes family prefix_count) → prefixes ≤ prefix_count
    → skipped ≡ length rows / prefix_count * (prefix_count - prefixes)
    → map row_shape (drop skipped rows) ≡ map row_of (units_of_prefixes family prefixes)
rows_behind family rows prefixes skipped all few count =
    let units = units_of_prefixes family prefix_count in
    let lengths : length rows ≡ length units =
    sym (length-map rows row_shape) ∙ (ap length all ∙ length-map units row_of) in
    let here : skipped ≡ units_per_prefix family * (prefix_count - prefixes) =
    count ∙ ap (λ n. n / prefix_count * (prefix_count - prefixes)) lengths in
    let total : (prefix_count - prefixes) + prefixes ≡ prefix_count = omega (arith, few) in
    let behind = rw total at (drop_prefixes family (prefix_count - prefixes) prefixes) in
    sym (drop-map row_shape skipped rows)
    ∙ (ap (drop skipped) all ∙ (drop-map row_of skipped units ∙ ap (map row_of) (ap (λ n. drop n units) here ∙ behind)))

-- if the rows are those of a list of units, their units are the list
units_of_rows : (rows : List UnitRow) (units : List Shape) → map row_shape rows ≡ map row_of units
    → map unit_in rows ≡ units
units_of_rows [] [] e = refl
units_of_rows (r ∷ rs) (x ∷ xs) e =
    let first : row_shape r ≡ row_of x = cc in
    let rest : map row_shape rs ≡ map row_of xs = cc in
    ap (λ s. s ∷ map unit_in rs) (ap (λ row. row.unit) first) ∙ ap (λ l. x ∷ l) (units_of_rows rs xs rest)
units_of_rows _ _ e = absurd (let k : ⊥ = cc in k)

-- at the start of the search, each unit that has the property is among the rows
pub search_start : (Has : Shape → Type 0) (family : Family) (in_bits first : ℕ) (rows : List UnitRow)
    → ListsUnits family in_bits first rows
    → ((unit : Shape) → Has unit → InFamily current family unit × (bits unit ≤ in_bits) × (unit.power ≤ first))
    → Remain Has (drop 0 (map unit_in rows))
search_start Has family in_bits first rows h within = grind (arith, in_falling, units_of_rows)

-- the unit of the row is in the unit set, and the row has its bits and exponents
pub record IsRow (family : Family) (row : ShapeRow) : Type 0 where
  pub member : InFamily current family row.unit
  pub bits_are : row.bits ≡ bits row.unit
  pub twos_are : row.twos ≡ twos row.unit
  pub fives_are : row.fives ≡ fives row.unit

-- the row at an index of the listed rows is the row of a unit of the set
pub row_at_is_row : {family : Family} {in_bits first i : ℕ} {rows : List UnitRow} (d : UnitRow)
    → ListsUnits family in_bits first rows → i < length rows → IsRow family (row_shape (get_or rows i d))
row_at_is_row {family} {in_bits} {first} {i} {rows} d h within =
    let units = units_of_prefixes family h.prefixes in
    let members = All-from_recursion (InFamily current family) units (all_in_family family h.prefixes h.few) in
    let listed = All-map (IsRow family) row_of units (λ k s inside.
    record { member = members k s inside; bits_are = refl; twos_are = refl; fives_are = refl }) in
    subst (IsRow family) (get_or-map row_shape rows i d (row_shape d) within)
    (All-same (IsRow family) (map row_shape rows) (map row_of units) h.rows_are listed i (row_shape d)
    (omega (arith, length-map rows row_shape, within)))

-- the index of the prefix of a unit is at most a / 10 or b / 3, if its exponents of 2 and 5 are at most a and b
pub power_of_powers : (unit : Shape) (a b : ℕ) → twos unit ≤ a → fives unit ≤ b → unit.power ≤ max (a / 10) (b / 3)
power_of_powers unit a b few_twos few_fives = grind (arith, few_twos, few_fives, cases_Bool unit.binary)

-- the bits of a row are 2 and 5 to its exponents, and within the limits
pub row_multiple : {family : Family} {row : ShapeRow} → IsRow family row → IsMultiple row
row_multiple {family} {row} is =
    let member = is.member in
    let first = pow-le-pow_right {n = 2} (omega arith) {i = 9} {j = 10 * row.unit.power - 1}
    (omega (arith, member.prefix.some)) in
    record {
      powers = rw (is.bits_are, is.twos_are, is.fives_are) refl;
      large = omega (arith, first, reaches_its_prefix row.unit member.prefix, is.bits_are);
      small = omega (arith, small_bits family row.unit member, is.bits_are);
    }

-- from an index on, the units of the rows are the unit there and the later ones
units_from : (rows : List UnitRow) (i : ℕ) (d : UnitRow) → i < length rows
    → drop i (map unit_in rows) ≡ unit_in (get_or rows i d) ∷ drop (suc i) (map unit_in rows)
units_from rows i d within =
    let unit = unit_in (get_or rows i d) in
    drop-cons (map unit_in rows) i unit (omega (arith, length-map rows unit_in, within))
    ∙ ap (λ u. u ∷ drop (suc i) (map unit_in rows)) (get_or-map unit_in rows i d unit within)

-- the unit of the first row that has the property is the largest unit that has it
pub unit_found : {family : Family} {in_bits first : ℕ} {rows : List UnitRow} (Has : Shape → Type 0) (i : ℕ) (d : UnitRow)
    → ListsUnits family in_bits first rows → Remain Has (drop i (map unit_in rows)) → i < length rows
    → Has (unit_in (get_or rows i d)) → IsLargest Has (unit_in (get_or rows i d))
unit_found {family} {in_bits} {first} {rows} Has i d h remain within has =
    let unit = unit_in (get_or rows i d) in
    let units = map unit_in rows in
    let fall : falls unit_limit units ≡ true = rw (units_of_rows rows _ h.rows_are) (current_falls family h.prefixes h.few) in
    let later = falls_after units unit_limit i unit fall (omega (arith, length-map rows unit_in, within)) in
    let fall_from : falls (bits unit) (drop (suc i) units) ≡ true = rw (get_or-map unit_in rows i d unit within) at later in
    record {
      has = has;
      largest = λ other k. ⊎_elim (λ same. omega (arith, ap bits same))
          (le_of_falls (drop (suc i) units) (bits unit) other fall_from)
          (subst (IsIn other) (units_from rows i d within) (remain other k));
    }

-- if the unit of a row does not have the property, each unit that has it is in a later row
pub unit_passed : (Has : Shape → Type 0) (rows : List UnitRow) (i : ℕ) (d : UnitRow) → Remain Has (drop i (map unit_in rows))
    → i < length rows → ¬ (Has (unit_in (get_or rows i d))) → Remain Has (drop (i + 1) (map unit_in rows))
unit_passed Has rows i d remain within without = grind (arith, add-one, units_from)

-- if no row is left, no unit has the property
pub none_found : (Has : Shape → Type 0) (rows : List UnitRow) (i : ℕ) → length rows ≤ i
    → Remain Has (drop i (map unit_in rows)) → NoneHas Has
none_found Has rows i done remain unit h = grind (arith, drop_all, length-map)

-- if the tests of a row hold, its unit is not above the size and has no greater exponents
pub row_powers : {family : Family} {row : ShapeRow} (in_bits a b : ℕ) → IsRow family row
    → ((leb row.bits in_bits && leb row.twos a) && leb row.fives b) ≡ true → HasPowers family in_bits a b row.unit
row_powers in_bits a b is h = grind (arith, nat_tests, is.bits_are, is.twos_are, is.fives_are, is.member, h)

-- if the unit of a row is not above the size and has no greater exponents, the tests of the row hold
pub powers_in_row : {family : Family} {row : ShapeRow} (in_bits a b : ℕ) → IsRow family row
    → HasPowers family in_bits a b row.unit → ((leb row.bits in_bits && leb row.twos a) && leb row.fives b) ≡ true
powers_in_row {family} {row} in_bits a b is h =
    grind (arith, nat_tests, is.bits_are, is.twos_are, is.fives_are, h.not_above, h.few_twos, h.few_fives)
