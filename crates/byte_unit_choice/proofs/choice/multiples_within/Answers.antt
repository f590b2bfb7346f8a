-- The slice has the rows of the prefixes that are left; a unit that is not above the size has a prefix among them,
-- since it has ten binary digits for each.
use Rattle.std.proofs.Common.{◌≡◌, ◌-◌, ◌*◌, ◌/◌, ◌<◌, ◌^◌, arith, length, map, take, drop, ap, rules, refl, ◌∙◌}
use Rattle.std.proofs.lemmas.List.{length-drop, take_all}
use Rattle.std.specs.Int.{w128, leading_zeros}
use Rattle.byte_unit_choice.specs.Multiples.{row_of, row_shape, units_of_prefixes, prefix_count}
use Rattle.byte_unit_choice.proofs.Rows.{rows_behind, prefix_within}
use Rattle.byte_unit_choice.proofs.choice.multiples_within.Goals as goal
use Rattle.byte_unit_choice.proofs.choice.multiples_within.Goals.{in-All, in-Bytes, in-Bits}

-- `all` says that the rows are those of all prefixes, `skipped` is the number of rows left out, and `digits` says that
-- the size has ten binary digits for each prefix up to that of a unit not above it
pub returns : goal.returns
returns c =
    let all : map row_shape c.match-family.units.now ≡ map row_of (units_of_prefixes c.args.family prefix_count) =
    elim c.match-family.branch [ in-All w ↦ search rules | in-Bytes w ↦ search rules | in-Bits w ↦ search rules ] in
    let rows = c.match-family.units.now in
    let prefixes = c.min-prefixes.result in
    let skipped = length rows / prefix_count * (prefix_count - prefixes) in
    let whole : take (length rows - skipped) (drop skipped rows) ≡ drop skipped rows =
    take_all (length rows - skipped) (drop skipped rows) (omega (arith, length-drop skipped rows)) in
    let behind = rows_behind c.args.family rows prefixes skipped all (omega (arith, c.min-prefixes.ensures)) refl in
    let small : c.args.in_bits < 2 ^ 128 = omega (arith, c.ranges.in_bits.fits) in
    record {
      prefixes = prefixes;
      few = omega (arith, c.min-prefixes.ensures);
      rows_are = ap (map row_shape) whole ∙ behind;
      within = λ unit prefix not_above among.
          let digits = prefix_within c.args.in_bits (128 - leading_zeros w128 c.args.in_bits) unit small refl prefix not_above in
          omega (arith, digits, among, c.min.ensures, c.min-prefixes.ensures, prefix.known);
    }
