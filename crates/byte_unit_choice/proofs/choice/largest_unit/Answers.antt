-- The first row of the type that is not above the size is the largest such unit: the rows before it fail, and the
-- units that no row has are above the size.
use Rattle.std.proofs.Common.{◌*◌, arith}
use Rattle.byte_unit_choice.specs.Choice.{IsEligibleUnit}
use Rattle.byte_unit_choice.proofs.Choosing.{small_bits}
use Rattle.byte_unit_choice.proofs.Rows.{no_row, search_start, row_at_is_row, unit_found, unit_passed}
use Rattle.byte_unit_choice.proofs.choice.largest_unit.Goals as goal
use Rattle.byte_unit_choice.proofs.choice.largest_unit.Goals.{in-Binary, in-Decimal, in-Both}

-- before the first row, each unit of the type that is not above the size is among the rows
pub loop-row-init : goal.loop-row-init
loop-row-init c =
    let fit = IsEligibleUnit c.args.family c.args.unit_type (c.args.size * c.args.own_bits) in
    search_start fit c.args.family c.saturating_mul-in_bits.result _ c.multiples_within-row-items.result.now
    c.multiples_within-row-items.ensures
    (λ unit h. (
      h.member,
      omega (arith, c.saturating_mul-in_bits.ensures, h.not_above, small_bits c.args.family unit h.member),
      omega (arith, h.member.prefix.known),
    ))

-- the unit of the row is above the size
pub loop-row-preserved-then-row-in_bits : goal.loop-row-preserved-then-row-in_bits
loop-row-preserved-then-row-in_bits c =
    let fit = IsEligibleUnit c.args.family c.args.unit_type (c.args.size * c.args.own_bits) in
    let rows = c.multiples_within-row-items.result.now in
    let i = c.loop-row.row-index in
    let is_row = row_at_is_row no_row c.multiples_within-row-items.ensures c.loop-row-test.true in
    unit_passed fit rows i no_row c.loop-row.invariant c.loop-row-test.true (λ h.
    let small = small_bits c.args.family _ h.member in
    omega (arith, c.if-row-in_bits.true, is_row.bits_are, c.saturating_mul-in_bits.ensures, h.not_above, small))

-- the unit of the row is not of the type
pub loop-row-preserved : goal.loop-row-preserved
loop-row-preserved c =
    let fit = IsEligibleUnit c.args.family c.args.unit_type (c.args.size * c.args.own_bits) in
    let rows = c.multiples_within-row-items.result.now in
    unit_passed fit rows c.loop-row.row-index no_row c.loop-row.invariant c.loop-row-test.true (λ h.
    elim c.match-unit_type.branch [
      | in-Binary w ↦
          let of_type = rw w.in-Binary.is at h.of_type in
          cc
      | in-Decimal w ↦
          let of_type = rw w.in-Decimal.is at h.of_type in
          grind arith
      | in-Both w ↦ cc
    ])

-- the unit of the row is of the type and not above the size, and the first such one is the largest
pub returns-then-is_of_type-clause-found : goal.returns-then-is_of_type-clause-found
returns-then-is_of_type-clause-found c =
    let in_bits = c.args.size * c.args.own_bits in
    let i = c.loop-row.row-index in
    let listed = c.multiples_within-row-items.ensures in
    let is_row = row_at_is_row no_row listed c.loop-row-test.true in
    let has : IsEligibleUnit c.args.family c.args.unit_type in_bits _ = record {
      member = is_row.member;
      of_type = elim c.match-unit_type.branch [
        | in-Binary w ↦ rw w.in-Binary.is cc
        | in-Decimal w ↦ rw w.in-Decimal.is (grind arith)
        | in-Both w ↦ rw w.in-Both.is tt
      ];
      not_above = omega (arith, is_row.bits_are, c.if-row-in_bits.false, c.saturating_mul-in_bits.ensures);
    } in
    unit_found _ i no_row listed c.loop-row.invariant c.loop-row-test.true has
