-- A beginning of a unit that is all of the line spells the unit of its state, unless its suffix is `bi`.
use Rattle.std.proofs.Common.{◌≡◌, ◌+◌, ◌*◌, ◌/◌, ◌%◌, ◌^◌, not, eqb, ◌&&◌, ◌||◌, sym, ◌∙◌, refl, arith, length, drop}
use Rattle.std.proofs.Common.{length-drop}
use Rattle.byte_unit_base.proofs.UnitLetters.{letters_in_line, power_in_table, power_few, prefix_kept}
use Rattle.byte_unit_base.proofs.UnitStops.{spelled}
use Rattle.byte_unit_base.proofs.read.unit.read_unit.Goals as goal

-- the position of a prefix is at most 9
pub unit_with_prefix-requires-then-length-ne2 : goal.unit_with_prefix-requires-then-length-ne2
unit_with_prefix-requires-then-length-ne2 c =
    let power = c.from-power.ensures ∙ power_in_table (c.eight_at-text.result % 256) (omega arith) in
    omega (arith, power, power_few (c.eight_at-text.result % 256))

-- the beginning of a unit is the rest of the line, and its suffix is not `bi`
pub returns-then-length-ne2 : goal.returns-then-length-ne2
returns-then-length-ne2 c =
    let leads = letters_in_line c.type_inv.bytes c.requires.line c.requires.from c.eight_at-text.ensures
    (c.from-power.ensures ∙ power_in_table (c.eight_at-text.result % 256) (omega arith))
    c.from.ensures c.from-2.ensures c.suffix_len-length.ensures.letters in
    spelled c.args.flags _ _ _ _ leads (c.if-end-line.true ∙ sym (length-drop c.args.from c.args.line.now))
    (rw (c.counts_bits.ensures, c.unit_with_prefix-then-length-ne2.ensures) refl)

-- the beginning of a unit ends before the line does, or its suffix is `bi`; 105 is `i`, 73 is `I` and 66 is `B`
pub returns : goal.returns
returns c =
    let leads = letters_in_line c.type_inv.bytes c.requires.line c.requires.from c.eight_at-text.ensures
    (c.from-power.ensures ∙ power_in_table (c.eight_at-text.result % 256) (omega arith))
    c.from.ensures c.from-2.ensures c.suffix_len-length.ensures.letters in
    let end = c.from.result + c.from-2.result + c.suffix_len-length.result in
    let at_bi : end ≡ length (drop c.args.from c.args.line.now) → c.suffix_len-length.result ≡ 2 =
    grind (arith, c.else-end-line.branch, length-drop c.args.from c.args.line.now) in
    let power = c.from-power.result in
    let text = c.eight_at-text.result in
    let next = text / 256 % 256 in
    let binary = not (eqb power 0) && (eqb next 105 || eqb next 73) in
    let upper = eqb (text / 2 ^ (8 * (c.from.result + c.from-2.result)) % 256) 66 in (
      _,
      leads,
      λ all. rw (at_bi all) refl,
      λ i. record { has_prefix = prefix_kept power binary i; word = c.letters.ensures upper i },
    )
