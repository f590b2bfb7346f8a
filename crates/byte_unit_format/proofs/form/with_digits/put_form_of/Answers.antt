-- The digits tell the largest decimal prefix, and the whole part and the thousandths in it.
use Rattle.std.proofs.Common.{ℕ, ◌*◌, ◌/◌, ◌^◌, ◌≤◌, false, refl, arith}
use Rattle.byte_unit_math.specs.Bounds.{scale}
use Rattle.byte_unit_base.specs.Sizes.Kinds.{counts_bits, own_unit}
use Rattle.byte_unit_base.specs.Grammar.Shape.{shape}
use Rattle.byte_unit_choice.proofs.Choosing.{own_number}
use Rattle.byte_unit_format.specs.FewPlaces.{FitsPrefix}
use Rattle.byte_unit_format.proofs.TextParts.{front_is}
use Rattle.byte_unit_format.proofs.UnitFraction.{form_of_split, form_of_thousandths, named}
use Rattle.byte_unit_format.proofs.FewPlaces.{recovered_own, recovered_binary, recovered_decimal, number_of_units}
use Rattle.byte_unit_format.proofs.WithDigits.{few_digits, found_power, cut_of_size, not_above_digits}
use Rattle.byte_unit_format.proofs.form.with_digits.put_form_of.Goals as goal
use Rattle.byte_unit_format.proofs.form.with_digits.put_form_of.Goals.{then-binary-most+else-binary-power, else-binary-most}

-- The size has at most three digits, and no prefix.
pub returns-then-most-eq0-clause-form : goal.returns-then-most-eq0-clause-form
returns-then-most-eq0-clause-form c =
    let kind = c.args.kind in
    let size = c.args.size in
    let below = (few_digits size c.requires.bound).2 (omega (arith, c.requires.len, c.if-most-eq0.true)) in
    rw (front_is _ _ c.put_split.ensures.bytes c.put_split.ensures.ends)
    (form_of_thousandths kind size size 0 (own_unit kind) (omega arith) (recovered_own kind size below)
    (omega (arith, own_number kind size (size * scale) (own_unit kind) refl refl)))

-- `found`, here and below, is what the digits tell of the largest decimal prefix: no more are used than there are.
pub overflow_sub-len : goal.overflow_sub-len
overflow_sub-len c =
    let found = found_power c.requires.digits c.requires.len c.requires.bound (omega (arith, c.if-most-eq0.false))
    (assumption c.significant-used.ensures) c.significant-used.ensures.bound refl in
    omega (arith, found.within, c.requires.len)

-- The position of the binary prefix is at least that of the decimal one, which is at least 1.
pub in_eighths-whole-requires-clause-positive : goal.in_eighths-whole-requires-clause-positive
in_eighths-whole-requires-clause-positive c = elim c.if-binary-most.branch [
  | then-binary-most+else-binary-power w ↦
      (let used = w.significant-used.ensures in
      let found = found_power {power = w.min-power.result} c.requires.digits c.requires.len c.requires.bound
      (omega (arith, c.if-most-eq0.false)) (assumption used) used.bound (omega (arith, w.min-power.ensures)) in
      omega (arith, found.some, w.if-binary-power))
  | else-binary-most w ↦ omega (arith, c.if-most-eq0.false, w.if-binary-most)
]

-- The position of the decimal prefix is at most 9.
pub prefix_letter-requires-clause-known : goal.prefix_letter-requires-clause-known
prefix_letter-requires-clause-known c =
    let found = found_power c.requires.digits c.requires.len c.requires.bound (omega (arith, c.if-most-eq0.false))
    (assumption c.significant-used.ensures) c.significant-used.ensures.bound (omega (arith, c.min-power.ensures)) in
    found.known

-- The decimal prefix is the larger one: the digits are cut at it.
pub returns-then-binary-power-clause-form : goal.returns-then-binary-power-clause-form
returns-then-binary-power-clause-form c =
    let kind = c.args.kind in
    let size = c.args.size in
    let power = c.min-power.result in
    let used = c.significant-used.ensures in
    let found = found_power c.requires.digits c.requires.len c.requires.bound (omega (arith, c.if-most-eq0.false))
    (assumption used) used.bound (omega (arith, c.min-power.ensures)) in
    let cut = cut_of_size size c.significant-used.result power found.some c.requires.bound found.greatest.fits.not_above
    found.is_used (omega (arith, c.min-power.ensures, c.requires.len, found.within)) in
    let name = named kind power false found.some c.prefix_letter.ensures c.own_letter.ensures in
    rw (c.put_decimal.ensures.text, name, c.requires.digits, c.requires.len, cut.whole_is, cut.fraction_is)
    (form_of_thousandths kind size (size / 10 ^ (3 * power)) cut.thousandths (shape power false (counts_bits kind))
    cut.below
    (recovered_decimal kind size found.some found.known found.greatest
    c.binary_power-binary.ensures.greatest c.if-binary-power.true)
    (number_of_units kind size power false (size / 10 ^ (3 * power)) cut.thousandths cut.value))

-- The binary prefix is the larger one: `split.result` is the whole part, and the eighths in its unit.
pub returns-clause-form : goal.returns-clause-form
returns-clause-form c =
    let size = c.args.size in
    let twos = c.binary_power-binary.ensures in
    let binary = c.binary_power-binary.result in
    let not_less : (1 ≤ binary) × ((other : ℕ) → FitsPrefix 3 size (10 ^ (3 * other)) → other ≤ binary) =
    elim c.if-binary-most.branch [
      | then-binary-most+else-binary-power w ↦
          (let used = w.significant-used.ensures in
          let found = found_power {power = w.min-power.result} c.requires.digits c.requires.len c.requires.bound
          (omega (arith, c.if-most-eq0.false)) (assumption used) used.bound (omega (arith, w.min-power.ensures)) in (
            omega (arith, found.some, w.if-binary-power),
            λ other fits. omega (arith, found.greatest.greatest other fits, w.if-binary-power),
          ))
      | else-binary-most w ↦
          (let above = (few_digits size c.requires.bound).3 (omega (arith, c.requires.len, c.if-most-eq0.false)) in (
            omega (arith, c.if-most-eq0.false, w.if-binary-most),
            λ other fits.
                omega (
                  arith,
                  not_above_digits size other (omega (arith, above)) c.requires.bound fits,
                  c.requires.len,
                  w.if-binary-most,
                ),
          ))
    ] in
    let split = c.in_eighths-whole in
    rw (front_is _ _ c.put_split-2.ensures.bytes c.put_split-2.ensures.ends)
    (form_of_split c.args.kind size split.result.0 split.result.1 split.ensures.prefix
    (split.ensures.split c.args.kind
    (recovered_binary c.args.kind size not_less.0 twos.bound twos.greatest not_less.1)))
