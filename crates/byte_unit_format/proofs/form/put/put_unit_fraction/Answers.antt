-- The digits are written, and the space and the name over what is left of their four bytes.
use Rattle.std.proofs.Common.{◌≡◌, ◌+◌, ◌∷◌, [], ◌++◌, true, false, refl, ap, subst, arith, ◌∙◌, drop}
use Rattle.byte_unit_format.specs.UnitFraction.{thousandths_text, IsProperFraction}
use Rattle.byte_unit_format.proofs.UnitFraction.{drop_known, named, written_over}
use Rattle.byte_unit_format.proofs.form.put.put_unit_fraction.Goals as goal
use Rattle.byte_unit_format.proofs.form.put.put_unit_fraction.Goals.{then-len-gt0, else-len-gt0}

-- Eighths of a binary unit: `written.result` is four bytes and how many of them are digits and point.
pub returns-in-Eighths-clause-bytes : goal.returns-in-Eighths-clause-bytes
returns-in-Eighths-clause-bytes c =
    let written = c.digits_of_eighths-len in
    let name = c.put-in-Eighths.ensures in
    let known = subst IsProperFraction c.in-Eighths.is c.requires.prefix in
    rw (c.in-Eighths.is, ← named c.args.kind c.in-Eighths.power true known.1 c.prefix_letter.ensures c.own_letter-own.ensures)
    (written_over c.args.out.now c.put-end.new.out c.put-in-Eighths.new.out written.result.0 _ c.args.point
    written.result.1 _ written.ensures.four written.ensures.bound (omega arith) written.ensures.text
    (omega (arith, c.put-end.ensures.begins, written.ensures.four)) c.put-end.ensures.bytes (omega (arith, name.begins))
    name.before name.bytes)

-- Thousandths of a decimal unit, of which there may be none: `letters` are the space (32), the prefix letter and that
-- of the kind.
pub returns-after-len-gt0-clause-bytes : goal.returns-after-len-gt0-clause-bytes
returns-after-len-gt0-clause-bytes c =
    let point = c.args.point in
    let old = c.args.out.now in
    let new = c.put-in-Thousandths.new.out in
    let written = c.digits_of_thousandths-len in
    let four = written.ensures.four in
    let end = point + written.result.1 + 3 in
    let name = c.put-in-Thousandths.ensures in
    let text = thousandths_text c.in-Thousandths.thousandths in
    let letters = 32 ∷ c.prefix_letter-in-Thousandths.result ∷ c.own_letter-own.result ∷ [] in
    let known = subst IsProperFraction c.in-Thousandths.is c.requires.prefix in
    let put : drop point new ≡ (text ++ letters) ++ drop end old = elim c.if-len-gt0.branch [
      | then-len-gt0 w ↦
          (let digits = w.put-then-len-gt0.ensures in
          let bytes = ap (λ list. drop w.put-then-len-gt0.result list) w.out-is ∙ digits.bytes in
          written_over old c.if-len-gt0.out new written.result.0 letters point written.result.1 end four
          written.ensures.bound (omega (arith, w.if-len-gt0)) written.ensures.text
          (omega (arith, digits.begins, four)) bytes (omega (arith, name.begins)) name.before name.bytes)
      | else-len-gt0 w ↦
          (let none : written.result.1 ≡ 0 = omega (arith, w.if-len-gt0) in
          drop_known {other = point} new (omega (arith, name.begins, none)) name.bytes
          ∙ rw (← written.ensures.text, none, w.out-is) refl)
    ] in
    rw (
      c.in-Thousandths.is,
      ← named c.args.kind c.in-Thousandths.power false known.1 c.prefix_letter-in-Thousandths.ensures c.own_letter-own.ensures,
    ) put
