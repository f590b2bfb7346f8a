-- What is appended in each case: that the line is not UTF-8, the words of the error, or the size with its two texts.
use Rattle.std.proofs.Common.{◌≡◌, false, ap, sym, ◌∙◌, arith, cond, eqb, not, take}
use Rattle.std.proofs.lemmas.Bool.{eq-eqb, ne_eqb}
use Rattle.byte_unit.specs.Reading.ParseSpec.{parse_spec}
use Rattle.byte_unit.specs.declared.Kind.{Kind}
use Rattle.byte_unit.specs.declared.Kind.TheVariants.{Byte, Bit}
use Rattle.byte_unit_lines.proofs.Messages.{adds_size, adds_error, adds_not_text}
use Rattle.byte_unit_lines.proofs.line.add_answer_of.Given.{Over}
use Rattle.byte_unit_lines.proofs.line.add_answer_of.Goals.{Joined-this-ne0, then-this-ne0, else-this-ne0}
use Rattle.byte_unit_lines.proofs.line.add_answer_of.Goals as goal

-- the kind that the contract names by `BITS`
abbrev kind : Over → Kind
kind g = cond (not (eqb g.row.BITS 0)) Bit Byte

-- the reading that the `if` of the body takes is that of this kind
spec_is : (g : Over) (c : Joined-this-ne0 g) → c.if-this-ne0.spec ≡ parse_spec (kind g) false false
spec_is g c = elim c.if-this-ne0.branch [
  | then-this-ne0 w ↦
      w.spec-is
      ∙ sym (ap (λ no. parse_spec (cond (not no) Bit Byte) false false) (ne_eqb g.row.BITS 0 w.if-this-ne0.true))
  | else-this-ne0 w ↦
      w.spec-is
      ∙ sym (ap (λ no. parse_spec (cond (not no) Bit Byte) false false) (eq-eqb g.row.BITS 0 w.if-this-ne0.false))
]

-- a line that is not UTF-8: the bytes that are appended on `Ok` are its answer, `not text`
pub returns-in-None-clause-ok : goal.returns-in-None-clause-ok
returns-in-None-clause-ok g c =
    let added = c.extend_from_slice in
    adds_not_text (kind g) (take c.args.len c.args.bytes.now) added.result c.args.out.now.items
    c.in-None.ensures.reading added.ensures.items

-- a line with a parse error: the bytes that are appended on `Ok` are its answer, the words for the error
pub returns-in-Some-Err-clause-ok : goal.returns-in-Some-Err-clause-ok
returns-in-Some-Err-clause-ok g c =
    let added = c.extend_from_slice-in-Some-Err in
    let is = spec_is g (goal.at.returns-in-Some-Err-clause-ok g c).Joined-this-ne0 in
    adds_error (kind g) (take c.args.len c.args.bytes.now) added.result c.args.out.now.items
    (rw is at (rw c.in-Some-Err.field-0-is at c.in-Some-Err.ensures.reading)) c.fault_line_of.ensures
    added.ensures.items

-- a line that is a size: the part of the array up to the line end, which is appended on `Ok`, is its answer
pub returns-in-Some-Ok-clause-ok : goal.returns-in-Some-Ok-clause-ok
returns-in-Some-Ok-clause-ok g c =
    let end = c.write_with_digits-end in
    let added = c.extend_from_slice-in-Some-Ok in
    let is = spec_is g (goal.at.returns-in-Some-Ok-clause-ok g c).Joined-this-ne0 in
    adds_size (kind g) (take c.args.len c.args.bytes.now) added.result c.args.out.now.items _
    (rw is at (rw c.in-Some-Ok.field-0-is at c.in-Some-Ok.ensures.reading)) (rw is at end.ensures.text)
    (omega (arith, end.ensures.bound, end.auto.out)) added.ensures.items
