-- A field ends at a byte before a blank, if that byte is none. Of the invariant, `.0` says that no field ends before
-- the index.
use Rattle.std.proofs.Common.{◌≡◌, ◌+◌, ◌<◌, not, ◌&&◌, ℕ, List, ◌∷◌, get_or, length, take, drop, ap, sym, subst, ◌∙◌}
use Rattle.std.proofs.Common.{arith, false, inl, inr}
use Rattle.std.proofs.Math.Nat.{eq-or-lt_of_le}
use Rattle.std.proofs.Math.Numerals.{suc-eq-add-one}
use Rattle.byte_unit_command.specs.Fields.{blank_fields, is_blank}
use Rattle.byte_unit_command.proofs.BlankFields.{blank_fields-cut, blank_fields-whole, ends_there}
use Rattle.byte_unit_command.proofs.blanks.end_of_field.Goals as goal

-- whether a field ends there, by the two bytes that the code reads
by_two : (bytes : List ℕ) (index : ℕ) → ends_there bytes index
    ≡ (not (is_blank (get_or bytes index 0)) && is_blank (get_or bytes (index + 1) 0))
by_two bytes index =
    ap (λ next. not (is_blank (get_or bytes index 0)) && is_blank (get_or bytes next 0)) (suc-eq-add-one index)

-- no field ends before the first byte
pub loop-i-init : goal.loop-i-init
loop-i-init c = (λ k low. let never : ⊥ = omega (arith, low) in absurd never, omega arith)

-- no field ends before the next byte, if none ends before this one and after it
pub loop-i-preserved : goal.loop-i-preserved
loop-i-preserved c =
    let bytes = c.args.bytes.now in
    let index = c.loop-i.i in
    let here = by_two bytes index ∙ sym c.ends_field.ensures ∙ c.if-ends_field.false in (
      λ k low. elim (eq-or-lt_of_le {n = k} {m = index} (omega (arith, low))) [
        | inl same ↦ subst (λ k. ends_there bytes k ≡ false) (sym same) here
        | inr before ↦ c.loop-i.invariant.0 k before
      ],
      omega arith,
    )

-- the first field ends after this byte, and another one follows
pub returns-then-ends_field-clause-some : goal.returns-then-ends_field-clause-some
returns-then-ends_field-clause-some c =
    let bytes = c.args.bytes.now in
    let index = c.loop-i.i in
    let fits : index + 1 < length bytes = omega arith in (
      omega arith,
      fits,
      subst (λ n. blank_fields bytes ≡ take n bytes ∷ blank_fields (drop n bytes)) (suc-eq-add-one index)
          (blank_fields-cut bytes index (omega (arith, fits)) c.loop-i.invariant.0
          (by_two bytes index ∙ sym c.ends_field.ensures ∙ c.if-ends_field.true)),
    )

-- no field ends before the last byte, so all bytes are one field
pub returns-clause-none : goal.returns-clause-none
returns-clause-none c =
    blank_fields-whole c.args.bytes.now (λ k low. c.loop-i.invariant.0 k (omega (arith, low)))
