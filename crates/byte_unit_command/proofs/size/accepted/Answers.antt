-- Without a suffix, the text is the field.
use Rattle.std.proofs.Common.{ℕ, List, refl, sym, subst, arith}
use Rattle.byte_unit_command.specs.Field.{IsNoSizeBy, without_suffix}
use Rattle.byte_unit_command.proofs.size.accepted.Goals.{then-reads_plainly, else-reads_plainly}
use Rattle.byte_unit_command.proofs.size.accepted.Goals as goal

-- the parser returned no size, so the field without its suffix is none
pub returns-then-size-ge-NO_SIZE-clause-none : goal.returns-then-size-ge-NO_SIZE-clause-none
returns-then-size-ge-NO_SIZE-clause-none c =
    let options = c.args.options.now in
    elim c.if-reads_plainly.branch [
      | then-reads_plainly w ↦
          subst (λ (suffix : List ℕ). IsNoSizeBy options.spec (without_suffix suffix c.args.field.now))
          (sym (w.if-reads_plainly.ensures.suffix refl))
          (w.plain_size-size.ensures.none (omega (arith, w.size-is, c.if-size-ge-NO_SIZE.true)))
      | else-reads_plainly w ↦ w.special_size-size.ensures.none (omega (arith, w.size-is, c.if-size-ge-NO_SIZE.true))
    ]
