-- Where decimal prefixes mean binary ones, the text by the spec that `binary_spec` returns is the exact text: `chosen` is its
-- unit.
use Rattle.std.proofs.Common.{arith, subst}
use Rattle.byte_unit.specs.Forms.{IsText}
use Rattle.byte_unit_command.proofs.Numbers.{begins_with}
use Rattle.byte_unit_command.proofs.text.write_as.Goals as goal

-- what was written begins with that text
pub returns-in-Exact-clause-written : goal.returns-in-Exact-clause-written
returns-in-Exact-clause-written g c =
    let text = begins_with c.write_text.ensures.written
    (omega (arith, c.write_text.ensures.bound, c.requires.capacity)) in
    let chosen = c.binary_spec-spec.ensures.spec in
    rw (c.in-Exact.is, c.if-options.true, ← c.kind_by_flag-kind.ensures) (record {
      form = text.form;
      is_form = (
        chosen.0,
        chosen.1,
        subst (λ spec. IsText c.kind_by_flag-kind.result c.args.size spec text.form) chosen.2 text.is_form,
      );
      len_is = text.len_is;
      begins = text.begins;
    })
