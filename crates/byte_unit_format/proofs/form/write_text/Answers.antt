-- The alternate form is written, or the parts of the text, which are a text of the size. Without a width it has at
-- most 37 bytes.
use Rattle.std.proofs.Common.{arith, sym, ◌∙◌}
use Rattle.byte_unit_format.proofs.NamedSpecs.{is_alternate}
use Rattle.byte_unit_format.proofs.NarrowTexts.{text_without_width_narrow}
use Rattle.byte_unit_format.proofs.form.write_text.Goals as goal

-- The spec is the alternate form.
pub returns-then-out-ge-NARROW_TEXT-clause-written : goal.returns-then-out-ge-NARROW_TEXT-clause-written
returns-then-out-ge-NARROW_TEXT-clause-written c =
    rw (is_alternate c.args.spec (sym c.eq.ensures ∙ c.if-eq.true)) c.put_form.ensures.written

-- Every other text without a width has at most 37 bytes.
pub returns-clause-narrow : goal.returns-clause-narrow
returns-clause-narrow c = grind (arith, text_without_width_narrow)
