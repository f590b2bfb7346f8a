-- A text that the parser rejects is a string, and not a size: the reading is that of the options.
use Rattle.std.proofs.Common.{◌∙◌, false, subst}
use Rattle.byte_unit.specs.declared.Kind.TheVariants.{Byte, Bit}
use Rattle.byte_unit.specs.declared.ParseSpec.{ParseSpec}
use Rattle.byte_unit_command.specs.Field.{IsNoSizeBy}
use Rattle.byte_unit_command.proofs.Readings.{same_spec, no-size-of}
use Rattle.byte_unit_command.proofs.size.plain_size.Goals as goal

-- as a size in bytes, the text is rejected
pub returns-in-Some-Err-clause-none : goal.returns-in-Some-Err-clause-none
returns-in-Some-Err-clause-none c = λ _.
    let text = c.args.text.now in
    subst (λ (spec : ParseSpec). IsNoSizeBy spec text)
    (c.ignoring_case.ensures ∙ same_spec c.args.options.now.spec Byte false false c.in-Byte.is c.requires.prefixes c.requires.words)
    (no-size-of _ text c.in-Some-Err.is c.in-Some-Err.field-0-is c.parse_bytes.ensures.reading)

-- as a size in bits, the text is rejected
pub returns-in-Some-Err-parse_bytes-clause-none : goal.returns-in-Some-Err-parse_bytes-clause-none
returns-in-Some-Err-parse_bytes-clause-none c = λ _.
    let text = c.args.text.now in
    let read = c.in-Some-Err-parse_bytes in
    subst (λ (spec : ParseSpec). IsNoSizeBy spec text)
    (c.ignoring_case-in-Bit.ensures ∙ same_spec c.args.options.now.spec Bit false false c.in-Bit.is c.requires.prefixes c.requires.words)
    (no-size-of _ text read.is read.field-0-is c.parse_bytes-in-Bit.ensures.reading)
