-- The chosen unit and the number in it are the form with a unit; its parts are laid out as the spec says.
use Rattle.std.proofs.Common.{rules}
use Rattle.byte_unit_math.proofs.ShortExpansions.{AreFields}
use Rattle.byte_unit_format.proofs.WrittenForms.{size_form_is_text, size_form_of_fields}
use Rattle.byte_unit_format.proofs.form.text_parts.Goals as goal

pub returns-clause-text : goal.returns-clause-text
returns-clause-text c =
    let found = c.recoverable_unit-number.ensures in
    let least = c.places.ensures.least in
    let fields : AreFields c.recoverable_unit-number.result.0 c.whole.result c.digits.result c.places.result =
    search (rules, c.digits.ensures.value c.places.result least, c.digits.ensures.bound c.places.result least) in
    size_form_is_text c.args.kind c.args.size c.args.spec (search rules)
    (rw c.layout_parts.ensures.text
    (size_form_of_fields c.args.kind c.args.size c.args.spec (search rules) found.recovered found.exact fields))
