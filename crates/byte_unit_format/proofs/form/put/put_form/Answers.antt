-- The whole part and what follows it are the text of the size.
use Rattle.std.proofs.Common.{◌++◌, ap, arith, ◌∙◌, drop}
use Rattle.std.specs.Fmt.{decimal}
use Rattle.byte_unit_format.specs.UnitFraction.{unit_fraction_text}
use Rattle.byte_unit_format.proofs.UnitFraction.{form_of_split}
use Rattle.byte_unit_format.proofs.form.put.put_form.Goals as goal

-- `split.result` is the whole part and what follows it in its unit.
pub returns-clause-written : goal.returns-clause-written
returns-clause-written c =
    let split = c.split-whole in
    let text = decimal split.result.0 ++ unit_fraction_text c.args.kind split.result.1 in
    let ends = c.put_split.ensures.ends in
    record {
      form = text;
      is_form = form_of_split c.args.kind c.args.size split.result.0 split.result.1 split.ensures.prefix
          (split.ensures.split c.args.kind);
      needed_is = ends;
      fits = λ room. c.put_split.ensures.bytes ∙ ap (λ n. text ++ drop n c.args.out.now) ends;
      too_long = λ less. absurd (omega (arith, less, ends, c.put_split.ensures.bound, c.requires.room));
    }
