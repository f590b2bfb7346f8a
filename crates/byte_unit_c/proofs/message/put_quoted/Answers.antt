-- Each part is written before the one after it.
use Rattle.std.proofs.Common.{◌∷◌, ◌++◌, ap, sym, ◌∙◌, arith, append_assoc, drop, codes}
use Rattle.byte_unit_base.specs.Errors.Position.{location_words}
use Rattle.byte_unit_c.proofs.Escapes.{quoted_length}
use Rattle.byte_unit_c.proofs.message.put_quoted.Goals as goal

pub returns : goal.returns
returns c =
    let rest = c.args.rest.now in
    let tail = drop c.args.end c.args.out.now in
    let quote = c.put-quote.ensures.bytes ∙ ap (λ l. rest ++ l) c.put_location-after.ensures.bytes in
    let beginning = c.put-beginning.ensures.bytes ∙ ap (λ l. c.args.character ∷ l) quote in
    let all = c.put.ensures.bytes ∙ ap (λ l. codes "the character '" ++ l) beginning in
    let joined = append_assoc rest (location_words c.args.location) tail in
    record {
      begins = omega (arith, quoted_length c.args.character rest c.args.location);
      bytes = all ∙ ap (λ l. codes "the character '" ++ c.args.character ∷ l) (sym joined);
    }
