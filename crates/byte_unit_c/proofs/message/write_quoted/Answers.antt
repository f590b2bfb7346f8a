-- The text is as long as it is said to be, so it begins at the start.
use Rattle.std.proofs.Common.{◌≡◌, ◌+◌, ◌++◌, length, drop, refl, ap, ◌∙◌, arith}
use Rattle.byte_unit_c.specs.Parse.{quoting}
use Rattle.byte_unit_c.proofs.Escapes.{quoted_length}
use Rattle.byte_unit_c.proofs.message.write_quoted.Goals as goal

pub returns-then-len-out-clause-text : goal.returns-then-len-out-clause-text
returns-then-len-out-clause-text c =
    let form = quoting c.args.character c.args.rest.now c.args.location in
    let is = quoted_length c.args.character c.args.rest.now c.args.location in
    let long : 16 + length c.args.rest.now + c.location_len.result ≡ length form =
    omega (arith, c.location_len.ensures.len, is) in
    let begin : c.put_quoted.result ≡ 0 = omega (arith, c.put_quoted.ensures.begins, long) in
    record {
      form = form;
      is_form = refl;
      needed_is = long;
      fits = λ inside. (rw begin at c.put_quoted.ensures.bytes) ∙ ap (λ n. form ++ drop n c.args.out.now) long;
      too_long = λ outside. absurd (omega (arith, outside, long, c.if-len-out.true));
    }
