-- The point, the first digits of a decimal, and zeros for the missing ones are written into the array, up to `end`.
use Rattle.std.proofs.Common.{◌-◌, ℕ, arith, append_assoc, subst}
use Rattle.std.specs.Str.{IsAscii}
use Rattle.std.proofs.lemmas.Str.{IsAscii-take, IsAscii-append}
use Rattle.std.proofs.lemmas.Str.Ascii.{IsAscii-cons}
use Rattle.byte_unit_format.proofs.TextParts.{fraction_text_of_shown, run_ascii, first_digits_put}
use Rattle.byte_unit_format.proofs.parts.put_first.Goals as goal

-- The point (46), the digits and the zeros (48) are the text of the fraction.
pub returns : goal.returns
returns c =
    let text = fraction_text_of_shown c.args.places c.min-shown.result c.args.e.now.digits c.glyphs_of.result
    (omega (arith, c.if-places-eq0.false)) (omega (arith, c.min-shown.ensures, c.places.ensures.exact))
    c.glyphs_of.ensures.front in
    let front = IsAscii-take c.glyphs_of.result c.min-shown.result c.glyphs_of.ensures.ascii in
    let zeros = run_ascii (c.args.places - c.min-shown.result) 48 (omega arith) in
    record {
      put = record {
        begins = grind (arith, first_digits_put);
        bytes = rw (← text, c.put_run.ensures.bytes, c.put-digits.ensures.bytes, c.put_run-zeros.ensures.bytes)
            (simp (append_assoc {A = ℕ}));
      };
      ascii = subst IsAscii text (IsAscii-cons 46 _ (omega arith) (IsAscii-append _ _ front zeros));
    }
