-- The digits are ASCII; the point is written, and then the digits.
use Rattle.std.proofs.Common.{rules, ◌≡◌, ◌<◌, ◌∷◌, length, take, arith, refl, ap, sym, ◌∙◌}
use Rattle.std.proofs.Output.{has_written_styled_append, has_written_styled_of_eq}
use Rattle.std.proofs.lemmas.Grind.{common_steps}
use Rattle.byte_unit_math.specs.Numeral.{glyphs}
use Rattle.byte_unit_math.proofs.Fractions.{fraction_text_some}
use Rattle.byte_unit_math.proofs.expansion.fmt_fraction.Goals as goal

-- `both` is that the point (46) and the digits have been written.
pub returns-clause-styled : goal.returns-clause-styled
returns-clause-styled g c = λ flush ok.
    let digits = c.args.e.now.digits in
    let characters = c.glyphs_of.result in
    let some : 0 < length digits = omega (arith, c.places.ensures.exact) in
    let written : c.unwrap.result.now ≡ take c.places-2.result characters =
    first_of (search rules, grind (arith, common_steps)) in
    let all : c.unwrap.result.now ≡ glyphs digits =
    written ∙ (ap (λ k. take k characters) c.places-2.ensures.exact ∙ c.glyphs_of.ensures.front) in
    let point = c.in_ok-write_str.ensures.styled flush refl in
    let both = has_written_styled_append _ _ _ _ _ _ point (c.write_str-2.ensures.styled point.flush ok) in
    has_written_styled_of_eq _ _ _ _ _ (ap (λ l. 46 ∷ l) all ∙ sym (fraction_text_some digits some)) both
