-- The first of the bytes there is the character.
use Rattle.std.proofs.Common.{ap, ◌∙◌, chars}
use Rattle.std.proofs.lemmas.List.{take_rest}
use Rattle.byte_unit_base.specs.Errors.Position.{next_char}
use Rattle.byte_unit_base.proofs.read.visible_next.Goals as goal

pub returns-then-is_ascii_from : goal.returns-then-is_ascii_from
returns-then-is_ascii_from c = record {
  ends = c.has_visible_ends.ensures c.if-has_visible_ends.true;
  ascii = c.is_ascii_from.ensures c.if-is_ascii_from.true;
  next_is = c.first_ascii.ensures ∙ ap (λ rest. next_char (chars rest)) (take_rest c.args.bytes.now c.args.index);
}
