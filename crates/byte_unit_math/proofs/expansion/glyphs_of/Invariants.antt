-- The first i bytes are the first i digits in ASCII.
use Rattle.std.proofs.Common.{◌≡◌, take, length, IsAscii}
use Rattle.byte_unit_math.specs.Numeral.{glyphs}
use Rattle.byte_unit_math.proofs.expansion.glyphs_of.Given as goal

abbrev pub invariant-loop-i : goal.invariant-loop-i
invariant-loop-i l = record {
  size : length l.glyphs ≡ 93;
  ascii : IsAscii l.glyphs;
  front : take l.i l.glyphs ≡ glyphs (take l.i l.e.digits);
}
