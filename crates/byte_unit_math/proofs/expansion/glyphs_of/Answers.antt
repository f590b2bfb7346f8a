-- At the start the array has 93 zeros in ASCII.
use Rattle.std.proofs.Common.{◌<◌, arith, refl, replicate}
use Rattle.std.proofs.lemmas.List.Elements.{All-replicate}
use Rattle.std.proofs.lemmas.Str.Ascii.{IsAscii-from_all}
use Rattle.byte_unit_math.proofs.expansion.glyphs_of.Goals as goal

-- No digit has been copied; 48 is the character `0`.
pub loop-i-init : goal.loop-i-init
loop-i-init c = record {
  size = refl;
  ascii = IsAscii-from_all (replicate 93 48) (All-replicate (λ b. b < 128) 93 48 (omega arith));
  front = refl;
}
