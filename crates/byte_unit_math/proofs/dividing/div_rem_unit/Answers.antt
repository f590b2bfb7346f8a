-- A power of 2 is a shift and a mask: what is left of it without its factors of 2 is 1.
use Rattle.std.proofs.Common.{◌≡◌, ◌-◌, ◌*◌, ◌/◌, ◌%◌, ◌^◌, ◌∙◌, arith, ap, sym, bit_and}
use Rattle.std.specs.Int.{trailing_zeros, w128}
use Rattle.std.proofs.lemmas.Nat.{and_mask}
use Rattle.byte_unit_math.proofs.TwosFives.{FivesOff-trailing_zeros}
use Rattle.byte_unit_math.proofs.dividing.div_rem_unit.Goals as goal

-- The divisor is a power of 2.
pub returns-then-divisor-twos-eq1 : goal.returns-then-divisor-twos-eq1
returns-then-divisor-twos-eq1 c =
    let off = FivesOff-trailing_zeros c.args.divisor (omega arith) (omega arith) in
    let twos = trailing_zeros w128 c.args.divisor in
    let one = ap (λ left. left * (2 ^ twos * 5 ^ 0)) c.if-divisor-twos-eq1.true in
    let power : c.args.divisor ≡ 2 ^ twos = omega (arith, off.product, one) in
    record {
      quotient = ap (λ d. c.args.dividend / d) (sym power);
      rest = ap (λ d. bit_and c.args.dividend (d - 1)) power
          ∙ (and_mask c.args.dividend twos ∙ ap (λ d. c.args.dividend % d) (sym power));
    }
