-- The line begins with a whole part, or with a whole part, a point and a fraction, or stops where a digit is missing or
-- is one too many.
use Rattle.std.proofs.Common.{◌≢◌, ◌<◌, length, get_or, arith}
use Rattle.byte_unit_base.specs.Grammar.Number.{point}
use Rattle.byte_unit_base.proofs.NumberEnds.{leading_whole, leading_precise, stops_at_start, stops_after_point}
use Rattle.byte_unit_base.proofs.NumberEnds.{stops_in_whole, stops_in_fraction, fraction_below}
use Rattle.byte_unit_base.proofs.read.digits.read_number.Goals.{then-end-line-via-then-end-line}
use Rattle.byte_unit_base.proofs.read.digits.read_number.Goals.{then-end-line-via-else-end-line+then-line-end-ne46}
use Rattle.byte_unit_base.proofs.read.digits.read_number.Goals as goal

-- no digit is at the start
pub returns-then-end-eq0 : goal.returns-then-end-eq0
returns-then-end-eq0 g c =
    stops_at_start c.args.line.now (omega (arith, c.if-end-eq0.true, c.leading_digits-end.ensures.end))

-- the whole part reaches 2^112
pub returns-in-TooLong : goal.returns-in-TooLong
returns-in-TooLong g c = stops_in_whole c.args.line.now _ _ c.leading_digits-end.ensures.end
    c.leading_digits-end.ensures.bound c.in-TooLong.ensures

-- no point follows the whole part; `run` is the end of its digits and the last 64 bits of their value
pub returns-then-end-line : goal.returns-then-end-line
returns-then-end-line g c =
    let run = c.leading_digits-end in
    let bytes = c.args.line.now in
    let other : run.result.0 < length bytes → get_or bytes run.result.0 0 ≢ point = elim c.then-end-line.branch [
      | then-end-line-via-then-end-line w ↦ λ inside. absurd (omega (arith, inside, w.if-end-line.true))
      | then-end-line-via-else-end-line+then-line-end-ne46 w ↦ λ inside. w.if-line-end-ne46.true
    ] in
    leading_whole bytes run.result.0 c.in-Value.whole run.ensures.end run.ensures.bound c.if-end-eq0.false
    c.in-Value.ensures.0 (λ _. c.in-Value.ensures.1) c.from_digits.result other
    (omega (arith, c.from_digits.ensures))

-- no digit follows the point
pub returns-then-places-eq0 : goal.returns-then-places-eq0
returns-then-places-eq0 g c =
    stops_after_point _ _ _ c.leading_digits-end.ensures.end c.leading_digits-end.ensures.bound c.if-end-eq0.false
    c.in-Value.ensures.0 (λ _. c.in-Value.ensures.1) c.if-end-line.false c.if-line-end-ne46.false
    (omega (arith, c.if-places-eq0.true, c.leading_digits-stop.ensures.end))

-- more than 28 digits follow the point
pub returns-then-places : goal.returns-then-places
returns-then-places g c =
    stops_in_fraction _ _ _ c.leading_digits-end.ensures.end c.leading_digits-end.ensures.bound c.if-end-eq0.false
    c.in-Value.ensures.0 (λ _. c.in-Value.ensures.1) c.if-end-line.false c.if-line-end-ne46.false
    _ c.leading_digits-stop.ensures.end c.leading_digits-stop.ensures.bound (omega (arith, c.if-places.true))

-- the value of the digits after the point has no more digits than these
pub from_digits-number-requires-clause-digits : goal.from_digits-number-requires-clause-digits
from_digits-number-requires-clause-digits g c =
    fraction_below _ _ _ c.leading_digits-end.ensures.end c.leading_digits-end.ensures.bound c.if-end-eq0.false
    c.in-Value.ensures.0 (λ _. c.in-Value.ensures.1) c.if-end-line.false c.if-line-end-ne46.false
    _ c.leading_digits-stop.ensures.end c.leading_digits-stop.ensures.bound _
    c.value_of-digits.ensures

-- a whole part, a point and a fraction are the number
pub returns : goal.returns
returns g c =
    leading_precise _ _ _ c.leading_digits-end.ensures.end c.leading_digits-end.ensures.bound c.if-end-eq0.false
    c.in-Value.ensures.0 (λ _. c.in-Value.ensures.1) c.if-end-line.false c.if-line-end-ne46.false
    _ c.leading_digits-stop.ensures.end c.leading_digits-stop.ensures.bound _ _ c.if-places-eq0.false
    (omega (arith, c.if-places.false)) c.value_of-digits.ensures c.from_digits-number.ensures
