-- One is added at the last place that is not a nine, and the digits after it go; if there is none, it is added to the
-- whole part.
use Rattle.std.proofs.Common.{arith}
use Rattle.byte_unit_math.proofs.Cut.{next_digit_is_expansion, next_digit_normalized, cleared, length_of_view}
use Rattle.byte_unit_math.proofs.Cut.{BeginsWith, EndsInRunOf}
use Rattle.byte_unit_math.proofs.expansion.Expansion.ceil_to.Goals.{After-clear_from}
use Rattle.byte_unit_math.proofs.expansion.Expansion.ceil_to.Goals as goal

-- The digits up to `places` end in nines after the digits that are kept.
run : (c : After-clear_from) → EndsInRunOf c.args.self.now c.args.places c.trim_end_len-kept.result 9
run c = grind arith

-- With the bytes after them cleared, the array begins with the digits that are kept.
array : (c : After-clear_from) → BeginsWith c.args.self.now c.trim_end_len-kept.result c.clear_from.new.digits
array c = cleared c.self.inside c.args.self.now c.trim_end_len-kept.result c.clear_from.new.digits c.self.invariant
    c.self.view_is (omega arith) c.clear_from.ensures

-- With one more in its last digit, the number still is trimmed.
pub invariant_of-self-else-kept-eq0 : goal.invariant_of-self-else-kept-eq0
invariant_of-self-else-kept-eq0 c =
    let start = (goal.at.invariant_of-self-else-kept-eq0 c).After-clear_from in
    let count = length_of_view c.self.inside c.args.self.now c.self.invariant c.self.view_is in
    next_digit_normalized c.args.self.now c.args.places c.trim_end_len-kept.result c.self.inside.whole
    c.clear_from.new.digits (run start) (array start) (omega arith) (omega (arith, count, c.self.invariant.few))
    (c.self.invariant.room (omega (arith, count)))

-- The number is cut off after the places, plus one in its last digit.
pub returns-else-kept-eq0 : goal.returns-else-kept-eq0
returns-else-kept-eq0 c =
    let start = (goal.at.returns-else-kept-eq0 c).After-clear_from in
    let next = next_digit_is_expansion c.args.self.now c.args.places c.trim_end_len-kept.result c.clear_from.new.digits
    (run start) (array start) (omega arith) in
    grind (arith, next)
