-- The digits after the places go, and then the zeros at the end: the number cut off after the places.
use Rattle.std.proofs.Common.{arith}
use Rattle.byte_unit_math.proofs.Cut.{cut_is_expansion, cleared, EndsInRunOf}
use Rattle.byte_unit_math.proofs.expansion.Expansion.floor_to.Goals as goal

-- `run` says that zeros follow the digits kept up to `places`, and `array` that the array is cleared after those kept.
pub returns : goal.returns
returns c =
    let e = c.args.self.now in
    let kept = c.trim_end_len-kept.result in
    let run : EndsInRunOf e c.args.places kept 0 = grind arith in
    let array = cleared c.self.inside e kept c.clear_from.new.digits c.self.invariant c.self.view_is (omega arith)
    c.clear_from.ensures in
    let cut = cut_is_expansion e c.args.places kept c.clear_from.new.digits run array in
    grind (arith, cut)
