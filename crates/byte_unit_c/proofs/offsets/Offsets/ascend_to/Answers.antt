-- The loop stops at the first offset that is less than the one before it; otherwise the last decides.
use Rattle.std.proofs.Common.{rules, arith, pos, true≢false, sym}
use Rattle.byte_unit_c.specs.Many.{offsets_of}
use Rattle.byte_unit_c.proofs.Ascending.{as_read, through, next, falls, last, not_below, not_both, is_at_most}
use Rattle.byte_unit_c.proofs.offsets.Offsets.ascend_to.Goals as goal

-- the invariant holds after an offset that is not below the one before it
pub loop-i-preserved : goal.loop-i-preserved
loop-i-preserved c =
    let is = as_read c.at-offset.result _ (search rules) c.at-offset.ensures in
    let above = not_below _ _ c.if-offset-low.false in
    record {
      from_zero = through (pos 0) _ _ c.loop-i.invariant.from_zero above;
      left = next _ _ (pos c.args.len) _ (offsets_of c.args.self) c.loop-i.i (omega arith) is above c.loop-i.invariant.left;
    }

-- an offset is below the one before it, so the offsets do not ascend
pub returns-then-offset-low : goal.returns-then-offset-low
returns-then-offset-low c =
    -- the two directions of the claim that `result` is `true` if and only if the offsets ascend: here both are `false`
    let is = as_read c.at-offset.result _ (search rules) c.at-offset.ensures in (
      (λ never. absurd (true≢false (sym never))),
      (λ ascends. absurd (not_both _ _ c.if-offset-low.true
          (falls _ (pos c.args.len) _ (offsets_of c.args.self) c.loop-i.i (omega arith) is
          (c.loop-i.invariant.left.0 ascends)))),
    )

-- all offsets are compared: they ascend if and only if the last is at most `len`
pub returns : goal.returns
returns c =
    let end = last _ _ (pos c.args.len) (offsets_of c.args.self) c.loop-i.i (omega arith) c.loop-i.invariant.left in
    let test = is_at_most _ c.args.len c.loop-i.invariant.from_zero in
    ((λ t. end.1 (test.0 t)), (λ ascends. test.1 (end.0 ascends)))
