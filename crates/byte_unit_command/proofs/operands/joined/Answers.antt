-- At the end all operands are joined.
use Rattle.std.proofs.Common.{ℕ, List, ◌++◌, ◌∷◌, [], Bor, map, take, get_or, ap, sym, subst, ◌∙◌}
use Rattle.std.proofs.lemmas.List.{map_more, take_all}
use Rattle.byte_unit_command.specs.Operands.{HasOperands}
use Rattle.byte_unit_command.proofs.Joining.{joined, joined-append, joined-HasOperands}
use Rattle.byte_unit_command.proofs.operands.joined.Goals as goal

-- the invariant holds after one more operand and its zero byte
pub loop-operand-preserved : goal.loop-operand-preserved
loop-operand-preserved c =
    let operands = c.args.operands.now in
    let at = c.loop-operand.operand-index in
    -- the record is what an index past the end would give, which is never used here
    let more = map_more (λ (operand : Bor (List ℕ)). operand.now) operands at (record { ref_ptr = (0, 0); now = [] })
    c.loop-operand-test.true in
    let begun = map (λ (operand : Bor (List ℕ)). operand.now) (take at operands) in
    c.in_ok-push.ensures.items ∙ ap (λ front. front ++ 0 ∷ []) (c.in_ok-extend_from_slice.ensures.items
    ∙ ap (λ text. c.loop-operand.input.items ++ text) c.as_bytes.ensures.value
    ∙ ap (λ front. front ++ (get_or operands at (record { ref_ptr = (0, 0); now = [] })).now) c.loop-operand.invariant)
    ∙ sym (joined-append begun (get_or operands at (record { ref_ptr = (0, 0); now = [] })).now) ∙ ap joined (sym more)

-- the loop has ended, so all operands are joined
pub returns : goal.returns
returns c =
    let operands = c.args.operands.now in
    let all = take_all c.loop-operand.operand-index operands c.loop-operand-test.false in
    let whole = c.loop-operand.invariant ∙ ap (λ operands. joined
    (map (λ (operand : Bor (List ℕ)). operand.now) operands)) all in
    subst (HasOperands (map (λ (operand : Bor (List ℕ)). operand.now) operands)) (sym whole)
    (joined-HasOperands (map (λ (operand : Bor (List ℕ)). operand.now) operands))
