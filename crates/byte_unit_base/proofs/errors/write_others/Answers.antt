use Rattle.std.proofs.Common.{◌≡◌, ℕ, ◌-◌, Bool, List, Ok, length, take, drop, refl, sym, ap, ◌∙◌, if◌then◌else◌, codes}
use Rattle.std.proofs.Output.{displays_on_IsOk_append, displays_on_ok_of_eq}
use Rattle.byte_unit_base.proofs.ErrorTexts.{left_text, separator}
use Rattle.byte_unit_base.proofs.errors.write_others.Goals as goal
use Rattle.byte_unit_base.proofs.errors.write_others.Goals.{then-is_empty, else-is_empty}

-- after a character is written, with what is written before it, the others are left
pub loop-left-preserved : goal.loop-left-preserved
loop-left-preserved g c = λ result done later.
    let left = c.loop-left.left.now in
    let rest = take (length left - 1) (drop 1 left) in
    let chosen : Bool → List ℕ = λ last. if last then codes " or " else codes ", " in
    let before : c.if-is_empty.before.now ≡ separator rest = elim c.if-is_empty.branch [
      | then-is_empty w ↦ ap (λ text. text.now) w.before-is ∙ ap chosen (sym w.if-is_empty.true ∙ c.is_empty.ensures)
      | else-is_empty w ↦ ap (λ text. text.now) w.before-is ∙ ap chosen (sym w.if-is_empty.false ∙ c.is_empty.ensures)
    ] in
    let text = left_text left c.if-is_empty.before.now c.c-item.result c.in-len1-up.len_at_least c.c-item.is before in
    let one = c.in_ok-write in
    let written = displays_on_IsOk_append _ _ _ _ (Ok one.field-0) _ _ _ (λ _. refl) one.ensures.writes later in
    c.loop-left.invariant result done (displays_on_ok_of_eq _ _ _ _ _ _ text written)
