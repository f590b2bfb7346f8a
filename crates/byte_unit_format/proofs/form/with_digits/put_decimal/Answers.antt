-- The digits are copied, the point and the fraction are put over those after the whole part, and the unit after them.
use Rattle.std.proofs.Common.{◌≡◌, ◌+◌, ◌-◌, ◌<◌, ◌≤◌, ◌∷◌, ◌++◌, ℕ, refl, ap, sym, arith, ◌∙◌}
use Rattle.std.proofs.Common.{take, drop, length, length-append}
use Rattle.std.proofs.lemmas.List.{length-take, length-drop}
use Rattle.byte_unit_format.proofs.UnitFraction.{drop_known, written_over}
use Rattle.byte_unit_format.proofs.WithDigits.{text_at, front_at, take_kept, cut_some, cut_none, three_of}
use Rattle.byte_unit_format.proofs.form.with_digits.put_decimal.Goals as goal
use Rattle.byte_unit_format.proofs.form.with_digits.put_decimal.Goals.{then-used-cut, else-used-cut}

-- Digits after the cut are put after a point (46), if any is used, and the unit `letters` after them.
pub returns-clause-text : goal.returns-clause-text
returns-clause-text c =
    let digits = c.args.digits.now in
    let cut = c.args.cut in
    let used = c.args.used in
    let copied = c.put.new.out in
    let new = c.put-2.new.out in
    let end = c.if-used-cut.end in
    let long = c.told-digits in
    let name = c.put-2.ensures in
    let letters = c.args.unit in
    let front : take cut copied ≡ take cut digits =
    front_at copied digits (drop 32 c.args.out.now) cut (omega (arith, c.put.ensures.begins, long)) c.put.ensures.bytes
    (omega (arith, long, c.requires.cut)) in
    let take_len : length (take cut digits) ≡ cut =
    omega (arith, length-take {A = ℕ} cut digits, long, c.requires.cut) in
    elim c.if-used-cut.branch [
      | then-used-cut w ↦
          (let more : cut < used = omega (arith, w.if-used-cut) in
          let fraction = w.put-then-used-cut.ensures in
          let shown = 46 ∷ take (used - cut) (drop cut digits) in
          let behind = drop end copied in
          let count_len : length (take (used - cut) (drop cut digits)) ≡ used - cut =
          omega (arith, length-take {A = ℕ}, length-drop {A = ℕ}, long, c.requires.cut, c.requires.used) in
          let here : drop cut new ≡ (shown ++ letters) ++ behind =
          written_over copied c.if-used-cut.out new _ letters cut (used - cut + 1) end refl
          (omega (arith, c.requires.used)) (omega (arith, w.end-is, more))
          (three_of digits cut (used - cut) (omega (arith, c.requires.used)) (omega (arith, long, c.requires.cut)))
          (omega (arith, fraction.begins))
          (ap (λ list. drop w.put-then-used-cut.result list) w.out-is ∙ fraction.bytes)
          (omega (arith, name.begins, w.end-is, more)) name.before name.bytes in
          let kept : take cut new ≡ take cut digits =
          take_kept _ _ (omega (arith, name.begins, w.end-is, more)) name.before
          ∙ rw w.out-is (take_kept _ _ (omega (arith, fraction.begins)) fraction.before ∙ front) in
          text_at (shown ++ letters) new behind cut end kept here
          (omega (arith, length-append {A = ℕ} shown letters, take_len, count_len, w.end-is, more))
          ∙ ap (λ text. take cut digits ++ (text ++ letters)) (sym (cut_some cut used digits more)))
      | else-used-cut w ↦
          (let few : used ≤ cut = omega (arith, w.if-used-cut) in
          let kept : take cut new ≡ take cut digits =
          take_kept _ _ (omega (arith, name.begins, w.end-is)) name.before ∙ rw w.out-is front in
          let here : drop cut new ≡ letters ++ drop end c.if-used-cut.out =
          drop_known {other = cut} new (omega (arith, name.begins, w.end-is)) name.bytes in
          text_at letters new (drop end c.if-used-cut.out) cut end kept here (omega (arith, take_len, w.end-is))
          ∙ ap (λ text. take cut digits ++ (text ++ letters)) (sym (cut_none cut used digits few)))
    ]
