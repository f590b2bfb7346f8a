-- The digits are copied, then what is between, and the size in its unit after that.
use Rattle.std.proofs.Common.{◌≡◌, ◌≤◌, ◌+◌, ◌-◌, ◌++◌, List, ℕ, ap, sym, arith, ◌∙◌, take, drop, length, append_assoc}
use Rattle.std.specs.Fmt.{decimal}
use Rattle.std.proofs.Math.Seq.{take-append-add}
use Rattle.std.proofs.lemmas.List.{take-append-le, length-take, length-drop}
use Rattle.byte_unit_format.proofs.UnitFraction.{drop_known}
use Rattle.byte_unit_format.proofs.WithDigits.{text_at, front_at, take_kept, first_of_padded, padded_length}
use Rattle.byte_unit_format.proofs.form.with_digits.put_with_digits.Goals as goal

-- `copied` and `middle` are the array after the digits and after what is between; `written` is its rest, with the size.
pub returns : goal.returns
returns c =
    let size = c.args.size in
    let len = c.put_padded_digits-len.result in
    let between = c.args.between in
    let old = c.args.out.now in
    let copied = c.put.new.out in
    let middle = c.put-2.new.out in
    let written = c.put_form_of.new.out in
    let count = c.put_form_of.result in
    let len_is = c.put_padded_digits-len.ensures.len in
    let few = c.put_padded_digits-len.ensures.bound in
    let array = c.put_padded_digits-len.new.digits in
    let digits = c.put_padded_digits-len.ensures.digits in
    let long : length array ≡ 32 = rw digits (padded_length size (omega (arith, len_is, few))) in
    let at : c.put-2.result ≡ len = omega (arith, c.put-2.ensures.begins) in
    let front : take len middle ≡ decimal size = take_kept _ _ (omega (arith, at)) c.put-2.ensures.before
    ∙ (front_at copied array (drop 32 old) len (omega (arith, c.put.ensures.begins, long)) c.put.ensures.bytes
    (omega (arith, long, few)) ∙ rw digits (first_of_padded size len len_is)) in
    let before : take (len + 3) middle ≡ decimal size ++ between =
    text_at between middle (drop (len + 3) copied) len (len + 3) front (drop_known middle at c.put-2.ensures.bytes)
    (omega (arith, len_is)) in
    let start = len + 3 in
    let behind : List ℕ = drop (length middle - start) (drop start middle) in
    let room : count ≤ length written = omega (arith, length-take {A = ℕ}, length-drop {A = ℕ}, few) in
    let start_len : length (take start middle) ≡ start = omega (arith, length-take {A = ℕ}, few) in
    record {
      text = record {
        form = take count written;
        is_form = c.put_form_of.ensures.form;
        text_is =
            ap (λ n. take (n + count) (take start middle ++ (written ++ behind))) (sym start_len)
            ∙ (take-append-add (take start middle) (written ++ behind) count
            ∙ rw (before, take-append-le count written behind room)
            (append_assoc (decimal size) between (take count written)));
      };
      bound = omega (arith, c.put_form_of.ensures.bound, few);
    }
