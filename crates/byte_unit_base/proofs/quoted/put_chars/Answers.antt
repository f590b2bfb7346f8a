-- There is room for each character, since there is for all; at the end, those that were written are all.
use Rattle.std.proofs.Common.{◌≡◌, ℕ, List, ◌+◌, ◌<◌, ◌≤◌, map, length, take, get_or, arith, ap, sym, subst, ◌∙◌, map-id, flat_map, chars}
use Rattle.std.proofs.lemmas.Iterator.{YieldsList-from_chars}
use Rattle.std.proofs.lemmas.Iterator.Consumers.{YieldsList-end, YieldsList-so_far, YieldsList-turn}
use Rattle.std.proofs.lemmas.List.Folds.{length-flat_map-take}
use Rattle.byte_unit_base.specs.Errors.PutAfter.{IsPutAfter}
use Rattle.byte_unit_base.specs.Errors.Quoted.{escape_char}
use Rattle.byte_unit_base.proofs.quoted.put_chars.Goals as goal

-- there is room for the next character after those so far
room_for_next : (cs yielded : List ℕ) (c begin end room : ℕ) → map (λ c. c) yielded ≡ take (length yielded) cs
    → (length yielded < length cs) × (c ≡ get_or cs (length yielded) c)
    → begin + length (flat_map escape_char yielded) ≡ end → begin + length (flat_map escape_char cs) ≤ room
    → end + length (escape_char c) ≤ room
room_for_next cs yielded c begin end room so_far next ends fits =
    omega (
      arith,
      length-flat_map-take escape_char cs (length yielded) c next.0,
      ap (λ cs. length (flat_map escape_char cs)) (sym (map-id yielded) ∙ so_far),
      ap (λ c. length (escape_char c)) next.1,
    )

pub put_char-end-requires : goal.put_char-end-requires
put_char-end-requires c =
    let loop = c.loop-c in
    let fits : c.args.begin + length (flat_map escape_char (chars c.args.text.now)) ≤ length loop.buffer = omega arith in
    let all = YieldsList-from_chars c.args.text.now c.utf8.text cc in
    room_for_next (chars c.args.text.now) loop.yielded c.in-Some.c _ _ _
    (YieldsList-so_far all loop.yielded _ loop.yielded_by)
    (YieldsList-turn all loop.yielded _ loop.yielded_by _ _ _ c.in-Some.is c.next.ensures.steps)
    loop.invariant.ends fits

-- the loop has yielded all characters of the text
pub returns : goal.returns
returns c =
    let text = c.args.text.now in
    let all = YieldsList-end (YieldsList-from_chars text c.utf8.text cc) c.loop-c.yielded _ c.loop-c.yielded_by _ _
    c.in-None.is c.next.ensures.steps in
    subst (λ cs. IsPutAfter (flat_map escape_char cs) c.args.begin c.args.buffer.now c.loop-c.buffer c.loop-c.end)
    (sym (map-id c.loop-c.yielded) ∙ all.0) c.loop-c.invariant
