-- The items of the loop are the substrings of the list between its commas.
use Rattle.std.proofs.Common.{◌≡◌, ℕ, List, ◌++◌, [], ◌∷◌, map, length, ap, sym, subst, lit<, Bor, Option, None, Some}
use Rattle.std.proofs.Common.{codes, option_map, unwrap_or}
use Rattle.std.proofs.lemmas.List.{map-append}
use Rattle.std.proofs.lemmas.Iterator.Consumers.{YieldsList-turn, YieldsList-end}
use Rattle.std.proofs.lemmas.Iterator.Splits.{YieldsList-from_str_split}
use Rattle.byte_unit_command.specs.FieldList.{IsListReading, IsRange, AreRanges}
use Rattle.byte_unit_command.specs.declared.options.FieldRange.{FieldRange}
use Rattle.byte_unit_command.proofs.Items.{AreRanges-append, AreRanges-at}
use Rattle.byte_unit_command.proofs.field_list.fields_of.Goals as goal

-- a list that is given is read
list_text : (given : Option (Bor (List ℕ))) (list : Bor (List ℕ)) → given ≡ Some list
    → list.now ≡ unwrap_or (option_map (λ list. list.now) given) (codes "1")
list_text given list is =
    ap (λ (given : Option (Bor (List ℕ))). unwrap_or (option_map (λ list. list.now) given) (codes "1")) (sym is)

-- if one more item is one more range, the items with it are the ranges with it
with_item : (items : List (Bor (List ℕ))) (item : Bor (List ℕ)) (ranges more : List FieldRange) (range : FieldRange)
    → AreRanges (map (λ item. item.now) items) ranges → IsRange item.now range → more ≡ ranges ++ range ∷ []
    → AreRanges (map (λ item. item.now) (items ++ item ∷ [])) more
with_item items item ranges more range are is more_is =
    let texts = map-append (λ (item : Bor (List ℕ)). item.now) items (item ∷ []) in
    subst (λ texts. AreRanges texts more) (sym texts)
    (subst (AreRanges (map (λ item. item.now) items ++ item.now ∷ [])) (sym more_is)
    (AreRanges-append (map (λ item. item.now) items) ranges item.now range are is))

-- the ranges so far are those of the items so far, after one more item
pub loop-item-preserved : goal.loop-item-preserved
loop-item-preserved c =
    with_item c.loop-item.yielded c.in-Some-item.item c.loop-item.ranges.items _ c.in-Some-range_of.range
    c.loop-item.invariant c.in-Some-range_of.ensures c.in_ok-push-in-Some-range_of.ensures.items

-- an item is no range, so the text is no list of ranges
pub returns-in-None-range_of : goal.returns-in-None-range_of
returns-in-None-range_of c =
    -- 44 is the comma: an ASCII character (`lit< tt`), at which the iterator splits the list
    let parts = YieldsList-from_str_split 44 c.in-Some.list.now (lit< tt) (cc) (cc) (cc) in
    -- `turn` says that there is an item at this index and that it is this one
    let turn = YieldsList-turn parts c.loop-item.yielded _ c.loop-item.yielded_by _ _ c.in-Some-item.item
    c.in-Some-item.is c.next.ensures.steps in
    let text = list_text c.args.list c.in-Some.list c.in-Some.is in
    subst (λ text. IsListReading text None) text (λ ranges are.
    let range = AreRanges-at _ ranges c.in-Some-item.item.now (length c.loop-item.yielded) are turn.0 turn.1 in
    c.in-None-range_of.ensures range.0 range.1)

-- all items are ranges, of which the list of fields is made
pub returns : goal.returns
returns c =
    let parts = YieldsList-from_str_split 44 c.in-Some.list.now (lit< tt) (cc) (cc) (cc) in
    let end = YieldsList-end parts c.loop-item.yielded _ c.loop-item.yielded_by _ _ c.in-None.is c.next.ensures.steps in
    let text = list_text c.args.list c.in-Some.list c.in-Some.is in
    let listed = c.loop-item.ranges.items in
    subst (λ text. IsListReading text (Some c.in_ok-new-2.field-0)) text
    (listed, subst (λ texts. AreRanges texts listed) end.0 c.loop-item.invariant, c.in_ok-new-2.ensures)
