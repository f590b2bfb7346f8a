-- Each iteration reads one more item; the sequence ends after the last, or with an error.
use Rattle.std.proofs.Common.{rules, ◌≡◌, [], ◌∷◌, ◌++◌, subst, sym, Err, inl, inr}
use Rattle.serde.specs.Steps.{Stays}
use Rattle.byte_unit_serde.specs.Returns.{ReadingValue}
use Rattle.byte_unit_serde.specs.Serialized.{ReadsEach}
use Rattle.byte_unit_serde.proofs.ReadSequences.{reads_each_snoc, holds_of_error}
use Rattle.byte_unit_serde.proofs.lists.Lists.deserialize.Goals as goal

-- The format failed at the next item: the second case of `IsListError`, in its first part.
pub returns-in_err-next_in_list-clause-error : goal.returns-in_err-next_in_list-clause-error
returns-in_err-next_in_list-clause-error g c =
    let returned : g.F.Source.next_returns c.loop-items.from (Err c.in_err-next_in_list.field-0.0)
    c.next_in_list.new.from = search rules in
    holds_of_error _ c.from_residual-in_err-next_in_list.result c.in_err-next_in_list.field-0.0 (search rules)
    (inr (_, _, _, c.in_ok-begin_list.ensures.given, c.loop-items.invariant, inl returned))

-- The sequence has ended: the items are all its values.
pub returns-clause-list : goal.returns-clause-list
returns-clause-list g c =
    (c.begin_list.new.from, c.loop-items.from, c.in_ok-begin_list.ensures.given, c.loop-items.invariant, search rules)

-- The next item could not be read: the second case of `IsListError`, in its second part.
pub returns-in_err-item-clause-error : goal.returns-in_err-item-clause-error
returns-in_err-item-clause-error g c =
    let looks : Stays g.F.Format.stays c.loop-items.from c.next_in_list.new.from = search rules in
    let failed : ReadingValue g.R.DeserializeString.parses g.F.Source.string_returns g.F.Source.rejects
    c.next_in_list.new.from (Err c.in_err-item.field-0.0) c.deserialize.new.from = search rules in
    holds_of_error _ c.from_residual-in_err-item.result c.in_err-item.field-0.0 (search rules)
    (inr (_, _, _, c.in_ok-begin_list.ensures.given, c.loop-items.invariant, inr (inl (_, looks, failed))))

-- An item was read and stored: the items are the values that were read.
pub loop-items-preserved : goal.loop-items-preserved
loop-items-preserved g c =
    let pushed : c.append.new.items.items ≡ c.loop-items.items.items ++ c.in_ok-item.item ∷ [] = search rules in
    let looks : Stays g.F.Format.stays c.loop-items.from c.next_in_list.new.from = search rules in
    let more = reads_each_snoc g.R.DeserializeString.means g.F.Format.gives g.F.Format.stays c.loop-items.items.items
    c.in_ok-item.item _ c.loop-items.from c.next_in_list.new.from c.deserialize.new.from c.loop-items.invariant looks
    c.in_ok-item.ensures.string in
    subst (λ items. ReadsEach g.R.DeserializeString.means g.F.Format.gives g.F.Format.stays c.begin_list.new.from
    c.deserialize.new.from items) (sym pushed) more

-- An item was read and could not be stored: the second case of `IsListError`, in its third part.
pub returns-in_err-append-clause-error : goal.returns-in_err-append-clause-error
returns-in_err-append-clause-error g c =
    let looks : Stays g.F.Format.stays c.loop-items.from c.next_in_list.new.from = search rules in
    let given = c.in_ok-begin_list.ensures.given in
    let string = c.in_ok-item.ensures.string in
    let failed : g.F.Source.runs_out c.deserialize.new.from c.in_err-append.field-0.0 = search rules in
    holds_of_error _ c.from_residual-in_err-append.result c.in_err-append.field-0.0 (search rules)
    (inr (_, _, _, given, c.loop-items.invariant, inr (inr (c.next_in_list.new.from, _, looks, string, failed))))
