-- Each iteration writes one more value; then the sequence is ended. The first error is returned. Of the invariant, `.0`
-- is on what was written, and `.1` on what is returned.
use Rattle.std.proofs.Common.{rules, ◌≡◌, length, subst, refl, Ok, Err}
use Rattle.std.proofs.lemmas.Result.{on_ok_weaker}
use Rattle.serde.proofs.Events.{WritesEach-more, WritesSeq-ends}
use Rattle.byte_unit_serde.proofs.WrittenSequences.{Continues, continues_end, drop_value}
use Rattle.byte_unit_serde.proofs.lists.Lists.serialize.Goals as goal

-- The format failed at the beginning of the sequence: that error is returned.
pub returns-in_err-begin_list-clause-exact : goal.returns-in_err-begin_list-clause-exact
returns-in_err-begin_list-clause-exact g c =
    (Err c.in_err-begin_list.field-0.0, c.begin_list.new.self, search rules, search rules)

-- A value could not be written: its error is returned.
pub returns-in_err-serialize_string-clause-exact : goal.returns-in_err-serialize_string-clause-exact
returns-in_err-serialize_string-clause-exact g c =
    let values = c.deref-item-items.result.now in
    let Writing = g.W.SerializeString.writing g.S.Sink.str_returns in
    let begun : c.len.result ≡ length c.args.values.now.items = search rules in
    -- The second part of the invariant, with the values that are left split into this one and those after it.
    let before = subst (λ rest. Continues Writing g.S.Sink.end_returns values rest c.begin_list.new.self c.loop-item.out)
    (drop_value values c.loop-item.item-index c.item-item.result c.loop-item-test.true c.item-item.is)
    c.loop-item.invariant.1 in
    let failed : Writing c.item-item.result c.loop-item.out (Err c.in_err-serialize_string.field-0.0) c.serialize_string.new.out =
    search rules in
    let error = before (Err c.in_err-serialize_string.field-0.0) c.serialize_string.new.out
    (Err c.in_err-serialize_string.field-0.0, c.serialize_string.new.out, failed, (refl, refl)) in (
      Ok c.in_ok-begin_list.field-0,
      c.begin_list.new.self,
      rw begun at c.in_ok-begin_list.ensures.returned,
      search (rules, error),
    )

-- A value was written: the invariant holds with it, first for what was written, then for what is returned.
pub loop-item-preserved : goal.loop-item-preserved
loop-item-preserved g c =
    let values = c.deref-item-items.result.now in
    let Writing = g.W.SerializeString.writing g.S.Sink.str_returns in
    let before = subst (λ rest. Continues Writing g.S.Sink.end_returns values rest c.begin_list.new.self c.loop-item.out)
    (drop_value values c.loop-item.item-index c.item-item.result c.loop-item-test.true c.item-item.is)
    c.loop-item.invariant.1 in
    let wrote : Writing c.item-item.result c.loop-item.out (Ok tt) c.serialize_string.new.out = search rules in (
      WritesEach-more g.W.SerializeString.writes _ _ _ _ _ _ c.loop-item-test.true c.item-item.is c.loop-item.invariant.0
          c.in_ok-serialize_string.ensures.written,
      λ result new ends. before result new (Ok tt, c.serialize_string.new.out, wrote, ends),
    )

-- The sequence is ended: if that succeeds, all values were written.
pub returns-clause-written : goal.returns-clause-written
returns-clause-written g c =
    on_ok_weaker c.end_list.result
    (WritesSeq-ends g.W.SerializeString.writes _ _ _ c.len.result _ _ _ _ c.deref-item-items.ensures.value (search rules)
    c.loop-item-test.false c.in_ok-begin_list.ensures.written c.loop-item.invariant.0)
    c.end_list.ensures.written

-- The sequence is ended: what the format returns then is returned.
pub returns-clause-exact : goal.returns-clause-exact
returns-clause-exact g c =
    let values = c.deref-item-items.result.now in
    let Writing = g.W.SerializeString.writing g.S.Sink.str_returns in
    let begun : c.len.result ≡ length c.args.values.now.items = search rules in
    let ended = continues_end Writing g.S.Sink.end_returns values c.loop-item.item-index c.begin_list.new.self
    c.loop-item.out c.end_list.new.self c.end_list.result c.loop-item.invariant.1 c.loop-item-test.false
    c.end_list.ensures.returned in (
      Ok c.in_ok-begin_list.field-0,
      c.begin_list.new.self,
      rw begun at c.in_ok-begin_list.ensures.returned,
      search (rules, ended),
    )
