-- Each iteration converts one record, the first of the rest. If it fails, what was appended is that of the records
-- before.
use Rattle.std.proofs.Common.{◌+◌, ◌++◌, [], Err, take, refl, sym, subst, ◌∙◌}
use Rattle.std.proofs.lemmas.List.{take_rest}
use Rattle.byte_unit_stream.specs.RecordSteps.{AreConverted}
use Rattle.byte_unit_stream.specs.declared.run.RunError.TheVariants.{Memory}
use Rattle.byte_unit_stream.proofs.Ends.{ended_records-EndsAt, begun_record-EndsAt}
use Rattle.byte_unit_stream.proofs.RecordSteps.{AreConverted-failed, Continues-next}
use Rattle.byte_unit_stream.proofs.run.feed.Goals as goal

-- before the first record, all are left
pub loop-n-init : goal.loop-n-init
loop-n-init g c = (λ new result at. at, refl, c.requires)

-- the invariant holds after one more record
pub loop-n-preserved : goal.loop-n-preserved
loop-n-preserved g c =
    let rest = c.loop-n.rest.now in
    let part = c.loop-n.part.items in
    let ends = c.in-Some.ensures.some in
    let rest_is = take_rest rest (c.in-Some.n + 1) in (
      λ new result at. c.loop-n.invariant.0 new result (Continues-next g.S.RecordSteps.relation part rest ends
          c.in-Ok.ensures.step c.in-Ok.ensures.part rest_is new result at),
      rw (c.loop-n.invariant.1, begun_record-EndsAt c.args.end part rest c.in-Some.n ends, c.in-Ok.ensures.part, rest_is)
          refl,
      c.in-Ok.ensures.same_end ∙ c.loop-n.invariant.2,
    )

-- the next record could not be converted
pub returns-in-Err-clause-converted : goal.returns-in-Err-clause-converted
returns-in-Err-clause-converted g c =
    let rest = c.loop-n.rest.now in
    let part = c.loop-n.part.items in
    let new = g.S.RecordSteps.at c.convert_next.new.steps in
    let failed = AreConverted-failed g.S.RecordSteps.relation (part ++ take c.in-Some.n rest) _ _ new c.in-Err.error
    c.in-Err.ensures.step in
    c.loop-n.invariant.0 new (Err c.in-Err.error) (subst (λ records. AreConverted g.S.RecordSteps.relation records
    (g.S.RecordSteps.at c.loop-n.steps) new (Err c.in-Err.error)) (sym (ended_records-EndsAt c.args.end part rest
    c.in-Some.n c.in-Some.ensures.some)) failed)

-- allocation failed for the part of the next record
pub returns-in-Err-extend_from_slice-clause-converted : goal.returns-in-Err-extend_from_slice-clause-converted
returns-in-Err-extend_from_slice-clause-converted g c =
    c.loop-n.invariant.0 (g.S.RecordSteps.at c.loop-n.steps) (Err Memory) (record {
      first = [];
      is_beginning = (_, refl);
      all = record { new = g.S.RecordSteps.at c.loop-n.steps; steps = refl; out_is = refl; messages_are = refl };
    })
