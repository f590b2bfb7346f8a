-- One more range is added to the merged ones.
use Rattle.std.proofs.Common.{ℕ, ◌+◌, ◌<◌, ◌≤◌, ◌++◌, ◌∷◌, [], List, length, slice_index_or, take, add-one, ap, subst, sym}
use Rattle.std.proofs.Common.{◌∙◌, arith}
use Rattle.std.proofs.Math.Seq.{take-suc}
use Rattle.std.proofs.lemmas.List.Elements.{All-weaker}
use Rattle.byte_unit_command.specs.Ranges.{ChooseSame, IsAdded}
use Rattle.byte_unit_command.specs.declared.options.FieldRange.{FieldRange}
use Rattle.byte_unit_command.proofs.Ranges.{ChooseSame-before, ChooseSame-trans, default_range}
use Rattle.byte_unit_command.proofs.field_list.merge.Goals as goal

-- after one more range, the merged ranges choose the fields of the ranges so far
same-next : (ranges merged new : List FieldRange) (index : ℕ) → index < length ranges
    → ChooseSame (take index ranges) merged → IsAdded merged (slice_index_or ranges index default_range) new
    → ChooseSame (take (index + 1) ranges) new
same-next ranges merged new index bound same added =
    let next = slice_index_or ranges index default_range in
    let taken = ap (λ count. take count ranges) (add-one index) ∙ take-suc ranges index default_range bound in
    subst (λ begun. ChooseSame begun new) (sym taken)
    (ChooseSame-trans (take index ranges ++ next ∷ []) (merged ++ next ∷ []) new
    (ChooseSame-before (take index ranges) merged (next ∷ []) same) added.same)

-- the parts of the invariant after one more range; no later range begins before that
pub loop-range-preserved : goal.loop-range-preserved
loop-range-preserved c =
    let ranges = c.args.ranges.now in
    let index = c.loop-range.range-index in
    let new = c.add_range.new.ranges.items in
    let added = c.in_ok-add_range.ensures in record {
      apart = added.apart;
      same = same-next ranges c.loop-range.merged.items new index c.loop-range-test.true c.loop-range.invariant.same added;
      begun = λ k from bound.
          let rising = c.requires.order index k default_range (omega (arith, from)) bound in
          All-weaker (λ each. each.first ≤ (slice_index_or ranges index default_range).first)
          (λ each. each.first ≤ (slice_index_or ranges k default_range).first) (λ each is. omega (arith, is, rising)) new
          added.begun;
    }
