-- A sort leaves no range that begins after the next one, and takes none away.
use Rattle.std.proofs.Common.{rules, subst, sym}
use Rattle.std.specs.List.Sorted.{IsNonDecreasingBy}
use Rattle.std.proofs.lemmas.List.Sorted.{IsNonDecreasingBy-from_sort_by_key}
use Rattle.byte_unit_command.specs.Ranges.{ChooseSame}
use Rattle.byte_unit_command.proofs.Ranges.{ChooseSame-permutation, ChooseSame-trans}
use Rattle.byte_unit_command.proofs.field_list.FieldList.new.Goals as goal

-- the key of a range is its first field
pub merge-requires : goal.merge-requires
merge-requires c =
    let sorted = c.sort_unstable_by_key.new.self.items in
    let rising = IsNonDecreasingBy-from_sort_by_key (λ range. range.first) sorted c.sort_unstable_by_key.ensures.sorted
    (λ a r q k. search rules) in
    record { order = subst (IsNonDecreasingBy (λ range. range.first)) (sym c.as_slice.ensures.value) rising }

-- the merged ranges choose the same fields as the sorted ones, and so as the ranges that were given
pub returns : goal.returns
returns c =
    let sorted = c.sort_unstable_by_key.new.self.items in
    let merged = c.in_ok-merged.merged.items in
    ChooseSame-trans c.args.ranges.items sorted merged
    (ChooseSame-permutation c.args.ranges.items sorted c.sort_unstable_by_key.ensures.permutation)
    (subst (λ ranges. ChooseSame ranges merged) c.as_slice.ensures.value c.in_ok-merged.ensures.same)
