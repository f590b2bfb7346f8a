-- Each iteration adds one field with the bytes after it; the last field follows the loop, or a rest without a chosen
-- field. The parts of the invariant are in `Invariants.antt`. `.ensures.1` of a `from_residual`: the error in its result
-- is the one that `?` passes on.
use Rattle.std.proofs.Common.{◌≡◌, ◌≤◌, ◌+◌, ◌∷◌, List, [], Option, ℕ, take, drop, length, sym}
use Rattle.std.proofs.Common.{ap, ◌∙◌, subst, arith, eqb-true}
use Rattle.std.proofs.lemmas.List.{nil_from_length, take_rest}
use Rattle.std.proofs.lemmas.Result.{MatchResult-weaker}
use Rattle.byte_unit_command.specs.Fields.{EndsFirst, between_by, between_of, fields_by, fields_of}
use Rattle.byte_unit_command.specs.CallEnds.{IsEarly, state_of}
use Rattle.byte_unit_command.specs.Ranges.{AreRangesFrom, IsChosenField}
use Rattle.byte_unit_command.specs.declared.options.Separator.{Separator}
use Rattle.byte_unit_command.proofs.Ranges.{AreRangesFrom-step}
use Rattle.byte_unit_command.proofs.Results.{error-passed}
use Rattle.byte_unit_command.proofs.Splitting.{AddsFields-last, AddsFields-copied, IsEarly-next}
use Rattle.byte_unit_command.proofs.Splitting.{IsSplitting-start, IsSplitting-step}
use Rattle.byte_unit_command.proofs.converter.Converter.add_split.Goals as goal

-- the end of the first field, by the separator of the options
ends_by : (given separator : Option Separator) (bytes : List ℕ) (n : ℕ) → separator ≡ given
    → EndsFirst given bytes n → EndsFirst separator bytes n
ends_by given separator bytes n is ends = subst (λ separator. EndsFirst separator bytes n) (sym is) ends

-- at the start no field is added, the rest is the record, and all ranges from the first field on are left
pub loop-n-init : goal.loop-n-init
loop-n-init g c = (
  IsSplitting-start c.args.bytes.now (state_of c.args.self.now),
  subst (λ ranges. AreRangesFrom ranges 1 c.ranges_after-ranges.result.now) c.as_slice.ensures.view
      c.ranges_after-ranges.ensures,
)

-- a field before the last was rejected in the mode `abort`, and so the record is; or the call was out of memory
pub returns-in_err-add_field : goal.returns-in_err-add_field
returns-in_err-add_field g c =
    let options = c.args.self.now.context.options.now in
    let rest = c.loop-n.rest.now in
    let n = c.in-Some.n in
    let next = state_of c.add_field.new.self in
    let ends = ends_by _ _ _ _ c.requires c.in-Some.ensures.some in
    error-passed _ (IsEarly 1 (fields_of options c.args.bytes.now) (state_of c.args.self.now) next) _ _
    c.from_residual.ensures.1 (IsEarly-next c.loop-n.invariant.0 (take n rest ∷ [])
    (fields_of options (drop (n + length (between_of options)) rest)) ends.2 next _
    c.in_err-add_field.ensures)

-- the invariant holds after one more field; its parts are in the order of `Invariants.antt`
pub loop-n-preserved : goal.loop-n-preserved
loop-n-preserved g c =
    let rest = c.loop-n.rest.now in
    let n = c.in-Some.n in
    let between = c.between-between in (
      IsSplitting-step c.loop-n.invariant.0 between.result.now (between.ensures ∙ ap between_by (sym c.requires)) n
          (ends_by _ _ _ _ c.requires c.in-Some.ensures.some) (state_of c.add_field.new.self) c.in_ok-add_field.ensures
          c.extend_from_slice.new.self.items c.in_ok-extend_from_slice.ensures.items _ (take_rest rest (n + length between.result.now)),
      AreRangesFrom-step _ _ _ c.loop-n.number c.loop-n.invariant.1 c.ranges_after-ranges-in-Some.ensures,
    )

-- no range is left: the other fields are copied at once
pub returns-then-is_empty : goal.returns-then-is_empty
returns-then-is_empty g c =
    let options = c.args.self.now.context.options.now in
    let rest = c.loop-n.rest.now in
    let n = c.in-Some.n in
    let between = c.between-between in
    let number = c.loop-n.number in
    let stepped = IsSplitting-step c.loop-n.invariant.0 between.result.now
    (between.ensures ∙ ap between_by (sym c.requires)) n (ends_by _ _ _ _ c.requires c.in-Some.ensures.some)
    (state_of c.add_field.new.self) c.in_ok-add_field.ensures c.extend_from_slice.new.self.items
    c.in_ok-extend_from_slice.ensures.items _ (take_rest rest (n + length between.result.now)) in
    let ranges = c.ranges_after-ranges-in-Some.result.now in
    let none = nil_from_length ranges (eqb-true (length ranges) 0 (sym c.if-is_empty.ensures)) in
    let past : (later : ℕ) → number + 1 ≤ later → ¬ IsChosenField options.fields.now later =
    λ later high chosen.
    let left = (c.ranges_after-ranges-in-Some.ensures.same later high).0
    ((c.loop-n.invariant.1.same later (omega (arith, high))).0 chosen) in
    subst (λ ranges. IsChosenField ranges later) none left in
    AddsFields-copied stepped c.args.separator c.requires past
    c.extend_from_slice-then-is_empty.new.self.items c.in_ok-extend_from_slice-2.ensures.items

-- the last field: if it is added, all fields are, and if it is rejected, the record is
pub returns : goal.returns
returns g c =
    let next = state_of c.add_field-2.new.self in
    let rest = c.loop-n.rest.now in
    let last = subst (λ separator. fields_by separator rest ≡ rest ∷ []) (sym c.requires) c.in_default.ensures.none in
    MatchResult-weaker c.add_field-2.result c.add_field-2.ensures
    (λ _ adds. AddsFields-last c.loop-n.invariant.0 last next adds)
    (λ error early. IsEarly-next c.loop-n.invariant.0 (c.loop-n.rest.now ∷ []) [] last next error early)
