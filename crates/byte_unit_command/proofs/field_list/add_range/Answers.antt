-- A range without a field adds nothing; any other is added to the last one, or after it.
use Rattle.std.proofs.Common.{◌≤◌, ◌++◌, ◌∷◌, [], List, ap, subst, sym, ◌∙◌}
use Rattle.std.specs.List.{All}
use Rattle.byte_unit_command.specs.Ranges.{AreApart, IsAdded}
use Rattle.byte_unit_command.specs.declared.options.FieldRange.{FieldRange}
use Rattle.byte_unit_command.proofs.Ranges.{HasField-last, IsAdded-both, IsAdded-next, IsAdded-none}
use Rattle.byte_unit_command.proofs.field_list.add_range.Goals as goal

-- nothing is added
pub returns-then-not-has_field : goal.returns-then-not-has_field
returns-then-not-has_field c =
    IsAdded-none c.args.ranges.now.items c.args.range c.requires.apart c.requires.begun
    (c.has_field.ensures.no c.if-not-has_field.true)

-- the last range has a field
pub union-requires-clause-field : goal.union-requires-clause-field
union-requires-clause-field c =
    HasField-last c.pop.new.self.items c.in-Some.last (subst AreApart c.in-Some.ensures.items c.requires.apart)

-- no field is between the last range and the new one: one range has the fields of both
pub returns-in_ok-push-in-Some-union : goal.returns-in_ok-push-in-Some-union
returns-in_ok-push-in-Some-union c =
    let Begun : List FieldRange → Type 0 = All (λ each. each.first ≤ c.args.range.first) in
    let parts = c.in-Some.ensures.items in
    let both = c.in-Some-union in
    let added = IsAdded-both c.pop.new.self.items c.in-Some.last c.args.range both.both
    (subst AreApart parts c.requires.apart) (subst Begun parts c.requires.begun) both.ensures.first both.ensures.field
    both.ensures.same in
    subst (λ new. IsAdded c.args.ranges.now.items c.args.range new) (sym c.in_ok-push-in-Some-union.ensures.items)
    (subst (λ old. IsAdded old c.args.range (c.pop.new.self.items ++ both.both ∷ [])) (sym parts) added)

-- a field is between them: the new range follows
pub returns-in_ok-push-in-None-2 : goal.returns-in_ok-push-in-None-2
returns-in_ok-push-in-None-2 c =
    let Begun : List FieldRange → Type 0 = All (λ each. each.first ≤ c.args.range.first) in
    let parts = c.in-Some.ensures.items in
    let new_are = c.in_ok-push-in-None-2.ensures.items ∙ ap (λ items. items ++ c.args.range ∷ [])
    c.in_ok-push-in-None.ensures.items in
    let added = IsAdded-next c.pop.new.self.items c.in-Some.last c.args.range (subst AreApart parts c.requires.apart)
    (subst Begun parts c.requires.begun) c.in-None.ensures.none (c.has_field.ensures.yes c.if-not-has_field.false) in
    subst (λ new. IsAdded c.args.ranges.now.items c.args.range new) (sym new_are)
    (subst (λ old. IsAdded old c.args.range ((c.pop.new.self.items ++ c.in-Some.last ∷ []) ++ c.args.range ∷ []))
    (sym parts) added)
