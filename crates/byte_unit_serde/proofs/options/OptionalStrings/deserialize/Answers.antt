-- What is returned follows from whether the format gave nothing, and else from what was read.
use Rattle.std.proofs.Common.{rules, true, false, Ok, Err, refl}
use Rattle.byte_unit_serde.proofs.options.OptionalStrings.deserialize.Goals as goal

-- The format failed when it was asked whether it has nothing: that error is returned.
pub returns-in_err-read_none-clause-exact : goal.returns-in_err-read_none-clause-exact
returns-in_err-read_none-clause-exact g c =
    (Err c.in_err-read_none.field-0.0, c.read_none.new.from, search rules, search rules)

-- The format has nothing: `None` is returned.
pub returns-then-branch-clause-exact : goal.returns-then-branch-clause-exact
returns-then-branch-clause-exact g c = (Ok true, c.read_none.new.from, search rules, (refl, refl))

-- The format has something, and reading it failed: that error is returned.
pub returns-in_err-deserialize-clause-exact : goal.returns-in_err-deserialize-clause-exact
returns-in_err-deserialize-clause-exact g c = (
  Ok false,
  c.read_none.new.from,
  search rules,
  (Err c.in_err-deserialize.field-0.0, search rules, search rules),
)

-- The format has something, and it was read: its value is returned.
pub returns-clause-exact : goal.returns-clause-exact
returns-clause-exact g c =
    (Ok false, c.read_none.new.from, search rules, (Ok c.in_ok-deserialize.field-0, search rules, refl))
