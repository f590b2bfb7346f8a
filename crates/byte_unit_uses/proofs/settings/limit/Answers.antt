-- A setting that has a size is a string that is parsed as it.
use Rattle.std.proofs.Common.{◌≡◌, Some}
use Rattle.std.proofs.lemmas.Option.{same_Some}
use Rattle.serde_json.specs.Data.{string}
use Rattle.serde_json.specs.View.{view}
use Rattle.byte_unit_uses.proofs.settings.limit.Goals as goal

-- the setting is found: it has the size that its string is accepted as
pub returns-in-Some-clause-present : goal.returns-in-Some-clause-present
returns-in-Some-clause-present c = λ size states.
    let found = c.in-Some.ensures in
    let same : Some (view c.in-Some.value.now) ≡ Some (string states.0) = rw found states.1 in
    let is_string = same_Some _ _ same in
    let reading = rw is_string at c.from_json.ensures in
    let accepted = reading.1.reads size states.2 in
    rw accepted at reading.2
