-- A string with visible characters at both ends has nothing to trim.
use Rattle.std.proofs.Common.{ap, subst, sym, ◌∙◌, chars}
use Rattle.byte_unit_base.specs.Reading.Ends.{HasVisibleEnds}
use Rattle.byte_unit_base.proofs.Trim.{chars-trim, trim_visible}
use Rattle.byte_unit_base.proofs.read.trimmed.Goals as goal

-- the string is its own trimmed string
pub returns-then-has_visible_ends : goal.returns-then-has_visible_ends
returns-then-has_visible_ends c =
    let ends = subst HasVisibleEnds c.as_bytes.ensures.value (c.has_visible_ends.ensures c.if-has_visible_ends.true) in
    sym (trim_visible c.args.s.now c.utf8.s ends)

-- if an end is not a visible character of ASCII, std trims the string
pub returns-else-has_visible_ends : goal.returns-else-has_visible_ends
returns-else-has_visible_ends c = ap chars c.trim.ensures.trim ∙ chars-trim c.args.s.now c.utf8.s
