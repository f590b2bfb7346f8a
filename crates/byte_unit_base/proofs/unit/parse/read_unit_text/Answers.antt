-- The unit that the trimmed string spells, or where the parser stops in it.
use Rattle.std.proofs.Common.{Ok, ap, sym, subst, ◌+◌, ◌∙◌, chars, IsUtf8}
use Rattle.byte_unit_base.specs.Grammar.Version.{current}
use Rattle.byte_unit_base.specs.Grammar.Spelling.{Spells}
use Rattle.byte_unit_base.specs.Grammar.Units.{shape_of}
use Rattle.byte_unit_base.specs.Reading.Machines.{start}
use Rattle.byte_unit_base.specs.Errors.Position.{next_char}
use Rattle.byte_unit_base.specs.Reading.Ends.{IsUnitStop}
use Rattle.byte_unit_base.proofs.Positions.{unit_stop_in_string}
use Rattle.byte_unit_base.proofs.SizeRest.{boundary_at}
use Rattle.byte_unit_base.proofs.Trim.{chars-trim}
use Rattle.byte_unit_base.proofs.UnitReads.{unit_reading}
use Rattle.byte_unit_base.proofs.UnitStops.{run_ascii, spelled_chars}
use Rattle.byte_unit_base.proofs.unit.parse.read_unit_text.Goals as goal

-- the parser stops where a character begins or the string ends, so the rest of the string can be taken from there
pub range_from-requires : goal.range_from-requires
range_from-requires c =
    let stop = c.in-Err.stop in
    let stops = subst (λ text. IsUnitStop c.args.flags text stop.reason stop.index) c.as_bytes-bytes.ensures.value c.in-Err.ensures in
    let leads = stops.1 in
    let utf8 = subst IsUtf8 c.as_bytes-bytes.ensures.value c.as_bytes-bytes.ensures.utf8 in
    λ _. boundary_at c.trim-text.result.now stop.index utf8 leads.within (run_ascii _ start stops.0 leads.run_is)

-- the unit that the trimmed string spells is the reading of the whole string
pub returns-in-Ok : goal.returns-in-Ok
returns-in-Ok c =
    let flags = c.args.flags in
    let text = c.trim-text.result.now in
    let unit = shape_of c.in-Ok.found in
    let spells = subst (λ text. Spells current flags text unit) c.as_bytes-bytes.ensures.value c.in-Ok.ensures in
    let trimmed = sym (spelled_chars flags text unit spells)
    ∙ (ap chars c.trim-text.ensures.trim ∙ chars-trim c.args.s.now c.utf8.s) in
    unit_reading flags c.args.s.now (Ok c.in-Ok.found) (subst (λ text. Spells current flags text unit) trimmed spells)

-- the parser stops in the string where it stops in the trimmed string
pub returns-in-Err : goal.returns-in-Err
returns-in-Err c =
    let stop = c.in-Err.stop in
    let stops = subst (λ text. IsUnitStop c.args.flags text stop.reason stop.index) c.as_bytes-bytes.ensures.value c.in-Err.ensures in
    let utf8 = subst IsUtf8 c.as_bytes-bytes.ensures.value c.as_bytes-bytes.ensures.utf8 in
    unit_stop_in_string c.args.flags c.args.s.now c.trim-text.result.now stop.index _ stop.reason _
    (ap chars c.trim-text.ensures.trim ∙ chars-trim c.args.s.now c.utf8.s) utf8 stops
    (c.first_char.ensures ∙ ap (λ rest. next_char (chars rest)) c.range_from.ensures.value)
    (ap (λ start. start + stop.index) c.leading_len.ensures.start)
