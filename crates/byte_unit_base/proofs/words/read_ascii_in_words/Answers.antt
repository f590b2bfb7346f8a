-- The parts of a text of ASCII, which is its characters.
use Rattle.std.proofs.Common.{sym, ap, refl, subst, IsAscii}
use Rattle.std.proofs.lemmas.Str.{IsAscii-take}
use Rattle.byte_unit_base.specs.Grammar.Units.{shape_of}
use Rattle.byte_unit_base.specs.Reading.Words.{of_unit}
use Rattle.byte_unit_base.proofs.WordTexts.{number_before, stopped, measured}
use Rattle.byte_unit_base.proofs.words.read_ascii_in_words.Goals as goal

-- there is a number before the word
pub returns-in-Ok : goal.returns-in-Ok
returns-in-Ok c =
    let before = c.split_at.result.0.now in
    let number = number_before c.args.flags before c.in-Ok.found.number (shape_of c.in-Ok.found.unit)
    (shape_of c.in-Some.unit) c.in-Ok.ensures in
    measured c.args.flags c.args.text.now _ before _ _ _ c.word_start.ensures.start
    c.split_at.ensures.front c.split_at.ensures.back (sym c.in-Some.ensures) number

-- there is no number before it
pub returns-in-Err : goal.returns-in-Err
returns-in-Err c =
    let before = c.split_at.result.0.now in
    let ascii = subst IsAscii (sym c.split_at.ensures.front) (IsAscii-take c.args.text.now _ c.requires) in
    let none = ap (of_unit (shape_of c.in-Some.unit))
    (stopped c.args.flags before c.in-Err.field-0.index c.in-Err.field-0.reason ascii c.in-Err.ensures) in
    measured c.args.flags c.args.text.now _ before _ _ _ c.word_start.ensures.start
    c.split_at.ensures.front c.split_at.ensures.back (sym c.in-Some.ensures) none

-- the letters are no word
pub returns-in-None : goal.returns-in-None
returns-in-None c =
    measured c.args.flags c.args.text.now _ c.split_at.result.0.now _ _ _ c.word_start.ensures.start
    c.split_at.ensures.front c.split_at.ensures.back (sym c.in-None.ensures) refl
