-- The start is where the letters at the end start, since there is no letter before it.
use Rattle.std.proofs.Common.{arith}
use Rattle.std.specs.Char.{is_ascii_alphabetic}
use Rattle.std.proofs.lemmas.List.Sums.{suffix_len_is}
use Rattle.byte_unit_base.proofs.words.word_start.Goals as goal

-- a byte that is no letter is before the start
pub returns-else-is_ascii_alphabetic-clause-start : goal.returns-else-is_ascii_alphabetic-clause-start
returns-else-is_ascii_alphabetic-clause-start c =
    let is = suffix_len_is is_ascii_alphabetic c.args.text.now c.letters.start 0
    c.letters.invariant.0 c.letters.invariant.1 (λ _. grind arith) in
    grind (arith, is)

-- all bytes are letters
pub returns-after-letters-clause-start : goal.returns-after-letters-clause-start
returns-after-letters-clause-start c =
    let is = suffix_len_is is_ascii_alphabetic c.args.text.now c.letters.start 0
    c.letters.invariant.0 c.letters.invariant.1 (λ some. grind (arith, some)) in
    grind (arith, is)
