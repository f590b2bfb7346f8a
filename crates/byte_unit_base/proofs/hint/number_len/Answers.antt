-- The index is that of the first byte which is neither, or the length.
use Rattle.std.proofs.Common.{◌||◌, nat_eq, sym, arith}
use Rattle.std.specs.Char.{is_ascii_digit}
use Rattle.byte_unit_base.specs.Grammar.Number.{point}
use Rattle.std.proofs.lemmas.List.Sums.{prefix_len_is}
use Rattle.byte_unit_base.proofs.hint.number_len.Goals as goal

-- such a byte is at the index
pub returns-else-text-len-eq46-clause-len : goal.returns-else-text-len-eq46-clause-len
returns-else-text-len-eq46-clause-len c =
    sym (prefix_len_is (λ c. is_ascii_digit c || nat_eq c point) c.args.text.now c.number.len 0
    c.number.invariant.0 c.number.invariant.1 (λ _. grind arith))

-- there is none
pub returns-after-number-clause-len : goal.returns-after-number-clause-len
returns-after-number-clause-len c =
    sym (prefix_len_is (λ c. is_ascii_digit c || nat_eq c point) c.args.text.now c.number.len 0
    c.number.invariant.0 c.number.invariant.1 (λ some. grind (arith, some)))
