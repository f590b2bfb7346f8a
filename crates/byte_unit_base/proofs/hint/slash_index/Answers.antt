-- The index is that of the first byte which is one, or the length.
use Rattle.std.proofs.Common.{not, nat_eq, sym, arith}
use Rattle.std.proofs.lemmas.List.Sums.{prefix_len_is}
use Rattle.byte_unit_base.proofs.hint.slash_index.Goals as goal

-- such a byte is at the index
pub returns-else-text-index-ne47-clause-index : goal.returns-else-text-index-ne47-clause-index
returns-else-text-index-ne47-clause-index c =
    sym (prefix_len_is (λ c. not (nat_eq c 47)) c.args.text.now c.bytes.index 0 c.bytes.invariant.0 c.bytes.invariant.1 (λ _. grind arith))

-- there is none
pub returns-after-bytes-clause-index : goal.returns-after-bytes-clause-index
returns-after-bytes-clause-index c =
    sym (prefix_len_is (λ c. not (nat_eq c 47)) c.args.text.now c.bytes.index 0 c.bytes.invariant.0 c.bytes.invariant.1
    (λ some. grind (arith, some)))
