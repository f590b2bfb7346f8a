-- A text by the spec that `spec_of` returns is the string to store.
use Rattle.std.proofs.lemmas.Result.{on_ok_weaker}
use Rattle.byte_unit_serde.proofs.binary.BinarySerializeString.serialize_string.Goals as goal

-- `wrote` is a triple: the text, that it is the text by the spec that was chosen, and that it was written.
pub returns-clause-written : goal.returns-clause-written
returns-clause-written g c =
    on_ok_weaker c.write_as.result
    (λ wrote. (wrote.0, c.spec_of.ensures.string wrote.0 wrote.1, wrote.2))
    (rw c.as_u128.ensures.number at c.write_as.ensures.written)
