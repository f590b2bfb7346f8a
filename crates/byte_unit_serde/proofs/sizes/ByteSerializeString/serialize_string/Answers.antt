-- The number that is written is that of the size.
use Rattle.byte_unit_serde.proofs.sizes.ByteSerializeString.serialize_string.Goals as goal

-- The text of the number of bytes was written.
pub returns-clause-written : goal.returns-clause-written
returns-clause-written g c = rw c.as_u128.ensures.number at c.write_as.ensures.written
