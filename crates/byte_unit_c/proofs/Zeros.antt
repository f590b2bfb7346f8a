-- The parts of zero.
use Rattle.std.proofs.Common.{arith, refl}
use Rattle.byte_unit_c.specs.Values.{AreDecimalParts}

-- two zeros are the parts of the decimal 0
pub zero_parts :
    AreDecimalParts (record { whole = record { low = 0; high = 0 }; fraction = record { low = 0; high = 0 } }) 0
zero_parts = record { sum = refl; below_one = omega arith }
