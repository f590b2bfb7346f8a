-- The product is below that of the limits of both factors.
use Rattle.std.proofs.Common.{◌^◌, ◌≤◌, arith}
use Rattle.std.proofs.Math.Nat.{pow-le-pow_right}
use Rattle.std.proofs.lemmas.Bool.{leb-true}
use Rattle.std.proofs.lemmas.Nat.{mul-le}
use Rattle.byte_unit_math.specs.Bounds.{bits_limit}
use Rattle.byte_unit_format.proofs.adjusted.takes_one_division.Goals as goal

-- Any bits times 10^7 are below 2^127.
pub returns-then-places-le-ONE_DIVISION_PLACES : goal.returns-then-places-le-ONE_DIVISION_PLACES
returns-then-places-le-ONE_DIVISION_PLACES c = λ _.
    let few = c.if-places-le-ONE_DIVISION_PLACES.true in
    let power = pow-le-pow_right {n = 10} (omega arith) {i = c.args.places} {j = 7} few in
    (omega (arith, few), omega (arith, mul-le c.args.in_bits (10 ^ c.args.places) bits_limit (10 ^ 7) (omega arith) power))

-- Bits below 2^64 times 10^18 are below 2^127.
pub returns-then-in_bits : goal.returns-then-in_bits
returns-then-in_bits c = λ test.
    let few : c.args.places ≤ 18 = leb-true _ _ test in
    let power = pow-le-pow_right {n = 10} (omega arith) {i = c.args.places} {j = 18} few in
    (few, omega (arith, mul-le c.args.in_bits (10 ^ c.args.places) (2 ^ 64) (10 ^ 18) (omega arith) power))
