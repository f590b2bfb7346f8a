-- Numerator and denominator are divided by the same power of two.
use Rattle.std.proofs.Common.{◌≡◌, ◌+◌, ◌-◌, ◌*◌, ◌/◌, ◌^◌, ◌≤◌, arith}
use Rattle.std.proofs.lemmas.Option.{IfSome_then}
use Rattle.byte_unit_math.proofs.Expanding.{exponents_within_places}
use Rattle.byte_unit_math.proofs.ShortExpansions.{odd_if_shared, shared_twos, reduced_binary, reduced_decimal, short_of_same_fraction}
use Rattle.byte_unit_math.proofs.short.short_expansion.Goals.{After-min-shared}
use Rattle.byte_unit_math.proofs.short.short_expansion.Goals as goal

-- At most the twos beside the fives are shared.
shared_few : (c : After-min-shared) → c.min-shared.result ≤ c.args.twos - c.args.fives
shared_few c = omega (arith, c.min-shared.ensures)

-- The numerator is the reduced one times the power of two that was shared.
number_is : (c : After-min-shared)
    → c.args.numerator ≡ c.args.numerator / 2 ^ c.min-shared.result * 2 ^ c.min-shared.result
number_is c = grind (arith, shared_twos)

-- The shift is at most the exponent of 2, and so below 128.
pub overflow_shr-reduced : goal.overflow_shr-reduced
overflow_shr-reduced c = grind (arith, exponents_within_places, shared_few)

-- If factors of 2 are left in the denominator, the reduced numerator is odd.
pub binary_expansion-requires : goal.binary_expansion-requires
binary_expansion-requires c = grind (arith, exponents_within_places, odd_if_shared)

-- The denominator is a power of two; `same` says that the reduced fraction is equal.
pub returns-then-fives-eq0 : goal.returns-then-fives-eq0
returns-then-fives-eq0 c =
    let start = (goal.at.returns-then-fives-eq0 c).After-min-shared in
    let sum : c.args.twos ≡ c.args.twos - c.args.fives - c.min-shared.result + c.min-shared.result =
    omega (arith, shared_few start, c.if-fives-eq0.true) in
    let same = reduced_binary c.args.numerator (c.args.numerator / 2 ^ c.min-shared.result) c.min-shared.result
    (c.args.twos - c.args.fives - c.min-shared.result) c.args.twos sum (number_is start) in
    IfSome_then c.binary_expansion.result c.binary_expansion.ensures
    (λ e is_short. rw c.if-fives-eq0.true (short_of_same_fraction same is_short))

-- The denominator is a power of two times a power of ten; `same` says that the reduced fraction is equal.
pub returns-else-fives-eq0 : goal.returns-else-fives-eq0
returns-else-fives-eq0 c =
    let start = (goal.at.returns-else-fives-eq0 c).After-min-shared in
    let left = c.args.twos - c.args.fives - c.min-shared.result in
    let sum : c.args.twos ≡ left + c.args.fives + c.min-shared.result =
    omega (arith, shared_few start, c.requires.order) in
    let same = reduced_decimal c.args.numerator (c.args.numerator / 2 ^ c.min-shared.result) c.min-shared.result left
    c.args.twos c.args.fives sum (number_is start) in
    IfSome_then c.decimal_expansion.result c.decimal_expansion.ensures
    (λ e is_short. short_of_same_fraction same is_short)
