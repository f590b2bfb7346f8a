-- The bounds of decimals, sizes and units.
use Rattle.std.specs.Prelude.{ℕ, ◌*◌, ◌^◌}

-- The number of digits after the point that a `Decimal` keeps, as that of the Rust crate does.
abbrev pub places_of_decimal : ℕ
places_of_decimal = 28

-- The most digits after the point that a number of 128 bits holds as one number: the greatest power of ten below 2^128
-- is 10^38.
abbrev pub places_of_number : ℕ
places_of_number = 38

-- 10^28, the scale of decimals: a `Decimal` is seen as its value times 10^28, a natural number N.
abbrev pub scale : ℕ
scale = 10 ^ places_of_decimal

-- The whole part of a decimal is below 2^112. So is each size in bits, which is below 8 * 10^30, and that below 2^103.
abbrev pub whole_limit : ℕ
whole_limit = 2 ^ 112

-- A size is below 10^30, which is 1000 times the largest decimal prefix: in bytes for `Byte`, in bits for `Bit`.
abbrev pub size_limit : ℕ
size_limit = 10 ^ 30

-- A size in bytes has fewer than 8 * 10^30 bits.
abbrev pub bits_limit : ℕ
bits_limit = 8 * size_limit

-- The most digits after the point that a size in a unit takes: the largest unit has 2^93 bits, and n / 2^93 takes at
-- most 93 decimal digits.
abbrev pub expansion_places : ℕ
expansion_places = 93

-- The largest number of bits of a unit, 2^93.
abbrev pub unit_limit : ℕ
unit_limit = 2 ^ expansion_places
