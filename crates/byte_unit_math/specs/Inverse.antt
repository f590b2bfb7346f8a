-- Private: division by a constant as a multiplication by its inverse. No public contract cites this file.
use Rattle.std.specs.Prelude.{◌≡◌, ℕ, ◌+◌, ◌*◌, ◌/◌, ◌^◌, ◌<◌, ◌≤◌}

-- The conditions under which a multiplication replaces a division: the leading 64 bits of `n`, which are n / 2^cut,
-- times `inverse`, divided by 2^shift, are n / divisor or one less. By `close` they are no further below it; the
-- other conditions keep the numbers within 64 bits.
pub record HasInverse (n divisor inverse cut shift : ℕ) : Type 0 where
  pub leading : n < 2 ^ (64 + cut)
  pub cut_fits : cut < 64
  pub shift_fits : (64 < shift) × (shift < 128)
  pub some : 1 ≤ divisor
  pub small : divisor ≤ 2 ^ 63
  pub inverse_is : inverse ≡ 2 ^ (cut + shift) / divisor
  pub fits : inverse < 2 ^ 64
  pub close : 2 ^ 64 * divisor + 2 ^ (cut + shift) ≤ divisor * 2 ^ shift
