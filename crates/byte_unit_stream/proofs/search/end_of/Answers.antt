-- The lowest bit of a chunk's mask is its first end byte; without a bit the chunk has none. The last bytes are compared
-- one by one. Of the invariant, `.0` says that no record ends before the index.
use Rattle.std.proofs.Common.{◌+◌, ◌^◌, ◌<◌, ◌≤◌, eqb, not, ℕ, Bool, get_or, length, map, w8, w16}
use Rattle.std.proofs.Common.{refl, ap, sym, subst, eqb-true, ◌∙◌, arith}
use Rattle.std.proofs.lemmas.List.{length-map}
use Rattle.std.proofs.lemmas.Nat.Bits.{bit_at-trailing_zeros}
use Rattle.std.proofs.lemmas.Simd.{length-chunk, bitmask_splat, mask_l-lt, none_from_empty_mask, trailing_mask_l}
use Rattle.std.proofs.lemmas.Simd.{run_in_chunk_fails, run_in_chunk_stops}
use Rattle.std.specs.List.{prefix_len}
use lib.Count.{count_trailing_zeros}
use lib.Lanes.{chunk, mask_l}
use Rattle.byte_unit_stream.proofs.Ends.{IsUnbroken-other_byte, IsUnbroken-other_bytes, EndsAt}
use Rattle.byte_unit_stream.proofs.search.end_of.Goals as goal

-- the test of one byte, as the lemmas on masks take it
abbrev is_end_byte : ℕ → ℕ → Bool
is_end_byte end byte = eqb byte end

-- a chunk without an end byte is passed
pub loop-i-preserved : goal.loop-i-preserved
loop-i-preserved c =
    let bytes = c.args.bytes.now in
    let start = c.loop-i.i in
    let vector = chunk start 16 bytes in
    -- bit `k` of the mask is 1 if and only if byte `k` of the chunk is an end byte; here all bits are 0
    let mask = bitmask_splat w8 eqb vector 16 c.args.end (length-chunk start 16 bytes (omega arith)) (omega arith) in
    let none = none_from_empty_mask (is_end_byte c.args.end) bytes start 16 0 (omega arith) (sym mask ∙ c.if-ends-ne0.false) in
    (IsUnbroken-other_bytes c.args.end bytes start 16 (omega arith) c.loop-i.invariant.0 none, omega arith)

-- a chunk with an end byte: the record ends at the byte of the lowest bit
pub returns-then-ends-ne0-clause-some : goal.returns-then-ends-ne0-clause-some
returns-then-ends-ne0-clause-some c =
    let bytes = c.args.bytes.now in
    let start = c.loop-i.i in
    let room : start + 16 ≤ length bytes = omega arith in
    let vector = chunk start 16 bytes in
    let long = length-chunk start 16 bytes room in
    let mask = bitmask_splat w8 eqb vector 16 c.args.end long (omega arith) in
    let some : 0 < mask_l (map (is_end_byte c.args.end) vector) = omega (arith, mask, c.if-ends-ne0.true) in
    -- the number of bytes before the first end byte of the chunk
    let count = prefix_len (λ byte. not (is_end_byte c.args.end byte)) vector in
    -- the mask has as many trailing zeros, counted in 64 bits as the code counts them
    let counted = ap (count_trailing_zeros 64) mask ∙ trailing_mask_l (is_end_byte c.args.end) 64 vector (omega (arith, long)) some in
    -- a mask of 16 bytes has at most 16 bits, so the lowest bit is below 16
    let small = subst (λ lanes. mask_l (map (is_end_byte c.args.end) vector) < 2 ^ lanes)
    (length-map vector (is_end_byte c.args.end) ∙ long) (mask_l-lt (map (is_end_byte c.args.end) vector)) in
    let lowest = (bit_at-trailing_zeros w16 (mask_l (map (is_end_byte c.args.end) vector)) some small).0 in
    let within : count < 16 = omega (arith, lowest, trailing_mask_l (is_end_byte c.args.end) 16 vector (omega (arith, long)) some) in
    -- the byte at the place is an end byte, and none before it in the chunk is one
    let hit = run_in_chunk_stops (is_end_byte c.args.end) bytes start 16 count 0 room refl within in
    let none = run_in_chunk_fails (is_end_byte c.args.end) bytes start 16 count 0 room refl in
    subst (EndsAt c.args.end bytes) (ap (λ n. start + n) (sym counted)) (
      omega (arith, within, room),
      eqb-true (get_or bytes (start + count) 0) c.args.end hit,
      IsUnbroken-other_bytes c.args.end bytes start count (omega (arith, within, room)) c.loop-i.invariant.0 none,
    )

-- one of the last bytes is no end byte, and is passed
pub loop-i-2-preserved : goal.loop-i-2-preserved
loop-i-2-preserved c =
    let so_far = c.loop-i-2.invariant in
    let place = c.loop-i-2.i in
    let fits : place < length c.args.bytes.now = omega arith in
    (IsUnbroken-other_byte c.args.end c.args.bytes.now place fits so_far.0 c.if-bytes-i.false, omega (arith, fits))
