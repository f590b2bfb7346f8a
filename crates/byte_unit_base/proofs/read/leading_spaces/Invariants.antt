use Rattle.std.proofs.Common.{length, ◌-◌, ◌≡◌, ◌≤◌, take, replicate}
use Rattle.byte_unit_base.specs.Grammar.SizeText.{space}
use Rattle.byte_unit_base.proofs.read.leading_spaces.Given as goal

-- the first `count` bytes are spaces
abbrev pub invariant-spaces : goal.invariant-spaces
invariant-spaces l = (l.count ≤ length l.bytes) × (take l.count l.bytes ≡ replicate l.count space)

-- the number of bytes that are left
abbrev pub decreases-spaces : goal.decreases-spaces
decreases-spaces l = length l.bytes - l.count
