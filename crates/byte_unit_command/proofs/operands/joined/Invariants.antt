use Rattle.std.proofs.Common.{◌≡◌, map, take}
use Rattle.byte_unit_command.proofs.Joining.{joined}
use Rattle.byte_unit_command.proofs.operands.joined.Given as goal

-- the input has the operands so far, each with its zero byte
abbrev pub invariant-loop-operand : goal.invariant-loop-operand
invariant-loop-operand l = l.input.items ≡ joined (map (λ operand. operand.now) (take l.operand-index l.operands))
