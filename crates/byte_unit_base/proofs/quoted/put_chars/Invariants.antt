-- The characters so far are written, each as it is shown.
use Rattle.std.proofs.Common.{flat_map}
use Rattle.byte_unit_base.specs.Errors.PutAfter.{IsPutAfter}
use Rattle.byte_unit_base.specs.Errors.Quoted.{escape_char}
use Rattle.byte_unit_base.proofs.quoted.put_chars.Given as goal

-- the characters that the loop has yielded are written, escaped
abbrev pub invariant-loop-c : goal.invariant-loop-c
invariant-loop-c l = IsPutAfter (flat_map escape_char l.yielded) l.begin l.initial.buffer l.buffer l.end
