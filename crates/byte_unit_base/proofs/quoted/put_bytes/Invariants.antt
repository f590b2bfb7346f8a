-- The bytes so far are written, each as it is shown.
use Rattle.std.proofs.Common.{take, flat_map}
use Rattle.byte_unit_base.specs.Errors.PutAfter.{IsPutAfter}
use Rattle.byte_unit_base.specs.Errors.Quoted.{escape_byte}
use Rattle.byte_unit_base.proofs.quoted.put_bytes.Given as goal

-- the bytes before the index are written, escaped
abbrev pub invariant-loop-byte : goal.invariant-loop-byte
invariant-loop-byte l =
    IsPutAfter (flat_map escape_byte (take l.byte-index l.bytes)) l.begin l.initial.buffer l.buffer l.end
