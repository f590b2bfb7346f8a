use Rattle.std.proofs.Common.{length}
use Rattle.std.specs.Fmt.{DisplaysOnOk}
use Rattle.byte_unit_base.specs.Errors.Text.{others_text}
use Rattle.byte_unit_base.proofs.errors.write_others.Given as goal

-- if what is written next displays the characters that are left, the whole displays all the characters
abbrev pub invariant-loop-left : goal.invariant-loop-left
invariant-loop-left g l =
    (result : _) (done : _) → DisplaysOnOk g.W.Write.write_str_gives l.f result (others_text l.left) done
    → DisplaysOnOk g.W.Write.write_str_gives l.fn.f result (others_text l.fn.others) done

-- the number of characters that are left
abbrev pub decreases-loop-left : goal.decreases-loop-left
decreases-loop-left g l = length l.left
