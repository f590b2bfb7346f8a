-- Each call writes the digits of a smaller number before its own digit.
use Rattle.byte_unit_base.proofs.quoted.+put_hexadecimal.Given as goal

abbrev pub decreases-put_hexadecimal : goal.decreases-put_hexadecimal
decreases-put_hexadecimal l = l.n
