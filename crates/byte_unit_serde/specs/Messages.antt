-- Private: the messages of errors, which begin with the reason: `serde_json` cuts a message after 32 bytes.
use Rattle.std.specs.Prelude.{◌≡◌, ℕ, List, ◌++◌, codes, IfSome}
use Rattle.std.specs.Fmt.{debug_str}
use Rattle.std.specs.Fmt.Cut.{IsTextOrCut, cut_to}
use Rattle.byte_unit.specs.Errors.Fault.{Fault, exceeded, not_number, no_value, too_long, bad_unit}

-- The reason for a string that is rejected with this error.
abbrev pub reason_of : Fault → List ℕ
reason_of (exceeded number) = codes "out of range"
reason_of (not_number c) = codes "not a number"
reason_of no_value = codes "no value"
reason_of too_long = codes "number too long"
reason_of (bad_unit c expected at_end) = codes "bad unit"

-- The message for a string that is rejected for a reason: the reason, and at most 40 bytes of the string as `{:?}`
-- writes it, in quotes and escaped. What is cut ends in dots. Of a string that is not ASCII, std does not say what is
-- written.
abbrev pub IsMessage : List ℕ → List ℕ → List ℕ → Type 0
IsMessage reason text message =
    (quote : List ℕ) × IfSome (debug_str text) (λ bytes. IsTextOrCut 64 bytes quote)
    × (message ≡ reason ++ codes ": " ++ cut_to 40 quote)
