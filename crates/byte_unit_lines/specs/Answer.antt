-- The answer to one line.
use Rattle.std.specs.Prelude.{◌≡◌, ℕ, false, List, [], ◌∷◌, ◌++◌, codes}
use Rattle.std.specs.Str.{IsUtf8}
use Rattle.byte_unit_lines.specs.Lines.{line_end}
use Rattle.byte_unit.specs.Sizes.Accepted.{IsAccepted, IsRejected}
use Rattle.byte_unit.specs.Errors.Fault.{Fault, exceeded, not_number, no_value, too_long, bad_unit}
use Rattle.byte_unit.specs.Forms.{IsText}
use Rattle.byte_unit.specs.NamedSpecs.{plain_spec, alternate_spec}
pub use Rattle.byte_unit.specs.declared.Kind.{Kind}

-- the message for a size: its decimal digits, ` = `, and the size with a unit. That unit is the largest one of the kind
-- that is not above the size and represents it exactly within three decimal places; if there is none, the base unit
pub record ShowsSize (kind : Kind) (number : ℕ) (message : List ℕ) : Type 0 where
  pub digits : List ℕ
  pub with_unit : List ℕ
  pub is_digits : IsText kind number plain_spec digits
  pub is_with_unit : IsText kind number alternate_spec with_unit
  pub message_is : message ≡ digits ++ codes " = " ++ with_unit

-- the message for each kind of parse error
abbrev pub words_of : Fault → List ℕ
words_of (exceeded _) = codes "out of range"
words_of (not_number _) = codes "not a number"
words_of no_value = codes "no value"
words_of too_long = codes "number too long"
words_of (bad_unit _ _ _) = codes "bad unit"

-- the message for a line: that it is not UTF-8, the size that it is parsed as, or the words for its parse error
pub data IsMessageFor (kind : Kind) (line message : List ℕ) : Type 0 where
  not_text : ¬ IsUtf8 line → message ≡ codes "not text" → IsMessageFor kind line message
  size : (number : ℕ) → IsUtf8 line → IsAccepted kind false line number → ShowsSize kind number message
      → IsMessageFor kind line message
  rejected : (fault : Fault) → IsUtf8 line → IsRejected kind false line fault → message ≡ words_of fault
      → IsMessageFor kind line message

-- the answer to a line: its message and a line end
pub record IsAnswer (kind : Kind) (line out : List ℕ) : Type 0 where
  pub message : List ℕ
  pub is_message : IsMessageFor kind line message
  pub ended : out ≡ message ++ line_end ∷ []
