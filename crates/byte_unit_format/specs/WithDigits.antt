-- The digits of a size and the size in its unit, as one text.
use Rattle.std.specs.Prelude.{◌≡◌, ℕ, ◌-◌, ◌≤◌, nat_lt, if◌then◌else◌, List, [], ◌∷◌, ◌++◌, take, drop}
use Rattle.std.specs.Fmt.{decimal}
use Rattle.byte_unit_base.specs.declared.kind.Kind.{Kind}
use Rattle.byte_unit_format.specs.Forms.{IsSizeForm}
use Rattle.byte_unit_format.specs.NamedSpecs.{alternate_spec}

-- The text is the digits of the size, the bytes between, and the size in its unit.
pub record IsTextWithDigits (kind : Kind) (size : ℕ) (between text : List ℕ) : Type 0 where
  pub form : List ℕ
  pub is_form : IsSizeForm kind size alternate_spec form
  pub text_is : text ≡ decimal size ++ (between ++ form)

-- The most bytes of such a text with three bytes between: 30 digits, these three, and 37 of the size in its unit.
abbrev pub with_digits_text : ℕ
with_digits_text = 70

-- Private: the buffer begins with such a text, of at most 70 bytes.
pub record PutsWithDigits (kind : Kind) (size : ℕ) (between new : List ℕ) (len : ℕ) : Type 0 where
  pub text : IsTextWithDigits kind size between (take len new)
  pub bound : len ≤ with_digits_text

-- Private: a point and the digits from the index `cut` up to `used`, or nothing if there are none.
abbrev pub cut_digits : ℕ → ℕ → List ℕ → List ℕ
cut_digits cut used digits = if nat_lt cut used then 46 ∷ take (used - cut) (drop cut digits) else []
