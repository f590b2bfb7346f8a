-- The binary reading of an input is the reading of the input with an `i` after its decimal prefix.
--
-- In the branches of `⊎_elim`, `m` is a number and a unit, `m.0`, and that the text represents them, `m.1`; `f` is an
-- error, `f.0`, and that the text has it, `f.1`; the last part is the same of the other text. `some` is the text up to
-- the end of its decimal prefix, its suffix, and that they are such.
use Rattle.std.proofs.Common.{◌≡◌, ℕ, Bool, true, false, ◌⊎◌, inl, inr, ⊎_elim, List, [], ◌∷◌, ◌++◌, refl, replicate}
use Rattle.std.proofs.Common.{sym, ap, subst, ◌∙◌, arith, append_assoc, nat_lt, None, Result}
use Rattle.byte_unit_base.specs.Reading.Words.{or_in_words}
use Rattle.std.proofs.lemmas.Bool.{cond_both}
use Rattle.std.proofs.lemmas.Bool.Decides.{nat_tests}
use Rattle.byte_unit_base.specs.Grammar.Shape.{Shape, shape}
use Rattle.byte_unit_base.specs.Grammar.Version.{current}
use Rattle.byte_unit_base.specs.Grammar.Spelling.{Flags, Spells, SpellsBinary, SpellsMultiple}
use Rattle.byte_unit_base.specs.Grammar.SizeText.{space, trim_of, IsSizeText}
use Rattle.byte_unit_base.specs.Errors.Fault.{Fault, IsSizeFault, letter_i}
use Rattle.byte_unit_base.specs.Sizes.Kinds.{flags_for}
use Rattle.byte_unit_base.specs.Laws.Readers.{Represents}
use Rattle.byte_unit_base.specs.Reading.Parsed.{parsed_size_as, size_of_parsed}
use Rattle.byte_unit_base.specs.Reading.ParseSpec.{parse_spec, binary_of}
use Rattle.byte_unit_base.specs.Laws.Binary.{HasDecimalPrefix, IsWithI, BinaryReadingsAreThoseWithI}
use Rattle.byte_unit_base.specs.Laws.Binary.{EachTextHasOneWithI}
use Rattle.byte_unit_base.specs.declared.kind.Kind.{Kind}
use Rattle.byte_unit_base.proofs.Scans.{one_answer}
use Rattle.byte_unit_base.proofs.SizeReads.{size_scan_is}
use Rattle.byte_unit_base.proofs.ParsedTexts.{parsed_numbers_are_represented, size_reading}
use Rattle.byte_unit_base.proofs.SizeAscii.{kept_text}

-- the text has a decimal prefix
module _ (flags : Flags) (text front suffix : List ℕ) (h : HasDecimalPrefix flags text front suffix) where
  -- with an `i` or nothing after the letter, the text is the number of the binary or of the decimal unit
  abbrev size_with : (infix_part : List ℕ) (binary : Bool) → SpellsBinary infix_part binary
      → IsSizeText current flags (front ++ (infix_part ++ suffix)) h.number (shape h.power binary h.bit)
  size_with infix_part binary is = record {
    number_part = h.number_part;
    spaces = h.spaces;
    unit_part = h.letter ∷ (infix_part ++ suffix);
    text_is = rw h.before_is (simp append_assoc);
    number_is = h.number_is;
    unit_is = inr record {
      prefix_part = h.letter ∷ infix_part;
      count_part = suffix;
      text_is = refl;
      prefix_is = record {
        letter = h.letter;
        infix_part = infix_part;
        text_is = refl;
        letter_is = h.letter_is;
        infix_is = is;
      };
      count_is = h.suffix_is;
    };
  }

  -- the text itself is the number of the decimal unit
  decimal_size : IsSizeText current flags text h.number (shape h.power false h.bit)
  decimal_size = subst (λ t. IsSizeText current flags t h.number (shape h.power false h.bit)) (sym h.text_is)
      (size_with [] false (inl (refl, refl)))

  -- with an `i` after the letter, the text is the number of the binary unit
  abbrev binary_size : IsSizeText current flags (front ++ letter_i ∷ suffix) h.number (shape h.power true h.bit)
  binary_size = size_with (letter_i ∷ []) true (inr (refl, refl))

  -- the binary unit of the decimal unit is the unit with the binary prefix
  binary_unit : binary_of (shape h.power false h.bit) ≡ shape h.power true h.bit
  binary_unit = let some : nat_lt 0 h.power ≡ true = grind (arith, nat_tests, h.letter_is.0) in rw some refl

-- some beginning of the text ends in its decimal prefix
abbrev SomePrefix : Flags → List ℕ → Type 0
SomePrefix flags text = (front suffix : List ℕ) × HasDecimalPrefix flags text front suffix

-- the text is a number of the unit: its prefix is decimal, or the unit is its own binary unit
module _ (flags : Flags) (text : List ℕ) (number : ℕ) (unit : Shape) (h : IsSizeText current flags text number unit) where
  -- if no `i` follows the prefix letter, the text has a decimal prefix
  decimal_prefix : (m : SpellsMultiple current flags h.unit_part unit) → m.prefix_is.infix_part ≡ []
      → SomePrefix flags text
  decimal_prefix m none =
      let letter = m.prefix_is.letter in
      let gap = replicate h.spaces space in
      let unit_is : h.unit_part ≡ letter ∷ m.count_part =
      m.text_is ∙ ap (λ p. p ++ m.count_part) (m.prefix_is.text_is ∙ ap (λ i. letter ∷ i) none) in (
        h.number_part ++ (gap ++ letter ∷ []),
        m.count_part,
        record {
          number_part = h.number_part;
          number = number;
          spaces = h.spaces;
          letter = letter;
          power = unit.power;
          bit = unit.bit;
          text_is = h.text_is ∙ rw unit_is (simp append_assoc);
          before_is = refl;
          number_is = h.number_is;
          letter_is = m.prefix_is.letter_is;
          suffix_is = m.count_is;
        },
      )

  -- a text whose unit has a prefix has a decimal one, or its unit is its own binary unit
  multiple_cases : (m : SpellsMultiple current flags h.unit_part unit) → SpellsBinary m.prefix_is.infix_part unit.binary
      → SomePrefix flags text ⊎ (binary_of unit ≡ unit)
  multiple_cases m (inl none) = inl (decimal_prefix m none.0)
  multiple_cases m (inr some) = inr (cond_both (nat_lt 0 unit.power) _ _ (λ s. s ≡ unit)
      (λ _. ap (λ binary. shape unit.power binary unit.bit) (sym some.1)) (λ _. refl))

  -- a text of any unit has a decimal prefix, or its unit is its own binary unit
  unit_cases : Spells current flags h.unit_part unit → SomePrefix flags text ⊎ (binary_of unit ≡ unit)
  unit_cases (inl plain) =
      let none : nat_lt 0 unit.power ≡ false = grind (arith, nat_tests, plain.power_is) in inr (rw none refl)
  unit_cases (inr m) = multiple_cases m m.prefix_is.infix_is

-- both texts have an answer: a number, of a unit and of its binary unit, or the same error
abbrev SameAnswer : Flags → List ℕ → List ℕ → Type 0
SameAnswer flags text other =
    ((m : ℕ × Shape) × Represents flags text m × Represents flags other (m.0, binary_of m.1))
    ⊎ ((fault : Fault) × IsSizeFault current flags text fault × IsSizeFault current flags other fault)

-- the text with an `i` after its decimal prefix, or the text itself if it has none, has the same answer
same_answer : (flags : Flags) (text other : List ℕ) → IsWithI flags text other → SameAnswer flags text other
same_answer flags text other (inl (front, suffix, h, e)) =
    let other_size = subst (λ u. IsSizeText current flags (front ++ letter_i ∷ suffix) h.number u)
    (sym (binary_unit flags text front suffix h)) (binary_size flags text front suffix h) in
    subst (SameAnswer flags text) (sym e)
    (inl ((h.number, shape h.power false h.bit), decimal_size flags text front suffix h, other_size))
same_answer flags text other (inr (none, e)) = subst (SameAnswer flags text) (sym e) (⊎_elim
    (λ m. ⊎_elim (λ some. absurd (none some.0 some.1 some.2))
    (λ same. inl (m.0, m.1, subst (λ u. IsSizeText current flags text m.0.0 u) (sym same) m.1))
    (unit_cases flags text m.0.0 m.0.1 m.1 m.1.unit_is))
    (λ f. inr (f.0, f.1, f.1))
    (one_answer (size_scan_is flags) text).some)

-- the input gives the number of the binary unit that the other gives, or the same error, so both give the same size
same_parsed : (kind : Kind) (ignore_case : Bool) (bytes other : List ℕ)
    → IsWithI (flags_for kind ignore_case) (trim_of bytes) (trim_of other)
    → parsed_size_as (parse_spec kind ignore_case true) bytes ≡ parsed_size_as (parse_spec kind ignore_case false) other
unfolding parsed_size_as
same_parsed kind ignore_case bytes other h =
    let flags = flags_for kind ignore_case in
    let of_bytes = parsed_numbers_are_represented flags bytes in
    let of_other = parsed_numbers_are_represented flags other in
    let plain_size : Bool → Result (ℕ × Shape) Fault → Result ℕ Fault =
    λ binary r. size_of_parsed (parse_spec kind ignore_case binary) (or_in_words None r) in
    ⊎_elim
    (λ m. ap (plain_size true) ((of_bytes.is_meaning m.0).1 m.1)
    ∙ sym (ap (plain_size false) ((of_other.is_meaning (m.0.0, binary_of m.0.1)).1 m.2)))
    (λ f. ap (plain_size true) ((of_bytes.is_fault f.0).1 f.1)
    ∙ sym (ap (plain_size false) ((of_other.is_fault f.0).1 f.2)))
    (same_answer flags (trim_of bytes) (trim_of other) h)

-- the binary reading of an input is the reading of the input with an `i` after its decimal prefix
pub readings_with_i : BinaryReadingsAreThoseWithI
readings_with_i kind ignore_case bytes other h result =
    let same = same_parsed kind ignore_case bytes other h in (
      λ r. size_reading (parse_spec kind ignore_case false) other result (r.computed ∙ same),
      λ r. size_reading (parse_spec kind ignore_case true) bytes result (r.computed ∙ sym same),
    )

-- an input, for which a text with an `i` is found
module _ (flags : Flags) (bytes : List ℕ) where
  -- an input with a decimal prefix has a text with an `i` after it, of which nothing is trimmed
  text_with_i : (front suffix : List ℕ) → HasDecimalPrefix flags (trim_of bytes) front suffix
      → (other : List ℕ) × IsWithI flags (trim_of bytes) (trim_of other)
  text_with_i front suffix h =
      let other = front ++ letter_i ∷ suffix in
      let is = binary_size flags (trim_of bytes) front suffix h in
      let kept = kept_text flags other h.number (shape h.power true h.bit) is (omega arith) in
      (other, inl (front, suffix, h, kept))

  -- an input whose unit is its own binary unit has no decimal prefix
  no_prefix : (meaning : ℕ × Shape) → Represents flags (trim_of bytes) meaning → binary_of meaning.1 ≡ meaning.1
      → (front suffix : List ℕ) → ¬ (HasDecimalPrefix flags (trim_of bytes) front suffix)
  no_prefix meaning is same front suffix h =
      let text = trim_of bytes in
      let decimal = shape h.power false h.bit in
      let one = (one_answer (size_scan_is flags) text).one_meaning meaning (h.number, decimal) is
      (decimal_size flags text front suffix h) in
      let unit : binary_of decimal ≡ decimal = subst (λ r. binary_of r.1 ≡ r.1) one same in
      let binary : true ≡ false = ap (λ u. u.binary) (sym (binary_unit flags text front suffix h) ∙ unit) in
      let z : ⊥ = cc in z

  -- each input has a text with an `i` after its decimal prefix, or itself, whether it is a size or has an error
  some_with_i : (other : List ℕ) × IsWithI flags (trim_of bytes) (trim_of other)
  some_with_i = ⊎_elim
      (λ m. ⊎_elim (λ some. text_with_i some.0 some.1 some.2) (λ same. (bytes, inr (no_prefix m.0 m.1 same, refl)))
      (unit_cases flags (trim_of bytes) m.0.0 m.0.1 m.1 m.1.unit_is))
      (λ f. (
        bytes,
        inr (
          λ front suffix h. (one_answer (size_scan_is flags) (trim_of bytes)).not_both
              (h.number, shape h.power false h.bit) f.0 (decimal_size flags (trim_of bytes) front suffix h) f.1,
          refl,
        ),
      ))
      (one_answer (size_scan_is flags) (trim_of bytes)).some

-- for each input there is one with an `i` after its decimal prefix
pub each_text_with_i : EachTextHasOneWithI
each_text_with_i = some_with_i
