-- What is known of the text that led to a state of the state machine of sizes, and that each step adds its character to
-- it.
--
-- The parts of a step `k` are: what is known of the character, for one more digit also its limit, and the next state.
-- Within a unit they are: the next state of the unit, its step, and the next state.
use Rattle.std.proofs.Common.{◌≡◌, ℕ, ◌+◌, ◌-◌, ◌*◌, ◌^◌, ◌<◌, ◌≤◌, inl, inr, List, [], ◌∷◌, ◌++◌, length, replicate}
use Rattle.std.proofs.Common.{sym, refl, ap, subst, ◌∙◌, arith, append_assoc, append-nil, length-append}
use Rattle.std.specs.Char.{digit_value}
use Rattle.std.specs.Str.Parse.{IsNumeral, digits_value}
use Rattle.std.proofs.lemmas.List.{replicate_more}
use Rattle.std.proofs.lemmas.Int.Digits.{digits_value_push, digits_push}
use Rattle.byte_unit_math.specs.Bounds.{scale, places_of_decimal}
use Rattle.byte_unit_base.specs.Grammar.Version.{current}
use Rattle.byte_unit_base.specs.Grammar.Number.{IsWholePart, IsPointed, IsPrecise, IsNumberText}
use Rattle.byte_unit_base.specs.Reading.Machines.{start as unit_start, UnitScan, fixed_point, SizeScan, Beginning}
use Rattle.byte_unit_base.specs.Reading.Machines.{Whole, Point, Fraction, Gap, UnitAt}
use Rattle.byte_unit_base.proofs.UnitReached.{Reached, Reached-step, Reached-start}
use Rattle.byte_unit_base.proofs.SizeSteps.{UnitStep, AfterNumber, StepOf}
use Rattle.byte_unit_base.proofs.Lists.{push_last}

-- the text is a whole part `w`, a point, and `j` digits of value `f`
pub record FractionReached (w f j : ℕ) (text : List ℕ) : Type 0 where
  pub whole : List ℕ
  pub fraction : List ℕ
  pub text_is : text ≡ whole ++ 46 ∷ fraction
  pub whole_is : IsWholePart current whole w
  pub numeral : IsNumeral 10 fraction
  pub value_is : f ≡ digits_value 10 fraction
  pub length_is : length fraction ≡ j
  pub few : j ≤ places_of_decimal

-- the text is the number `n`, scaled by 10^28, any number of spaces, and what led the state machine of units to `s`
pub record UnitReached (n : ℕ) (s : UnitScan) (text : List ℕ) : Type 0 where
  pub number_part : List ℕ
  pub spaces : ℕ
  pub unit_part : List ℕ
  pub text_is : text ≡ number_part ++ (replicate spaces 32 ++ unit_part)
  pub number_is : IsNumberText current number_part n
  pub reached : Reached s unit_part

-- what is known of the text that led to a state; that the state machine accepts the inputs of the grammar rests on it
abbrev pub SizeReached : SizeScan → List ℕ → Type 0
SizeReached Beginning text = text ≡ []
SizeReached (Whole w) text = IsWholePart current text w
SizeReached (Point w) text = IsPointed current text w
SizeReached (Fraction w f j) text = FractionReached w f j text
SizeReached (Gap n) text = (r : UnitReached n unit_start text) × (0 < r.spaces)
SizeReached (UnitAt n s) text = (r : UnitReached n s text) × (0 < length r.unit_part)

-- the text of a whole part, a point and a fraction is their number
pub fraction_number : (w f j : ℕ) (text : List ℕ) → FractionReached w f j text → IsPrecise current text (fixed_point w f j)
fraction_number w f j text r = record {
  whole = r.whole;
  fraction = r.fraction;
  value = w;
  part = f * 10 ^ (places_of_decimal - j);
  text_is = r.text_is;
  whole_is = r.whole_is;
  fraction_is = (
    r.numeral,
    omega (arith, r.length_is, r.few),
    ap (λ x. x * 10 ^ (places_of_decimal - j)) r.value_is
        ∙ ap (λ k. digits_value 10 r.fraction * 10 ^ (places_of_decimal - k)) (sym r.length_is),
  );
  number_is = refl;
}

-- after a number and the beginning of a unit, one character more continues the unit
unit_grows : (n c : ℕ) (s : UnitScan) (t : SizeScan) (text : List ℕ) → UnitReached n s text → UnitStep n s c t
    → SizeReached t (text ++ c ∷ [])
unit_grows n c s t text r k =
    let grown : UnitReached n k.0 (text ++ c ∷ []) = record {
      number_part = r.number_part;
      spaces = r.spaces;
      unit_part = r.unit_part ++ c ∷ [];
      text_is = push_last text r.number_part (replicate r.spaces 32 ++ r.unit_part) c r.text_is
          ∙ ap (λ t. r.number_part ++ t) (append_assoc (replicate r.spaces 32) r.unit_part (c ∷ []));
      number_is = r.number_is;
      reached = Reached-step s.multiple s.word k.0 c r.unit_part k.1 r.reached;
    } in
    subst (λ x. SizeReached x (text ++ c ∷ [])) k.2 (grown, omega (arith, length-append r.unit_part (c ∷ [])))

-- a number alone is followed by no spaces and no unit
pub alone : (n : ℕ) (text : List ℕ) → IsNumberText current text n → UnitReached n unit_start text
alone n text h = record {
  number_part = text;
  spaces = 0;
  unit_part = [];
  text_is = sym (append-nil text);
  number_is = h;
  reached = Reached-start;
}

-- nothing has led to the first state of units
pub nothing_reached : (text : List ℕ) → Reached unit_start text → text ≡ []
nothing_reached text r = r.text_is ∙ (ap (λ x. x ++ r.word) r.front_is ∙ r.word_is)

-- after a number and any number of spaces there is one space more, or the first character of a unit
number_grows : (n c : ℕ) (t : SizeScan) (text : List ℕ) → UnitReached n unit_start text → AfterNumber n c t
    → SizeReached t (text ++ c ∷ [])
number_grows n c t text r (inl k) =
    let gap : List ℕ = replicate r.spaces 32 in
    let more : (gap ++ r.unit_part) ++ c ∷ [] ≡ replicate (r.spaces + 1) 32 ++ [] =
    rw (nothing_reached r.unit_part r.reached, append-nil {A = ℕ} gap, k.0, append-nil {A = ℕ})
    (replicate_more r.spaces 32) in
    subst (λ x. SizeReached x (text ++ c ∷ [])) k.1 (
      record {
        number_part = r.number_part;
        spaces = r.spaces + 1;
        unit_part = [];
        text_is = push_last text r.number_part (gap ++ r.unit_part) c r.text_is ∙ ap (λ g. r.number_part ++ g) more;
        number_is = r.number_is;
        reached = Reached-start;
      },
      omega arith,
    )
number_grows n c t text r (inr k) = unit_grows n c unit_start t text r k

-- digits with one digit more are digits
digits_push_is : (text : List ℕ) (c : ℕ) → IsNumeral 10 text → digit_value c < 10 → IsNumeral 10 (text ++ c ∷ [])
digits_push_is text c h k = (omega (arith, length-append text (c ∷ [])), digits_push 10 text c h.1 k)

-- if a step leads from a state to the next, what is known of the text holds with its character added
pub SizeReached-step : (s t : SizeScan) (c : ℕ) (text : List ℕ) → StepOf s c t → SizeReached s text
    → SizeReached t (text ++ c ∷ [])
SizeReached-step Beginning t c text k r = subst (λ x. SizeReached x (text ++ c ∷ [])) k.1
    (subst (λ x. IsWholePart current (x ++ c ∷ []) (digit_value c)) (sym r)
    ((omega arith, (k.0, tt)), omega arith, omega (arith, k.0)))
SizeReached-step (Whole w) t c text (inl k) r = subst (λ x. SizeReached x (text ++ c ∷ [])) k.2
    (digits_push_is text c r.0 k.0, ap (λ x. x * 10 + digit_value c) r.1 ∙ sym (digits_value_push 10 text c), k.1)
SizeReached-step (Whole w) t c text (inr (inl k)) r = subst (λ x. SizeReached x (text ++ c ∷ [])) k.1 (record {
  whole = text;
  text_is = ap (λ x. text ++ x ∷ []) k.0;
  whole_is = r;
})
SizeReached-step (Whole w) t c text (inr (inr k)) r =
    number_grows (w * scale) c t text (alone (w * scale) text (inl (w, r, refl))) k
SizeReached-step (Point w) t c text k r = subst (λ x. SizeReached x (text ++ c ∷ [])) k.1 (record {
  whole = r.whole;
  fraction = c ∷ [];
  text_is = push_last text r.whole (46 ∷ []) c r.text_is;
  whole_is = r.whole_is;
  numeral = (omega arith, (k.0, tt));
  value_is = omega arith;
  length_is = refl;
  few = omega arith;
})
SizeReached-step (Fraction w f j) t c text (inl k) r = subst (λ x. SizeReached x (text ++ c ∷ [])) k.2 (record {
  whole = r.whole;
  fraction = r.fraction ++ c ∷ [];
  text_is = push_last text r.whole (46 ∷ r.fraction) c r.text_is;
  whole_is = r.whole_is;
  numeral = digits_push_is r.fraction c r.numeral k.0;
  value_is = ap (λ x. x * 10 + digit_value c) r.value_is ∙ sym (digits_value_push 10 r.fraction c);
  length_is = omega (arith, length-append r.fraction (c ∷ []), r.length_is);
  few = omega (arith, k.1);
})
SizeReached-step (Fraction w f j) t c text (inr k) r =
    number_grows (fixed_point w f j) c t text (alone (fixed_point w f j) text (inr (fraction_number w f j text r))) k
SizeReached-step (Gap n) t c text k r = number_grows n c t text r.0 k
SizeReached-step (UnitAt n s) t c text k r = unit_grows n c s t text r.0 k
