-- What is known of the text that led to a state of the state machine of units, and that the unit of a state is spelled
-- by it.
--
-- Of a position `h` or `found`, the parts are its two bounds, and that the letter is there. Of `letter`, `v` and `bit`,
-- they are a position, a suffix or a kind, that it is found, and that the prefix, state or unit is the one with it.
use Rattle.std.proofs.Common.{◌≡◌, ℕ, suc, ◌+◌, ◌-◌, ◌<◌, ◌≤◌, inl, inr, List, [], ◌∷◌, ◌++◌, length, Option, Some}
use Rattle.std.proofs.Common.{None, sym, refl, ap, subst, ◌∙◌, arith, Bool, false, eqb}
use Rattle.std.proofs.Common.{append-nil, slice_index, option_map}
use Rattle.std.specs.Char.{to_ascii_lowercase, to_ascii_uppercase}
use Rattle.std.specs.Str.{str_to_ascii_lowercase}
use Rattle.std.proofs.lemmas.Bool.{cond_both, eqb-true}
use Rattle.std.proofs.lemmas.Bool.Decides.{nat_tests}
use Rattle.byte_unit_base.specs.Grammar.Shape.{Shape}
use Rattle.byte_unit_base.specs.Grammar.Version.{current}
use Rattle.byte_unit_base.specs.Grammar.Spelling.{Flags, IsPrefixLetter, SpellsBinary, SpellsCount, Spells}
use Rattle.byte_unit_base.specs.Reading.Machines.{unit_step, unit_of, start, scan_of, position_in, prefix_at}
use Rattle.byte_unit_base.specs.Reading.Machines.{multiple_step, word_step, or_word, count_of, multiple_shape}
use Rattle.byte_unit_base.specs.Reading.Machines.{IsMultipleText, IsWordText, SuffixPart, Empty, UpperB, LowerB, Bi}
use Rattle.byte_unit_base.specs.Reading.Machines.{Bit, Bits, Multiple, One, Decimal, Binary, UnitScan}
use Rattle.byte_unit_base.proofs.Lists.{push_last}
use Rattle.byte_unit_base.proofs.Options.{some_mapped}

-- the text is one that leads to the prefix of the state, and one that leads to its suffix
pub record Reached (s : UnitScan) (text : List ℕ) : Type 0 where
  pub front : List ℕ
  pub word : List ℕ
  pub text_is : text ≡ front ++ word
  pub front_is : IsMultipleText s.multiple front
  pub word_is : IsWordText s.word word

-- a letter that is found at a position is there
abbrev IsPositionIn : List ℕ → ℕ → ℕ → ℕ → Type 0
IsPositionIn letters first u p = (first ≤ p) × (p < first + length letters) × (u ≡ slice_index letters (p - first))

-- the position that the search gives is that of the letter
position_found : (letters : List ℕ) (first u p : ℕ) → position_in letters first u ≡ Some p
    → IsPositionIn letters first u p
position_found [] first u p e = absurd (let k : ⊥ = cc in k)
position_found (letter ∷ letters) first u p e =
    cond_both (eqb u letter) _ _ (λ o. o ≡ Some p → IsPositionIn (letter ∷ letters) first u p)
    (λ is found.
    let here : first ≡ p = cc in
    let none : p - first ≡ 0 = omega (arith, here) in
    (omega (arith, here), omega (arith, here), rw none (eqb-true u letter is)))
    (λ other later.
    let h = position_found letters (suc first) u p later in
    let next : p - first ≡ suc (p - suc first) = omega (arith, h.0) in
    (omega (arith, h.0), omega (arith, h.1), rw next h.2)) e

-- a character for which a prefix is found is its letter, in either case
pub prefix_found : (c p : ℕ) → prefix_at c ≡ Some p → IsPrefixLetter current p c
prefix_found c p e =
    let found = position_found current.letters 1 (to_ascii_uppercase c) p e in
    (omega (arith, found.0), omega (arith, found.1), found.2)

-- an infix that is not binary is empty
no_infix : (text : List ℕ) → SpellsBinary text false → text ≡ []
no_infix text (inl h) = h.0
no_infix text (inr h) = absurd (let k : ⊥ = cc (h.1) in k)

-- one character more of the prefix: the text with it is that of the next state
multiple_grows : (m n : Multiple) (c : ℕ) (text : List ℕ) → multiple_step m c ≡ Some n → IsMultipleText m text
    → IsMultipleText n (text ++ c ∷ [])
multiple_grows One (Decimal p) c text e h =
    let letter = some_mapped Decimal (Decimal p) (prefix_at c) e in
    let found : prefix_at c ≡ Some p = cc (letter.1, letter.2) in
    rw h (record {
      letter = c;
      infix_part = [];
      text_is = refl;
      letter_is = prefix_found c p found;
      infix_is = inl (refl, refl);
    })
multiple_grows (Decimal p) (Binary q) c text e h =
    let whole : text ≡ h.letter ∷ [] = h.text_is ∙ ap (λ x. h.letter ∷ x) (no_infix h.infix_part h.infix_is) in
    let same : p ≡ q = grind (arith, e) in
    let is : to_ascii_lowercase c ≡ 105 = grind (arith, nat_tests, e) in
    record {
      letter = h.letter;
      infix_part = c ∷ [];
      text_is = ap (λ x. x ++ c ∷ []) whole;
      letter_is = subst (λ p. IsPrefixLetter current p h.letter) same h.letter_is;
      infix_is = inr (ap (λ x. x ∷ []) is, refl);
    }
multiple_grows _ _ c text e h = grind (arith, nat_tests)

-- lower case is taken letter by letter
lower_push : (text : List ℕ) (c : ℕ) → str_to_ascii_lowercase (text ++ c ∷ [])
    ≡ str_to_ascii_lowercase text ++ to_ascii_lowercase c ∷ []
lower_push [] c = refl
lower_push (x ∷ xs) c = ap (λ t. to_ascii_lowercase x ∷ t) (lower_push xs c)

-- one character more of the suffix: the text with it is that of the next state
word_grows : (w v : SuffixPart) (c : ℕ) (text : List ℕ) → word_step w c ≡ Some v → IsWordText w text
    → IsWordText v (text ++ c ∷ [])
word_grows Empty UpperB c text e h = rw h (grind (arith, nat_tests, e))
word_grows Empty LowerB c text e h = rw h (grind (arith, nat_tests, e))
word_grows UpperB Bi c text e h = rw h (grind (arith, nat_tests, e))
word_grows LowerB Bi c text e h = rw h (grind (arith, nat_tests, e))
word_grows Bi Bit c text e h = grind (arith, nat_tests, e, lower_push text c, h)
word_grows Bit Bits c text e h = grind (arith, nat_tests, e, lower_push text c, h)
word_grows _ _ c text e h = grind (arith, nat_tests, e)

-- if one character more continues the suffix, the text with it led to the next state
reached_by_word : (m : Multiple) (w : SuffixPart) (t : UnitScan) (c : ℕ) (text : List ℕ)
    → option_map (scan_of m) (word_step w c) ≡ Some t → Reached (scan_of m w) text → Reached t (text ++ c ∷ [])
reached_by_word m w t c text h r =
    let v = some_mapped (scan_of m) t (word_step w c) h in
    subst (λ u. Reached u (text ++ c ∷ [])) v.2 (record {
      front = r.front;
      word = r.word ++ c ∷ [];
      text_is = push_last text r.front r.word c r.text_is;
      front_is = r.front_is;
      word_is = word_grows w v.0 c r.word v.1 r.word_is;
    })

-- if one character more, before a suffix, continues the prefix or begins the suffix, the text with it led to the next
-- state
reached_by_prefix : (m : Multiple) (t : UnitScan) (c : ℕ) (text : List ℕ) (o : Option Multiple) → multiple_step m c ≡ o
    → or_word m o (word_step Empty c) ≡ Some t → Reached (scan_of m Empty) text → Reached t (text ++ c ∷ [])
reached_by_prefix m t c text None e h r = reached_by_word m Empty t c text h r
reached_by_prefix m t c text (Some n) e h r =
    let s : scan_of n Empty ≡ t = cc in
    let whole : text ≡ r.front = r.text_is ∙ (ap (λ w. r.front ++ w) r.word_is ∙ append-nil r.front) in
    subst (λ u. Reached u (text ++ c ∷ [])) s (record {
      front = r.front ++ c ∷ [];
      word = [];
      text_is = ap (λ x. x ++ c ∷ []) whole ∙ sym (append-nil (r.front ++ c ∷ []));
      front_is = multiple_grows m n c r.front e r.front_is;
      word_is = refl;
    })

-- if a step leads from a state to the next, what is known of the text holds with its character added
pub Reached-step : (m : Multiple) (w : SuffixPart) (t : UnitScan) (c : ℕ) (text : List ℕ)
    → unit_step (scan_of m w) c ≡ Some t → Reached (scan_of m w) text → Reached t (text ++ c ∷ [])
unfolding unit_step
Reached-step m Empty t c text h r = reached_by_prefix m t c text (multiple_step m c) refl h r
Reached-step m w t c text h r = reached_by_word m w t c text h r

-- no character has led to the first state
pub Reached-start : Reached start []
Reached-start = record { front = []; word = []; text_is = refl; front_is = refl; word_is = refl }

-- the unit at the end of an input

-- a suffix whose kind is known spells that kind
count_spelled : (flags : Flags) (w : SuffixPart) (text : List ℕ) (bit : Bool) → count_of flags w ≡ Some bit
    → IsWordText w text → SpellsCount flags text bit
count_spelled flags Empty text bit e h = inl (h, cc)
count_spelled flags UpperB text bit e h = inr (inl (h, cc))
count_spelled flags LowerB text bit e h = inr (inr (inl (h, cc)))
count_spelled flags Bi text bit e h = absurd (let k : ⊥ = cc in k)
count_spelled flags Bit text bit e h = inr (inr (inr (inl (h, cc))))
count_spelled flags Bits text bit e h = inr (inr (inr (inr (h, cc))))

-- a prefix and a suffix spell their unit
prefix_and_suffix_spell_unit : (flags : Flags) (m : Multiple) (front word : List ℕ) (bit : Bool)
    → IsMultipleText m front → SpellsCount flags word bit → Spells current flags (front ++ word) (multiple_shape m bit)
prefix_and_suffix_spell_unit flags One front word bit h k =
    rw h (inl (record { count_is = k; power_is = refl; binary_is = refl }))
prefix_and_suffix_spell_unit flags m front word bit h k =
    inr (record { prefix_part = front; count_part = word; text_is = refl; prefix_is = h; count_is = k })

-- if a state has a unit, the text that led to it spells this unit
pub Spells-reached : (flags : Flags) (m : Multiple) (w : SuffixPart) (text : List ℕ) (unit : Shape)
    → unit_of flags (scan_of m w) ≡ Some unit → Reached (scan_of m w) text → Spells current flags text unit
Spells-reached flags m w text unit e r =
    let bit = some_mapped (multiple_shape m) unit (count_of flags w) e in
    let spells = prefix_and_suffix_spell_unit flags m r.front r.word bit.0 r.front_is
    (count_spelled flags w r.word bit.0 bit.1 r.word_is) in
    subst (Spells current flags text) bit.2
    (subst (λ x. Spells current flags x (multiple_shape m bit.0)) (sym r.text_is) spells)
