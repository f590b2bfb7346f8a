-- The state machine of units reads each spelling, and each of their viable prefixes, to its end.
--
-- Of a spelling `h` of a suffix or an infix, `h.0` says which text it is, and `h.1` what it means; of a prefix letter,
-- `h.0` and `h.1` are the bounds of its position, and `h.2` is that it is there. Of `front`, `word` and `c`, the first
-- part is the prefix or the suffix of a state, the second that the text leads to it, and the third what it means.
use Rattle.std.proofs.Common.{◌≡◌, ℕ, zero, suc, inl, inr, ⊎_elim, List, [], ◌∷◌, Some, sym, refl, ap, subst, ◌∙◌}
use Rattle.std.proofs.Common.{arith, Bool, not, option_map, None, ◌⊎◌, ◌<◌, ◌≤◌}
use Rattle.std.proofs.lemmas.Bool.{cases_lt}
use Rattle.std.proofs.lemmas.Bool.Decides.{nat_tests}
use Rattle.std.specs.Char.{to_ascii_lowercase}
use Rattle.byte_unit_base.specs.Grammar.Shape.{Shape, shape}
use Rattle.byte_unit_base.specs.Grammar.Version.{current}
use Rattle.byte_unit_base.specs.Grammar.Spelling.{Flags, IsPrefixLetter, SpellsCount, SpellsBinary, SpellsPrefix}
use Rattle.byte_unit_base.specs.Grammar.Spelling.{Spells}
use Rattle.byte_unit_base.specs.Errors.ViablePrefix.{ParserState, before_unit, after_prefix, after_b, after_bi}
use Rattle.byte_unit_base.specs.Errors.ViablePrefix.{after_bit, after_bits, IsWord, IsViableWordPrefix}
use Rattle.byte_unit_base.specs.Errors.ViablePrefix.{IsViableUnitPrefix}
use Rattle.byte_unit_base.specs.Reading.Machines.{run, unit_step, unit_of, unit_scan, scan_of, prefix_at, count_of}
use Rattle.byte_unit_base.specs.Reading.Machines.{SuffixPart, start, multiple_shape, IsWordText, word_parser_state}
use Rattle.byte_unit_base.specs.Reading.Machines.{multiple_parser_state, Empty, UpperB, LowerB, Bi, Bit, Bits, Multiple}
use Rattle.byte_unit_base.specs.Reading.Machines.{One, Decimal, Binary, UnitScan}
use Rattle.byte_unit_base.proofs.Lists.{from_lowercase}
use Rattle.byte_unit_base.proofs.Scans.{run_through, run_step, RunsTo, IsScanned}

-- no character before the letters, and none after the visible ones of ASCII, continues a unit
pub no_other_step : (m : Multiple) (w : SuffixPart) (c : ℕ) → (c < 65) ⊎ (127 ≤ c) → unit_step (scan_of m w) c ≡ None
unfolding unit_step
no_other_step m Bits c other = refl
no_other_step One Empty c other =
    let none : prefix_at c ≡ None = grind (arith, nat_tests) in rw none (grind (arith, nat_tests))
no_other_step m w c other = grind (arith, nat_tests)

-- a character that continues a unit is one from `A` (65) to `~` (126)
pub step_range : (s t : UnitScan) (c : ℕ) → unit_step s c ≡ Some t → (65 ≤ c) × (c < 127)
step_range s t c e =
    let never = λ (out : (c < 65) ⊎ (127 ≤ c)). let z : ⊥ = cc (no_other_step s.multiple s.word c out) in z in (
      ⊎_elim (λ low. absurd (never (inl low))) (λ h. h) (cases_lt c 65),
      ⊎_elim (λ h. h) (λ wide. absurd (never (inr wide))) (cases_lt c 127),
    )

-- `B` and `b` begin a suffix
step_letter_b : (m : Multiple) → (unit_step (scan_of m Empty) 66 ≡ Some (scan_of m UpperB))
    × (unit_step (scan_of m Empty) 98 ≡ Some (scan_of m LowerB))
unfolding unit_step
step_letter_b One = (refl, refl)
step_letter_b _ = (refl, refl)

-- `bi` is read after any prefix, in either case
after_bi_text : (m : Multiple) (b i : ℕ) (rest : List ℕ) → to_ascii_lowercase b ≡ 98 → to_ascii_lowercase i ≡ 105
    → run unit_step (scan_of m Empty) (b ∷ i ∷ rest) ≡ run unit_step (scan_of m Bi) rest
unfolding unit_step
after_bi_text m b i rest e k = ⊎_elim
    (λ small. run_step unit_step (scan_of m Empty) (scan_of m LowerB) b (i ∷ rest) (rw small (step_letter_b m).1)
    ∙ rw k refl)
    (λ capital. let same : b ≡ 66 = omega arith in
    run_step unit_step (scan_of m Empty) (scan_of m UpperB) b (i ∷ rest) (rw same (step_letter_b m).0) ∙ rw k refl)
    (from_lowercase b 98 (omega arith) (omega arith) e)

-- a suffix, and `bi`, is read after any prefix
pub run_suffix : (m : Multiple) (w : SuffixPart) (text : List ℕ) → IsWordText w text
    → run unit_step (scan_of m Empty) text ≡ Some (scan_of m w)
unfolding unit_step
run_suffix m Empty text h = ap (run unit_step (scan_of m Empty)) h
run_suffix m UpperB text h = rw (h, (step_letter_b m).0) refl
run_suffix m LowerB text h = rw (h, (step_letter_b m).1) refl
run_suffix m Bi (b ∷ i ∷ []) h = after_bi_text m b i [] (cc) (cc)
run_suffix m Bit (b ∷ i ∷ t ∷ []) h =
    let third : to_ascii_lowercase t ≡ 116 = cc in after_bi_text m b i (t ∷ []) (cc) (cc) ∙ rw third refl
run_suffix m Bits (b ∷ i ∷ t ∷ s ∷ []) h =
    let third : to_ascii_lowercase t ≡ 116 = cc in
    let last : to_ascii_lowercase s ≡ 115 = cc in
    after_bi_text m b i (t ∷ s ∷ []) (cc) (cc) ∙ rw (third, last) refl
run_suffix m _ _ h = absurd (let k : ⊥ = cc in k)

-- each suffix is that of a state, and means bits or bytes there
count_word : (flags : Flags) (text : List ℕ) (bit : Bool) → SpellsCount flags text bit
    → (w : SuffixPart) × IsWordText w text × (count_of flags w ≡ Some bit)
count_word flags text bit (inl h) = (Empty, h.0, ap Some (sym h.1))
count_word flags text bit (inr (inl h)) = (UpperB, h.0, ap Some (sym h.1))
count_word flags text bit (inr (inr (inl h))) = (LowerB, h.0, ap Some (sym h.1))
count_word flags text bit (inr (inr (inr (inl h)))) = (Bit, h.0, ap Some (sym h.1))
count_word flags text bit (inr (inr (inr (inr h)))) = (Bits, h.0, ap Some (sym h.1))

-- a prefix letter is read at the beginning
step_prefix : (c : ℕ) (p : ℕ) → prefix_at c ≡ Some p → unit_step start c ≡ Some (scan_of (Decimal p) Empty)
unfolding unit_step
step_prefix c p e = rw (e, prefix_at) refl

-- each prefix letter is found at its position, from 1 to 9; the second case is a position of ten or more
letter_prefix : (c power : ℕ) → IsPrefixLetter current power c → prefix_at c ≡ Some power
letter_prefix c zero h = absurd (omega (arith, h.0))
letter_prefix c (suc (suc (suc (suc (suc (suc (suc (suc (suc (suc n)))))))))) h = absurd (omega (arith, h.1))
letter_prefix c _ h = rw h.2 refl

-- the state after the text is that of this prefix, before a suffix
record RunsToPrefix (text : List ℕ) (power : ℕ) (binary : Bool) : Type 0 where
  multiple : Multiple
  run : run unit_step start text ≡ Some (scan_of multiple Empty)
  shape_is : (bit : Bool) → multiple_shape multiple bit ≡ shape power binary bit
  place_is : multiple_parser_state multiple ≡ after_prefix

-- the letter of a prefix is followed by an `i` or by nothing
run_letter : (p : ℕ) (c : ℕ) (rest : List ℕ) (binary : Bool) → prefix_at c ≡ Some p → SpellsBinary rest binary
    → RunsToPrefix (c ∷ rest) p binary
unfolding unit_step
run_letter p c rest binary e (inl h) = record {
  multiple = Decimal p;
  run = run_step unit_step start (scan_of (Decimal p) Empty) c rest (step_prefix c p e)
      ∙ ap (run unit_step (scan_of (Decimal p) Empty)) h.0;
  shape_is = λ bit. ap (λ x. shape p x bit) (sym h.1);
  place_is = refl;
}
run_letter p c (i ∷ []) binary e (inr h) = record {
  multiple = Binary p;
  run = run_step unit_step start (scan_of (Decimal p) Empty) c (i ∷ []) (step_prefix c p e)
      ∙ (let is : to_ascii_lowercase i ≡ 105 = cc (h.0) in rw is refl);
  shape_is = λ bit. ap (λ x. shape p x bit) (sym h.1);
  place_is = refl;
}
run_letter p c _ binary e (inr h) = absurd (let k : ⊥ = cc (h.0) in k)

-- a prefix is read to its end
run_prefix : (text : List ℕ) (power : ℕ) (binary : Bool) → SpellsPrefix current text power binary
    → RunsToPrefix text power binary
run_prefix text power binary h =
    subst (λ x. RunsToPrefix x power binary) (sym h.text_is)
    (run_letter power h.letter h.infix_part binary (letter_prefix h.letter power h.letter_is) h.infix_is)

-- the state machine reads a spelling to its end, and has its unit there
pub spelling_runs : (flags : Flags) (text : List ℕ) (s : Shape) → Spells current flags text s
    → RunsTo unit_step (λ t. unit_of flags t ≡ Some s) start text
spelling_runs flags text s (inl h) =
    let c = count_word flags text s.bit h.count_is in
    let same : shape 0 (not s.bit) s.bit ≡ s =
    ap (λ k. shape k (not s.bit) s.bit) (sym h.power_is) ∙ ap (λ x. shape s.power x s.bit) (sym h.binary_is) in
    record {
      state = scan_of One c.0;
      run_is = run_suffix One c.0 text c.1;
      holds = ap (option_map (multiple_shape One)) c.2 ∙ ap Some same;
    }
spelling_runs flags text s (inr h) =
    let p = run_prefix h.prefix_part s.power s.binary h.prefix_is in
    let c = count_word flags h.count_part s.bit h.count_is in
    record {
      state = scan_of p.multiple c.0;
      run_is = ap (run unit_step start) h.text_is
          ∙ (run_through unit_step start (scan_of p.multiple Empty) h.prefix_part h.count_part p.run
          ∙ run_suffix p.multiple c.0 h.count_part c.1);
      holds = ap (option_map (multiple_shape p.multiple)) c.2 ∙ ap Some (p.shape_is s.bit);
    }

-- each beginning of `bits` is that of a state, which has its parser state
word_of : (parser_state : ParserState) (m : Multiple) (text : List ℕ) → IsWord parser_state text
    → (w : SuffixPart) × (run unit_step (scan_of m Empty) text ≡ Some (scan_of m w)) × (word_parser_state m w ≡ parser_state)
word_of after_b m (b ∷ []) h = ⊎_elim (λ small. (LowerB, run_suffix m LowerB (b ∷ []) (ap (λ x. x ∷ []) small), refl))
    (λ capital. let same : b ≡ 66 = omega arith in (UpperB, run_suffix m UpperB (b ∷ []) (ap (λ x. x ∷ []) same), refl))
    (from_lowercase b 98 (omega arith) (omega arith) (cc))
word_of after_b m _ h = absurd (let k : ⊥ = cc in k)
word_of after_bi m text h = (Bi, run_suffix m Bi text h, refl)
word_of after_bit m text h = (Bit, run_suffix m Bit text h, refl)
word_of after_bits m text h = (Bits, run_suffix m Bits text h, refl)
word_of _ m text h = absurd h

-- a prefix, or none, and a beginning of a suffix are read to their end, and have their parser state there
run_word_front : (flags : Flags) (parser_state : ParserState) (text : List ℕ)
    → IsViableWordPrefix current parser_state text → IsScanned (unit_scan flags) parser_state text
run_word_front flags parser_state text h =
    let front : (m : Multiple) × (run unit_step start h.prefix_part ≡ Some (scan_of m Empty)) =
    ⊎_elim (λ none. (One, ap (run unit_step start) none))
    (λ is. let p = run_prefix h.prefix_part is.0 is.1 is.2 in (p.multiple, p.run)) h.prefix_is in
    let word = word_of parser_state front.0 h.word_part h.word_is in
    record {
      state = scan_of front.0 word.0;
      run_is = ap (run unit_step start) h.text_is
          ∙ (run_through unit_step start (scan_of front.0 Empty) h.prefix_part h.word_part front.1 ∙ word.1);
      holds = word.2;
    }

-- the state machine reads each viable prefix to its end, and has its parser state there
pub unit_front_runs : (flags : Flags) (parser_state : ParserState) (text : List ℕ)
    → IsViableUnitPrefix current parser_state text → IsScanned (unit_scan flags) parser_state text
unit_front_runs flags before_unit text h =
    record { state = start; run_is = ap (run unit_step start) h; holds = refl }
unit_front_runs flags after_prefix text h =
    let p = run_prefix text h.0 h.1 h.2 in
    record { state = scan_of p.multiple Empty; run_is = p.run; holds = p.place_is }
unit_front_runs flags parser_state text h = run_word_front flags parser_state text h
