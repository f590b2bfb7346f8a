-- Texts written forwards into a buffer one after another, and the hexadecimal digits of a number.
use Rattle.std.proofs.Common.{◌≡◌, ℕ, zero, suc, ◌+◌, ◌/◌, ◌%◌, ◌^◌, ◌<◌, ◌≤◌, Bool, true, false, cond, List, [], ◌∷◌, ◌++◌}
use Rattle.std.proofs.Common.{length, take, refl, sym, ap, ◌∙◌, arith, append_assoc, length-append, subst}
use Rattle.std.specs.Fmt.{digits, digits_onto, digit_glyph}
use Rattle.byte_unit_base.specs.Errors.PutAfter.{IsPutAfter}
use Rattle.std.proofs.Math.Nat.{pow-suc}
use Rattle.std.proofs.Math.Dec.{eqb}
use Rattle.std.proofs.lemmas.Bool.{cond_both}
use Rattle.core.proofs.fmt.DigitsParse.{digits_onto-nil, digits_onto_last, digits_onto_step}

-- a text is written, and after it another
put_after_put : (front back old mid new : List ℕ) (i j k : ℕ) → IsPutAfter front i old mid j
    → IsPutAfter back j mid new k → IsPutAfter (front ++ back) i old new k
put_after_put front back old mid new i j k first then = record {
  ends = omega (arith, length-append front back, first.ends, then.ends);
  bytes = then.bytes ∙ ap (λ bytes. bytes ++ back) first.bytes ∙ append_assoc (take i old) front back;
  same_len = then.same_len ∙ first.same_len;
}

-- the digits before a text are those before no text
onto_append : (k n : ℕ) (acc : List ℕ) → digits_onto k 16 false n acc ≡ digits_onto k 16 false n [] ++ acc
onto_append zero n acc = refl
onto_append (suc k) n acc = by (eqb (n / 16) 0) (λ text. onto_append k (n / 16) text)
  where
    last : ℕ
    last = digit_glyph false (n % 16)

    by : (is_last : Bool) → ((text : List ℕ) → digits_onto k 16 false (n / 16) text ≡ digits_onto k 16 false (n / 16) [] ++ text)
        → cond is_last (last ∷ acc) (digits_onto k 16 false (n / 16) (last ∷ acc))
        ≡ cond is_last (last ∷ []) (digits_onto k 16 false (n / 16) (last ∷ [])) ++ acc
    by true front = refl
    by false front = front (last ∷ acc)
        ∙ sym (append_assoc (digits_onto k 16 false (n / 16) []) (last ∷ []) acc)
        ∙ ap (λ text. text ++ acc) (sym (front (last ∷ [])))

-- two counts of steps that are both large enough give the same digits
onto_steps : (j k n : ℕ) (acc : List ℕ) → n < 16 ^ suc j → n < 16 ^ suc k
    → digits_onto (suc j) 16 false n acc ≡ digits_onto (suc k) 16 false n acc
onto_steps zero zero n acc few many = refl
onto_steps zero (suc k) n acc few many = digits_onto_last 16 false n acc 1 (omega arith) (omega arith)
    ∙ sym (digits_onto_last 16 false n acc (suc (suc k)) (omega arith) (omega arith))
onto_steps (suc j) zero n acc few many = digits_onto_last 16 false n acc (suc (suc j)) (omega arith) (omega arith)
    ∙ sym (digits_onto_last 16 false n acc 1 (omega arith) (omega arith))
onto_steps (suc j) (suc k) n acc few many =
    let last = digit_glyph false (n % 16) in
    ap (cond (eqb (n / 16) 0) (last ∷ acc)) (onto_steps j k (n / 16) (last ∷ acc)
    (omega (arith, pow-suc 16 (suc j))) (omega (arith, pow-suc 16 (suc k))))

-- the digits of a number are those of a sixteenth of it and the last digit
digits_step : (n : ℕ) → 16 ≤ n → n < 2 ^ 32
    → digits 16 false n ≡ digits 16 false (n / 16) ++ digit_glyph false (n % 16) ∷ []
digits_step n more small =
    let last = digit_glyph false (n % 16) in
    sym (digits_onto-nil 16 false n) ∙ digits_onto_step 16 false n [] 64 (omega arith) (λ none. omega arith)
    ∙ onto_steps 62 63 (n / 16) (last ∷ []) (omega arith) (omega arith)
    ∙ onto_append 64 (n / 16) (last ∷ [])
    ∙ ap (λ front. front ++ last ∷ []) (digits_onto-nil 16 false (n / 16))

-- the digits of a number below 16 ^ (k + 1), before a text, are at most k + 1
onto_length : (j k n : ℕ) (acc : List ℕ) → n < 16 ^ suc k
    → length (digits_onto j 16 false n acc) ≤ suc k + length acc
onto_length zero k n acc small = omega arith
onto_length (suc j) zero n acc small =
    omega (arith, ap length (digits_onto_last 16 false n acc (suc j) (omega arith) (omega arith)))
onto_length (suc j) (suc k) n acc small =
    let last = digit_glyph false (n % 16) in
    cond_both (eqb (n / 16) 0) _ _ (λ text. length text ≤ suc (suc k) + length acc) (λ _. omega arith)
    (λ _. omega (arith, onto_length j k (n / 16) (last ∷ acc) (omega (arith, pow-suc 16 (suc k)))))

-- a number below 16 ^ (k + 1) has at most k + 1 digits
pub digits_length : (k n : ℕ) → n < 16 ^ suc k → length (digits 16 false n) ≤ suc k
digits_length k n small =
    subst (λ text. length text ≤ suc k) (digits_onto-nil 16 false n) (omega (arith, onto_length 64 k n [] small))

-- the digits of a sixteenth of the number are written, and after them the last digit
pub last_digit_put : (n begin last end : ℕ) (old mid new : List ℕ) → 16 ≤ n → n < 2 ^ 32
    → IsPutAfter (digits 16 false (n / 16)) begin old mid last
    → IsPutAfter (digit_glyph false (n % 16) ∷ []) last mid new end → IsPutAfter (digits 16 false n) begin old new end
last_digit_put n begin last end old mid new more small front then =
    subst (λ text. IsPutAfter text begin old new end) (sym (digits_step n more small))
    (put_after_put _ _ old mid new begin last end front then)

-- a number has one digit more than a sixteenth of it
pub length_digits_step : (n : ℕ) → 16 ≤ n → n < 2 ^ 32
    → length (digits 16 false n) ≡ length (digits 16 false (n / 16)) + 1
length_digits_step n more small = ap length (digits_step n more small) ∙ length-append (digits 16 false (n / 16)) _
