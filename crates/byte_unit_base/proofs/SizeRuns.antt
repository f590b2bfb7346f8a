-- The state machine of sizes reads each number with its unit, and each viable prefix of one, to its end.
--
-- Of a numeral `h`, `h.0` is that it is not empty, and `h.1` that it has digits only: first one, then the rest. Of a
-- whole part `h`, `h.0` is its numeral, `h.1` its value and `h.2` the limit. Of a first step `t` of a run, the parts are
-- the state after it, that the step leads there, and that the rest of the text leads on from there.
use Rattle.std.proofs.Common.{◌≡◌, ◌≢◌, ℕ, zero, suc, ◌+◌, ◌*◌, ◌<◌, ◌≤◌, inl, inr, List, [], ◌∷◌, ◌++◌, Some}
use Rattle.std.proofs.Common.{Ok, length, replicate, sym, refl, ap, subst, ◌∙◌, arith, append-nil, option_map}
use Rattle.std.specs.Char.{digit_value}
use Rattle.std.specs.Str.Parse.{IsNumeral, AllDigits, digits_value, digits_value_after}
use Rattle.std.proofs.lemmas.Bool.Decides.{nat_tests}
use Rattle.byte_unit_math.specs.Bounds.{scale, places_of_decimal, whole_limit}
use Rattle.byte_unit_base.specs.Grammar.Shape.{Shape}
use Rattle.byte_unit_base.specs.Grammar.Version.{current}
use Rattle.byte_unit_base.specs.Grammar.Spelling.{Flags}
use Rattle.byte_unit_base.specs.Grammar.Number.{IsWholePart, IsPointed, IsPrecise, IsNumberText}
use Rattle.byte_unit_base.specs.Grammar.SizeText.{space, IsSizeText}
use Rattle.byte_unit_base.specs.Errors.ViablePrefix.{ParserState, beginning, in_whole, after_point, in_fraction}
use Rattle.byte_unit_base.specs.Errors.ViablePrefix.{before_unit, IsNumberAndUnitPrefix, IsViableSizePrefix}
use Rattle.byte_unit_base.specs.Reading.Machines.{run, unit_step, unit_parser_state, unit_of, start as unit_start}
use Rattle.byte_unit_base.specs.Reading.Machines.{UnitScan, size_step, size_scan, size_at_end, size_parser_state}
use Rattle.byte_unit_base.specs.Reading.Machines.{size_or_fault, fixed_point, SizeScan, Beginning, Whole, Point}
use Rattle.byte_unit_base.specs.Reading.Machines.{Fraction, Gap, UnitAt}
use Rattle.byte_unit_base.proofs.Options.{some_passed}
use Rattle.byte_unit_base.proofs.Scans.{run_through, run_step, runs_then, RunsTo, IsScanned}
use Rattle.byte_unit_base.proofs.UnitRuns.{spelling_runs, unit_front_runs, step_range}

-- digits

-- the first digit begins the whole part
pub step_first : (c : ℕ) → digit_value c < 10 → size_step Beginning c ≡ Some (Whole (digit_value c))
unfolding size_step
step_first c h = grind (arith, nat_tests)

-- one more digit that keeps a whole part below its limit continues the whole part
pub step_whole : (w c : ℕ) → digit_value c < 10 → w * 10 + digit_value c < whole_limit
    → size_step (Whole w) c ≡ Some (Whole (w * 10 + digit_value c))
unfolding size_step
step_whole w c h k = grind (arith, nat_tests)

-- a point can follow a whole part
pub step_point : (w : ℕ) → size_step (Whole w) 46 ≡ Some (Point w)
unfolding size_step
step_point w = refl

-- the first digit after the point begins the fraction
pub step_pointed : (w c : ℕ) → digit_value c < 10 → size_step (Point w) c ≡ Some (Fraction w (digit_value c) 1)
unfolding size_step
step_pointed w c h = grind (arith, nat_tests)

-- one more digit continues a fraction of fewer than 28 digits
pub step_fraction : (w f j c : ℕ) → digit_value c < 10 → j < places_of_decimal
    → size_step (Fraction w f j) c ≡ Some (Fraction w (f * 10 + digit_value c) (j + 1))
unfolding size_step
step_fraction w f j c h k = grind (arith, nat_tests)

-- more digits make no smaller number
pub value_rises : (ds : List ℕ) (v : ℕ) → v ≤ digits_value_after 10 v ds
value_rises [] v = omega arith
value_rises (c ∷ cs) v = omega (arith, value_rises cs (v * 10 + digit_value c))

-- more digits of a whole part lead to the whole part with them
run_digits : (ds : List ℕ) (v : ℕ) → AllDigits 10 ds → digits_value_after 10 v ds < whole_limit
    → run size_step (Whole v) ds ≡ Some (Whole (digits_value_after 10 v ds))
run_digits [] v h k = refl
run_digits (c ∷ cs) v h k =
    let small : v * 10 + digit_value c < whole_limit = omega (arith, value_rises cs (v * 10 + digit_value c), k) in
    run_step size_step (Whole v) (Whole (v * 10 + digit_value c)) c cs (step_whole v c h.0 small)
    ∙ run_digits cs (v * 10 + digit_value c) h.1 k

-- after the digits of a whole part, the state is that of this whole part
pub run_whole : (text : List ℕ) (w : ℕ) → IsWholePart current text w → run size_step Beginning text ≡ Some (Whole w)
run_whole [] w h = absurd (omega (arith, h.0.0))
run_whole (c ∷ cs) w h =
    let first : 0 * 10 + digit_value c ≡ digit_value c = omega arith in
    let value : digits_value_after 10 (digit_value c) cs ≡ w = sym (h.1 ∙ ap (λ v. digits_value_after 10 v cs) first) in
    run_step size_step Beginning (Whole (digit_value c)) c cs (step_first c h.0.1.0)
    ∙ (run_digits cs (digit_value c) h.0.1.1 (omega (arith, value, h.2)) ∙ ap (λ v. Some (Whole v)) value)

-- more digits of a fraction lead to the fraction with them
run_more_places : (ds : List ℕ) (w f j : ℕ) → AllDigits 10 ds → j + length ds ≤ places_of_decimal
    → run size_step (Fraction w f j) ds ≡ Some (Fraction w (digits_value_after 10 f ds) (j + length ds))
run_more_places [] w f j h k = ap (λ n. Some (Fraction w f n)) (omega arith)
run_more_places (c ∷ cs) w f j h k =
    let value = f * 10 + digit_value c in
    let count : (j + 1) + length cs ≡ j + length (c ∷ cs) = omega arith in
    run_step size_step (Fraction w f j) (Fraction w value (j + 1)) c cs (step_fraction w f j c h.0 (omega arith))
    ∙ (run_more_places cs w value (j + 1) h.1 (omega arith)
    ∙ ap (λ n. Some (Fraction w (digits_value_after 10 value cs) n)) count)

-- a whole part and a point lead to the state after the point
pub run_pointed : (text : List ℕ) (w : ℕ) → IsPointed current text w → run size_step Beginning text ≡ Some (Point w)
run_pointed text w h = ap (run size_step Beginning) h.text_is
    ∙ (run_through size_step Beginning (Whole w) h.whole (46 ∷ []) (run_whole h.whole w h.whole_is)
    ∙ run_step size_step (Whole w) (Point w) 46 [] (step_point w))

-- after a point and at most 28 digits, the state is that of these digits as a fraction
pub run_places : (text : List ℕ) (w : ℕ) → IsNumeral 10 text → length text ≤ places_of_decimal
    → run size_step (Point w) text ≡ Some (Fraction w (digits_value 10 text) (length text))
run_places [] w h l = absurd (omega (arith, h.0))
run_places (c ∷ cs) w h l =
    let first : digit_value c ≡ 0 * 10 + digit_value c = omega arith in
    let count : 1 + length cs ≡ length (c ∷ cs) = omega arith in
    run_step size_step (Point w) (Fraction w (digit_value c) 1) c cs (step_pointed w c h.1.0)
    ∙ (run_more_places cs w (digit_value c) 1 h.1.1 (omega arith)
    ∙ cc (first, count))

-- a whole part, a point and at most 28 digits lead to the state of this fraction
pub run_fraction : (whole fraction : List ℕ) (w : ℕ) → IsWholePart current whole w → IsNumeral 10 fraction
    → length fraction ≤ places_of_decimal
    → run size_step Beginning (whole ++ 46 ∷ fraction) ≡ Some (Fraction w (digits_value 10 fraction) (length fraction))
run_fraction whole fraction w is numeral few =
    run_through size_step Beginning (Whole w) whole (46 ∷ fraction) (run_whole whole w is)
    ∙ (run_step size_step (Whole w) (Point w) 46 fraction (step_point w) ∙ run_places fraction w numeral few)

-- the state is after the number `n`, scaled by 10^28, or after spaces that follow it
abbrev pub AtNumber : ℕ → SizeScan → Type 0
AtNumber n (Whole w) = w * scale ≡ n
AtNumber n (Fraction w f j) = fixed_point w f j ≡ n
AtNumber n (Gap m) = m ≡ n
AtNumber n _ = ⊥

-- after a whole part, a point and a fraction, the state is that of their number
pub run_precise : (text : List ℕ) (n : ℕ) → IsPrecise current text n
    → RunsTo size_step (λ s. AtNumber n s × (size_parser_state s ≡ in_fraction)) Beginning text
run_precise text n h = record {
  state = Fraction h.value (digits_value 10 h.fraction) (length h.fraction);
  run_is = ap (run size_step Beginning) h.text_is
      ∙ run_fraction h.whole h.fraction h.value h.whole_is h.fraction_is.0 h.fraction_is.1;
  holds = (ap (λ x. h.value * scale + x) (sym h.fraction_is.2) ∙ sym h.number_is, refl);
}

-- a number leads to a state after that number
run_number : (text : List ℕ) (n : ℕ) → IsNumberText current text n → RunsTo size_step (AtNumber n) Beginning text
run_number text n (inl h) = record { state = Whole h.0; run_is = run_whole text h.0 h.1; holds = sym h.2 }
run_number text n (inr h) = let r = run_precise text n h in record { state = r.state; run_is = r.run_is; holds = r.holds.0 }

-- the steps after a number

-- a space after a number leads to the state after spaces
step_space : (n : ℕ) (s : SizeScan) → AtNumber n s → size_step s 32 ≡ Some (Gap n)
unfolding size_step
step_space n (Whole w) h = grind (arith, h)
step_space n _ h = grind (arith, h)

-- the first letter of a unit after a number leads to the state within this unit
step_unit : (n c : ℕ) (s : SizeScan) (u : UnitScan) → AtNumber n s → unit_step unit_start c ≡ Some u
    → size_step s c ≡ Some (UnitAt n u)
unfolding size_step
step_unit n c (Whole w) u h e = let range = step_range unit_start u c e in grind (arith, nat_tests, h, e)
step_unit n c _ u h e = let range = step_range unit_start u c e in grind (arith, nat_tests, h, e)

-- an input that ends after a number has the result of the number without a unit
number_end : (flags : Flags) (n : ℕ) (s : SizeScan) → AtNumber n s
    → size_at_end flags s ≡ size_or_fault n (unit_of flags unit_start)
number_end flags n (Whole w) h = grind (arith, h)
number_end flags n _ h = grind (arith, h)

-- if a space leads to the state after spaces, more spaces lead there
pub run_gap : (n k : ℕ) (s : SizeScan) → size_step s space ≡ Some (Gap n)
    → run size_step s (replicate (suc k) space) ≡ Some (Gap n)
run_gap n zero s e = run_step size_step s (Gap n) space [] e
run_gap n (suc k) s e =
    run_step size_step s (Gap n) space (replicate (suc k) space) e ∙ run_gap n k (Gap n) (step_space n (Gap n) refl)

-- one space or more after a number lead to the state after spaces
run_some_spaces : (n k : ℕ) (s : SizeScan) → 0 < k → AtNumber n s → run size_step s (replicate k space) ≡ Some (Gap n)
run_some_spaces n zero s some h = absurd (omega (arith, some))
run_some_spaces n (suc k) s some h = run_gap n k s (step_space n s h)

-- any number of spaces after a number, even none, leads to a state after the number
run_spaces : (n k : ℕ) (s : SizeScan) → AtNumber n s → RunsTo size_step (AtNumber n) s (replicate k space)
run_spaces n zero s h = record { state = s; run_is = refl; holds = h }
run_spaces n (suc k) s h = record { state = Gap n; run_is = run_gap n k s (step_space n s h); holds = refl }

-- within a unit, the letters of the unit are read as by the parser of a unit
pub run_in_unit : (n : ℕ) (u : UnitScan) (cs : List ℕ) (s : UnitScan) → run unit_step s cs ≡ Some u
    → run size_step (UnitAt n s) cs ≡ Some (UnitAt n u)
unfolding size_step
run_in_unit n u [] s h = ap (option_map (UnitAt n)) h
run_in_unit n u (c ∷ cs) s h =
    let t = some_passed (λ v. run unit_step v cs) u (unit_step s c) h in
    run_step size_step (UnitAt n s) (UnitAt n t.0) c cs (ap (option_map (UnitAt n)) t.1) ∙ run_in_unit n u cs t.0 t.2

-- the state gives the result of the number `n` and the unit of `u`, and has the parser state of `u` if a unit has begun
pub record EndsAs (n : ℕ) (u : UnitScan) (t : SizeScan) : Type 0 where
  pub ends : (flags : Flags) → size_at_end flags t ≡ size_or_fault n (unit_of flags u)
  pub parser_state : unit_parser_state u ≢ before_unit → size_parser_state t ≡ unit_parser_state u

-- a unit after a number, or none, leads to a state that has the result of this unit
run_unit : (n : ℕ) (u : UnitScan) (s : SizeScan) (text : List ℕ) → AtNumber n s → run unit_step unit_start text ≡ Some u
    → RunsTo size_step (EndsAs n u) s text
run_unit n u s [] h k =
    let e : unit_start ≡ u = cc in
    record {
      state = s;
      run_is = refl;
      holds = record {
        ends = λ flags. number_end flags n s h ∙ ap (λ x. size_or_fault n (unit_of flags x)) e;
        parser_state = λ moved. absurd (moved (ap unit_parser_state (sym e)));
      };
    }
run_unit n u s (c ∷ cs) h k =
    let t = some_passed (λ v. run unit_step v cs) u (unit_step unit_start c) k in
    record {
      state = UnitAt n u;
      run_is = run_step size_step s (UnitAt n t.0) c cs (step_unit n c s t.0 h t.1) ∙ run_in_unit n u cs t.0 t.2;
      holds = record { ends = λ flags. refl; parser_state = λ moved. refl };
    }

-- a number, any number of spaces and a unit are read to the end
run_numbered : (n k : ℕ) (u : UnitScan) (number unit text : List ℕ) → text ≡ number ++ (replicate k space ++ unit)
    → IsNumberText current number n → run unit_step unit_start unit ≡ Some u → RunsTo size_step (EndsAs n u) Beginning text
run_numbered n k u number unit text text_is number_is unit_is =
    subst (RunsTo size_step (EndsAs n u) Beginning) (sym text_is)
    (runs_then size_step (run_number number n number_is) (λ a at_number.
    runs_then size_step (run_spaces n k a at_number) (λ b after. run_unit n u b unit after unit_is)))

-- the state machine reads a number and its unit to the end, and gives them as the result
pub size_text_runs : (flags : Flags) (text : List ℕ) (n : ℕ) (s : Shape) → IsSizeText current flags text n s
    → RunsTo size_step (λ t. size_at_end flags t ≡ Ok (n, s)) Beginning text
size_text_runs flags text n s h =
    let u = spelling_runs flags h.unit_part s h.unit_is in
    let r = run_numbered n h.spaces u.state h.number_part h.unit_part text h.text_is h.number_is u.run_is in
    record { state = r.state; run_is = r.run_is; holds = r.holds.ends flags ∙ ap (size_or_fault n) u.holds }

-- a number and a viable prefix of a unit that has begun are read to a state with the parser state of the unit
sized_front : (flags : Flags) (parser_state : ParserState) (text : List ℕ) → parser_state ≢ before_unit
    → IsNumberAndUnitPrefix current parser_state text → IsScanned (size_scan flags) parser_state text
sized_front flags parser_state text moved h =
    let u = unit_front_runs flags parser_state h.unit_part h.unit_is in
    let r = run_numbered h.number h.spaces u.state h.number_part h.unit_part text h.text_is h.number_is u.run_is in
    record { state = r.state; run_is = r.run_is; holds = r.holds.parser_state (λ e. moved (sym u.holds ∙ e)) ∙ u.holds }

-- the state machine reads each viable prefix to its end, and has its parser state there
pub size_front_runs : (flags : Flags) (parser_state : ParserState) (text : List ℕ)
    → IsViableSizePrefix current parser_state text → IsScanned (size_scan flags) parser_state text
size_front_runs flags beginning text h =
    record { state = Beginning; run_is = ap (run size_step Beginning) h; holds = refl }
size_front_runs flags in_whole text h = record { state = Whole h.0; run_is = run_whole text h.0 h.1; holds = refl }
size_front_runs flags after_point text h =
    record { state = Point h.0; run_is = run_pointed text h.0 h.1; holds = refl }
size_front_runs flags in_fraction text h =
    let r = run_precise text h.0 h.1 in record { state = r.state; run_is = r.run_is; holds = r.holds.1 }
size_front_runs flags before_unit text h =
    let f = h.0 in
    let e = rw (f.unit_is, append-nil {A = ℕ} (replicate f.spaces space)) at f.text_is in
    subst (IsScanned (size_scan flags) before_unit) (sym e)
    (runs_then size_step (run_number f.number_part f.number f.number_is) (λ s after.
    record { state = Gap f.number; run_is = run_some_spaces f.number f.spaces s h.1 after; holds = refl }))
size_front_runs flags parser_state text h = sized_front flags parser_state text (λ e. cc) h
