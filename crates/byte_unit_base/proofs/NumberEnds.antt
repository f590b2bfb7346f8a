-- The parser reads the digits of a number at once. It gets to the state that the state machine has after them, or stops
-- where the machine has an error.
use Rattle.std.proofs.Common.{◌≡◌, ◌≢◌, ℕ, ◌+◌, ◌-◌, ◌*◌, ◌^◌, ◌<◌, ◌≤◌, true, false, inl, inr, List, [], ◌∷◌, ◌++◌}
use Rattle.std.proofs.Common.{None, Some, length, take, drop, get_or, refl, sym, ap, subst, ◌∙◌, arith}
use Rattle.std.proofs.Common.{take-append-drop, take-add, chars, IsAscii, get_or-drop}
use Rattle.std.specs.Char.{digit_value}
use Rattle.std.specs.Float.Numeral.{digits_len}
use Rattle.std.specs.Str.Parse.{AllDigits, digits_value}
use Rattle.core.proofs.dec2flt.DigitsLemmas.{ends_digits}
use Rattle.core.proofs.dec2flt.Rows.{AllDigits-take}
use Rattle.std.proofs.lemmas.Bool.Decides.{nat_tests}
use Rattle.std.proofs.lemmas.Fmt.{IsAscii-from_digits}
use Rattle.std.proofs.lemmas.Int.Digits.{digits_value-lt, digits_value_more}
use Rattle.std.proofs.lemmas.List.{length-take-le, length-drop, drop_more, take_more, get_or-take, take-append-le}
use Rattle.std.proofs.lemmas.Str.{IsAscii-append}
use Rattle.std.proofs.lemmas.Str.Parse.{digit_at}
use Rattle.std.proofs.lemmas.Str.Ascii.{IsAscii-nil, IsAscii-cons, IsAscii-more}
use Rattle.byte_unit_math.specs.Bounds.{scale, places_of_decimal, whole_limit}
use Rattle.byte_unit_base.specs.Grammar.Version.{current}
use Rattle.byte_unit_base.specs.Grammar.Spelling.{Flags, flags_of}
use Rattle.byte_unit_base.specs.Grammar.Number.{point, IsWholePart, IsPointed, IsPrecise}
use Rattle.byte_unit_base.specs.Errors.Fault.{fault_at, too_long}
use Rattle.byte_unit_base.specs.Reading.Machines.{run, SizeScan, Beginning, Whole, Point, Fraction, is_digit, size_step}
use Rattle.byte_unit_base.specs.Reading.Machines.{fixed_point, size_parser_state}
use Rattle.byte_unit_base.specs.Reading.Ends.{IsFirst, IsStopAt, IsStoppedBefore, EndsNumber, IsLeadingNumber}
use Rattle.byte_unit_base.specs.Reading.Ends.{IsLimitAt}
use Rattle.byte_unit_base.specs.declared.stop.NumberStop.TheVariants.{NoWhole, NoFraction, TooLong}
use Rattle.byte_unit_base.specs.declared.stop.Reason.TheVariants.{InNumber}
use Rattle.byte_unit_base.proofs.Lists.{dropped_first}
use Rattle.byte_unit_base.proofs.Scans.{run_through, reached}
use Rattle.byte_unit_base.proofs.SizeReached.{fraction_number}
use Rattle.byte_unit_base.proofs.SizeReads.{size_scan_is}
use Rattle.byte_unit_base.proofs.SizeRuns.{run_whole, run_pointed, run_places}
use Rattle.byte_unit_base.proofs.SizeRest.{first_char, IsNoDigit, wide_no_digit, no_digit_first, ends_whole}
use Rattle.byte_unit_base.proofs.SizeRest.{ends_fraction, text_from, utf8_from}
use Rattle.byte_unit_base.proofs.NumberBytes.{digits_of_run}

-- what follows digits

-- no digit follows a run of digits that std finds
none_after : (bytes : List ℕ) (end : ℕ) → end ≡ 0 + digits_len (drop 0 bytes) → end < length bytes
    → IsNoDigit (get_or bytes end 0)
none_after bytes end is inside =
    let all : end ≡ digits_len bytes = omega (arith, is) in
    subst (IsFirst IsNoDigit) (drop_more bytes end 0 inside)
    (no_digit_first (drop end bytes) (ap (λ n. digits_len (drop n bytes)) all ∙ ends_digits bytes))

-- a digit of digits, by the test of the state machine
pub digit_in : (ds : List ℕ) (i : ℕ) → AllDigits 10 ds → i < length ds → is_digit (get_or ds i 0) ≡ true
digit_in ds i digits inside = let range = digit_at ds i digits inside in grind (arith, nat_tests, range)

-- if no digit is at the start of the text, the parser stops there
no_whole : (flags : Flags) (text : List ℕ) → IsFirst IsNoDigit text
    → IsStoppedBefore flags Beginning (InNumber NoWhole) text
unfolding size_step
no_whole flags [] none = (tt, refl)
no_whole flags (c ∷ cs) none = (rw none refl, refl)

-- if no digit is after the point, the parser stops there
no_fraction : (flags : Flags) (w : ℕ) (text : List ℕ) → IsFirst IsNoDigit text
    → IsStoppedBefore flags (Point w) (InNumber NoFraction) text
unfolding size_step
no_fraction flags w [] none = (tt, refl)
no_fraction flags w (c ∷ cs) none = (rw none refl, refl)

-- if a digit follows for which the state machine has no step, with the error of a number that is too long, the parser
-- stops there
one_too_many : (flags : Flags) (state : SizeScan) (bytes : List ℕ) (index : ℕ) → index < length bytes
    → IsAscii (take index bytes) → run size_step Beginning (take index bytes) ≡ Some state
    → is_digit (get_or bytes index 0) ≡ true → size_step state (get_or bytes index 0) ≡ None
    → too_long ≡ fault_at current flags (size_parser_state state) (get_or bytes index 0)
    → IsStopAt flags bytes index (InNumber TooLong)
one_too_many flags state bytes index inside ascii run_is digit none fault_is =
    let c = get_or bytes index 0 in
    let small : c < 128 = grind (arith, nat_tests, digit) in
    let next = ap chars (drop_more bytes index 0 inside)
    ∙ text_from (c ∷ drop (index + 1) bytes) 1 (IsAscii-cons c [] small IsAscii-nil) in
    let before = subst (IsStoppedBefore flags state (InNumber TooLong)) (sym next) (none, fault_is) in
    record {
      within = omega (arith, inside);
      ascii = ascii;
      stopped = λ utf8. record { state = state; run_is = run_is; before = before };
    }

-- if the bytes start with no digit, the parser stops at the start, where a digit is missing
pub stops_at_start : (bytes : List ℕ) → digits_len bytes ≡ 0 → (flags : Flags) → IsStopAt flags bytes 0 (InNumber NoWhole)
stops_at_start bytes none flags = record {
  within = omega arith;
  ascii = IsAscii-nil;
  stopped = λ utf8. record {
    state = Beginning;
    run_is = refl;
    before = no_whole flags (chars bytes) (first_char IsNoDigit wide_no_digit bytes utf8 (no_digit_first bytes none));
  };
}

-- the bytes begin with digits that no digit follows, and `whole` is what the code reads them as; it is below 2^112, so
-- it is their value
module _ (bytes : List ℕ) (end whole : ℕ) (run_is : end ≡ 0 + digits_len (drop 0 bytes)) (within : end ≤ length bytes)
    (some : end ≡ 0 → ⊥)
    (small : whole < whole_limit) (exact : whole < whole_limit → whole ≡ digits_value 10 (take end bytes)) where
  -- these digits are a whole part
  whole_is : IsWholePart current (take end bytes) whole
  whole_is =
      ((omega (arith, length-take-le end bytes within, some), digits_of_run bytes end run_is), exact small, small)

  -- they are ASCII
  whole_ascii : IsAscii (take end bytes)
  whole_ascii = IsAscii-from_digits (take end bytes) (digits_of_run bytes end run_is)

  -- a whole part that no point follows is the leading number
  pub leading_whole : (n : ℕ) → (end < length bytes → get_or bytes end 0 ≢ point) → whole * scale ≡ n
      → IsLeadingNumber bytes n end
  leading_whole n no_point at =
      let ends = EndsNumber (Whole whole) n in
      record {
        within = within;
        number_is = inl (whole, whole_is, sym at);
        state = Whole whole;
        run_is = run_whole (take end bytes) whole whole_is;
        next = λ utf8.
            first_char ends (λ c wide. ends_whole whole n c at (wide_no_digit c wide) (grind (arith, nat_tests)))
            (drop end bytes) (utf8_from bytes end utf8 within whole_ascii)
            (dropped_first ends bytes end (λ inside. ends_whole whole n (get_or bytes end 0) at
            (none_after bytes end run_is inside) (let differs = no_point inside in grind (arith, nat_tests, differs))));
      }

  -- a point follows
  module _ (not_all : end ≡ length bytes → ⊥) (point_is : get_or bytes end 0 ≡ point) where
    -- the bytes after the point
    abbrev rest : List ℕ
    rest = drop (end + 1) bytes

    -- the point is within the bytes
    inside : end < length bytes
    inside = omega (arith, not_all, within)

    -- the bytes up to the point, with it, are a whole part and a point, as the grammar has them
    abbrev pointed : IsPointed current (take (end + 1) bytes) whole
    pointed = record {
      whole = take end bytes;
      text_is = take_more bytes end 0 inside ∙ ap (λ c. take end bytes ++ c ∷ []) point_is;
      whole_is = whole_is;
    }

    -- they are ASCII
    pointed_ascii : IsAscii (take (end + 1) bytes)
    pointed_ascii = IsAscii-more bytes end inside whole_ascii (omega (arith, point_is))

    -- if no digit follows the point, the parser stops after it, where a digit is missing
    pub stops_after_point : digits_len rest ≡ 0 → (flags : Flags) → IsStopAt flags bytes (end + 1) (InNumber NoFraction)
    stops_after_point none flags = record {
      within = omega (arith, inside);
      ascii = pointed_ascii;
      stopped = λ utf8. record {
        state = Point whole;
        run_is = run_pointed (take (end + 1) bytes) whole pointed;
        before = no_fraction flags whole (chars rest) (first_char IsNoDigit wide_no_digit rest
            (utf8_from bytes (end + 1) utf8 (omega (arith, inside)) pointed_ascii) (no_digit_first rest none));
      };
    }

    -- digits follow the point, of which the first `count` are at most 28
    module _ (count : ℕ) (count_within : count ≤ length rest) (digits : AllDigits 10 (take count rest))
        (some_digits : count ≡ 0 → ⊥) (few : count ≤ places_of_decimal) where
      -- their value
      abbrev fraction : ℕ
      fraction = digits_value 10 (take count rest)

      -- there are `count`
      count_is : length (take count rest) ≡ count
      count_is = length-take-le count rest count_within

      -- the bytes up to them are whole part, point and digits
      text_is : take (end + 1 + count) bytes ≡ take (end + 1) bytes ++ take count rest
      text_is = take-add (end + 1) count bytes

      -- the bytes up to them are ASCII
      digits_ascii : IsAscii (take (end + 1 + count) bytes)
      digits_ascii = subst IsAscii (sym text_is)
          (IsAscii-append (take (end + 1) bytes) (take count rest) pointed_ascii
          (IsAscii-from_digits (take count rest) digits))

      -- they lead to the state of this fraction
      run_digits : run size_step Beginning (take (end + 1 + count) bytes)
          ≡ Some (Fraction whole fraction (length (take count rest)))
      run_digits = ap (run size_step Beginning) text_is
          ∙ (run_through size_step Beginning (Point whole) (take (end + 1) bytes) (take count rest)
          (run_pointed (take (end + 1) bytes) whole pointed)
          ∙ run_places (take count rest) whole (omega (arith, count_is, some_digits), digits)
          (omega (arith, count_is, few)))

      -- if no digit follows, whole part, point and fraction are the leading number
      leading_digits : (n : ℕ) → fixed_point whole fraction (length (take count rest)) ≡ n
          → (end + 1 + count < length bytes → IsNoDigit (get_or bytes (end + 1 + count) 0))
          → IsLeadingNumber bytes n (end + 1 + count)
      leading_digits n at other =
          let stop = end + 1 + count in
          let state = Fraction whole fraction (length (take count rest)) in
          let ends = EndsNumber state n in
          let ends_number : (c : ℕ) → IsNoDigit c → ends c = λ c none. ends_fraction state n c at refl none in
          let stop_within : stop ≤ length bytes =
          omega (arith, count_within, length-drop {A = ℕ} (end + 1) bytes, inside) in
          record {
            within = stop_within;
            number_is = inr (subst (IsPrecise current (take stop bytes)) at
                (fraction_number whole fraction _ (take stop bytes)
                (reached (size_scan_is (flags_of false false)) (take stop bytes) state run_digits)));
            state = state;
            run_is = run_digits;
            next = λ utf8.
                first_char ends (λ c wide. ends_number c (wide_no_digit c wide)) (drop stop bytes)
                (utf8_from bytes stop utf8 stop_within digits_ascii)
                (dropped_first ends bytes stop (λ more. ends_number (get_or bytes stop 0) (other more)));
          }

    -- digits of a fraction follow the point, up to `stop`
    module _ (stop : ℕ) (stop_is : stop ≡ end + 1 + digits_len rest) (stop_within : stop ≤ length bytes) where
      -- the number of digits of the fraction
      abbrev places : ℕ
      places = stop - (end + 1)

      -- it is that of the run which std finds after the point
      places_are : places ≡ 0 + digits_len (drop 0 rest)
      places_are = omega (arith, stop_is)

      -- the digits are within the bytes after the point
      places_within : places ≤ length rest
      places_within = omega (arith, stop_within, length-drop {A = ℕ} (end + 1) bytes)

      -- the digits of the fraction are decimal digits
      digits_are : AllDigits 10 (take places rest)
      digits_are = digits_of_run rest places places_are

      -- the value of the digits is below the power of ten with as many zeros
      pub fraction_below : (fraction : ℕ) → fraction ≡ digits_value 10 (take places rest) → fraction < 10 ^ places
      fraction_below fraction is =
          omega (
            arith,
            is,
            digits_value-lt 10 (take places rest) digits_are,
            ap (λ n. 10 ^ n) (length-take-le places rest places_within),
          )

      -- if the fraction has more than 28 digits, the parser stops at the 29th
      pub stops_in_fraction : places_of_decimal < places → (flags : Flags)
          → IsStopAt flags bytes (end + 1 + places_of_decimal) (InNumber TooLong)
      unfolding size_step
      stops_in_fraction many flags =
          let count = places_of_decimal in
          let kept : take count (take places rest) ≡ take count rest =
          sym (take-append-le count (take places rest) (drop places rest)
          (omega (arith, many, length-take-le places rest places_within)))
          ∙ ap (take count) (take-append-drop places rest) in
          let first = subst (AllDigits 10) kept (AllDigits-take count (take places rest) digits_are) in
          let count_within : count ≤ length rest = omega (arith, many, places_within) in
          let index = end + 1 + count in
          let c = get_or bytes index 0 in
          let here : get_or (take places rest) count 0 ≡ c =
          get_or-take places rest count 0 many ∙ get_or-drop (end + 1) bytes count 0 in
          let digit : is_digit c ≡ true = ap is_digit (sym here) ∙ digit_in (take places rest) count digits_are
          (omega (arith, many, length-take-le places rest places_within)) in
          let full = length-take-le count rest count_within in
          one_too_many flags (Fraction whole (digits_value 10 (take count rest)) (length (take count rest))) bytes index
          (omega (arith, stop_is, stop_within, many))
          (digits_ascii count count_within first (omega arith) (omega arith))
          (run_digits count count_within first (omega arith) (omega arith)) digit
          (grind (arith, nat_tests, digit, full)) (rw digit refl)

      -- a whole part, a point and a fraction are the leading number
      pub leading_precise : (fraction n : ℕ) → (places ≡ 0 → ⊥)
          → places ≤ places_of_decimal → fraction ≡ digits_value 10 (take places rest)
          → n ≡ fixed_point whole fraction places → IsLeadingNumber bytes n stop
      leading_precise fraction n some_places few value value_of_n =
          let value_is = value_of_n ∙ (ap (λ f. fixed_point whole f places) value
          ∙ ap (fixed_point whole (digits_value 10 (take places rest))) (sym (length-take-le places rest places_within))) in
          subst (IsLeadingNumber bytes n) (omega (arith, stop_is))
          (leading_digits places places_within digits_are some_places few n (sym value_is)
          (λ more. subst IsNoDigit (get_or-drop (end + 1) bytes places 0)
          (none_after rest places places_are (omega (arith, more, length-drop {A = ℕ} (end + 1) bytes)))))

-- if the whole part reaches the limit, the parser stops at the digit with which it does
pub stops_in_whole : (bytes : List ℕ) (end index : ℕ) → end ≡ 0 + digits_len (drop 0 bytes) → end ≤ length bytes
    → IsLimitAt (take end bytes) index → (flags : Flags) → IsStopAt flags bytes index (InNumber TooLong)
unfolding size_step
stops_in_whole bytes end index run_is within limit flags =
    let ds = take end bytes in
    let digits = digits_of_run bytes end run_is in
    let len = length-take-le end bytes within in
    let value = digits_value 10 (take index ds) in
    let c = get_or bytes index 0 in
    let here : get_or ds index 0 ≡ c = get_or-take end bytes index 0 (omega (arith, limit.inside, len)) in
    let digit : is_digit c ≡ true = ap is_digit (sym here) ∙ digit_in ds index digits limit.inside in
    let next : whole_limit ≤ value * 10 + digit_value c =
    omega (arith, limit.above, digits_value_more 10 ds index limit.inside, ap digit_value here) in
    let some : index ≡ 0 → ⊥ = λ none.
    let no_value : value ≡ 0 = ap (λ n. digits_value 10 (take n ds)) none in
    grind (arith, nat_tests, no_value, next, digit) in
    let kept : take index ds ≡ take index bytes =
    sym (take-append-le index ds (drop end bytes) (omega (arith, limit.inside)))
    ∙ ap (take index) (take-append-drop end bytes) in
    let first = subst (AllDigits 10) kept (AllDigits-take index ds digits) in
    let place_within : index ≤ length bytes = omega (arith, limit.inside, len, within) in
    let whole : IsWholePart current (take index bytes) value = (
      (omega (arith, length-take-le index bytes place_within, some), first),
      ap (digits_value 10) kept,
      limit.below,
    ) in
    one_too_many flags (Whole value) bytes index (omega (arith, limit.inside, len, within))
    (IsAscii-from_digits (take index bytes) first) (run_whole (take index bytes) value whole) digit
    (grind (arith, nat_tests, digit, next)) (rw digit refl)
