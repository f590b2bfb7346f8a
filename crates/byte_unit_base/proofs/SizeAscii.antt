-- The inputs of the grammar of sizes are visible characters of ASCII, and spaces between a number and a unit. So only
-- spaces after a number without a unit can be trimmed, and what is left is the same number and unit.
--
-- Of digits `h` and of visible characters `p`, the first part is that the first one is such, and the second that the
-- rest are.
use Rattle.std.proofs.Common.{◌≡◌, ℕ, zero, suc, ◌<◌, true, false, nat_eq, inl, inr, Some, List, [], ◌∷◌, ◌++◌}
use Rattle.std.proofs.Common.{length, replicate, refl, ap, sym, subst, ◌∙◌, arith, append-nil, length-append}
use Rattle.std.specs.List.{list_all}
use Rattle.std.specs.Char.{is_ascii_graphic}
use Rattle.std.specs.Str.{IsAscii, chars, skip_leading_whitespace, drop_trailing_whitespace}
use Rattle.std.specs.Str.Parse.{AllDigits}
use Rattle.std.proofs.lemmas.Bool.{and_from, and_parts}
use Rattle.std.proofs.lemmas.Bool.Decides.{nat_tests}
use Rattle.std.proofs.lemmas.List.Elements.{All-replicate}
use Rattle.std.proofs.lemmas.List.Sums.{list_all-from_AllPass}
use Rattle.std.proofs.lemmas.List.Folds.{list_all-append}
use Rattle.std.proofs.lemmas.Str.{IsAscii-append, chars-IsAscii}
use Rattle.std.proofs.lemmas.Str.Ascii.{IsAscii-nil, IsAscii-cons, IsAscii-from_all}
use Rattle.byte_unit_base.specs.Grammar.Shape.{Shape}
use Rattle.byte_unit_base.specs.Grammar.Version.{current}
use Rattle.byte_unit_base.specs.Grammar.Spelling.{Flags, Spells}
use Rattle.byte_unit_base.specs.Grammar.Number.{IsNumberText}
use Rattle.byte_unit_base.specs.Grammar.SizeText.{space, trim_of, IsSizeText}
use Rattle.byte_unit_base.specs.Reading.Machines.{run, UnitScan, unit_step, start}
use Rattle.byte_unit_base.proofs.Scans.{run_all}
use Rattle.byte_unit_base.proofs.Trim.{visible_not_white}
use Rattle.byte_unit_base.proofs.UnitRuns.{spelling_runs, step_range}

-- visible characters

-- the characters of the text are visible ones of ASCII
abbrev pub IsVisible : List ℕ → Type 0
IsVisible text = list_all is_ascii_graphic text ≡ true

-- two texts of visible characters are one when put together
pub visible_append : (xs ys : List ℕ) → IsVisible xs → IsVisible ys → IsVisible (xs ++ ys)
visible_append xs ys h k = list_all-append is_ascii_graphic xs ys ∙ and_from _ _ h k

-- a text of visible characters is ASCII
pub visible_ascii : (text : List ℕ) → IsVisible text → IsAscii text
visible_ascii [] h = IsAscii-nil
visible_ascii (c ∷ cs) h =
    let p = and_parts (is_ascii_graphic c) (list_all is_ascii_graphic cs) h in
    IsAscii-cons c cs (grind (arith, nat_tests, p.0)) (visible_ascii cs p.1)

-- decimal digits are visible
pub digits_visible : (text : List ℕ) → AllDigits 10 text → IsVisible text
digits_visible [] h = refl
digits_visible (c ∷ cs) h = and_from _ _ (grind (arith, nat_tests, h.0)) (digits_visible cs h.1)

-- spellings

-- what the state machine of units reads is visible
pub run_visible : (text : List ℕ) (s t : UnitScan) → run unit_step s text ≡ Some t → IsVisible text
run_visible text s t e =
    list_all-from_AllPass is_ascii_graphic text (run_all unit_step (λ c. is_ascii_graphic c ≡ true)
    (λ s t c step. let range = step_range s t c step in grind (arith, nat_tests, range)) text s t e)

-- a spelling is visible
spelling_visible : (flags : Flags) (text : List ℕ) (unit : Shape) → Spells current flags text unit → IsVisible text
spelling_visible flags text unit h = run_visible text start _ (spelling_runs flags text unit h).run_is

-- numbers and sizes

-- a number is visible
number_visible : (text : List ℕ) (number : ℕ) → IsNumberText current text number → IsVisible text
number_visible text number (inl h) = digits_visible text h.1.0.1
number_visible text number (inr h) = ap (list_all is_ascii_graphic) h.text_is
    ∙ visible_append h.whole (46 ∷ h.fraction) (digits_visible h.whole h.whole_is.0.1)
    (digits_visible h.fraction h.fraction_is.0.1)

-- a number is not empty
number_some : (text : List ℕ) (number : ℕ) → IsNumberText current text number → 0 < length text
number_some text number (inl h) = h.1.0.0
number_some text number (inr h) =
    omega (arith, ap length h.text_is, length-append h.whole (46 ∷ h.fraction), h.whole_is.0.0)

-- the text of a number is ASCII
pub number_ascii : (text : List ℕ) (number : ℕ) → IsNumberText current text number → IsAscii text
number_ascii text number h = visible_ascii text (number_visible text number h)

-- trimming

-- spaces at the start are skipped
skip_spaces : (count : ℕ) (text : List ℕ)
    → skip_leading_whitespace (replicate count space ++ text) ≡ skip_leading_whitespace text
skip_spaces zero text = refl
skip_spaces (suc count) text = skip_spaces count text

-- no white space is skipped before visible characters
skip_kept : (front rest : List ℕ) → IsVisible front → 0 < length front
    → skip_leading_whitespace (front ++ rest) ≡ front ++ rest
skip_kept [] rest h some = absurd (omega (arith, some))
skip_kept (c ∷ cs) rest h some = rw (visible_not_white c (and_parts _ _ h).0) refl

-- white space is dropped only after visible characters
drop_after : (front rest : List ℕ) → IsVisible front
    → drop_trailing_whitespace (front ++ rest) ≡ front ++ drop_trailing_whitespace rest
drop_after [] rest h = refl
drop_after (c ∷ cs) rest h =
    let p = and_parts _ _ h in rw (visible_not_white c p.0) (ap (λ kept. c ∷ kept) (drop_after cs rest p.1))

-- spaces at the end are dropped
pub spaces_dropped : (spaces : ℕ) → drop_trailing_whitespace (replicate spaces space) ≡ []
spaces_dropped zero = refl
spaces_dropped (suc spaces) = rw (spaces_dropped spaces) refl

-- spaces before visible characters are left
pub gap_left : (spaces : ℕ) (last : List ℕ) → IsVisible last → 0 < length last
    → drop_trailing_whitespace (replicate spaces space ++ last) ≡ replicate spaces space ++ last
gap_left zero last h some = subst (λ text. drop_trailing_whitespace text ≡ text) (append-nil last) (drop_after last [] h)
gap_left (suc spaces) last h some =
    let count = length-append (replicate spaces space) last in
    let some_left : nat_eq (length (replicate spaces space ++ last)) 0 ≡ false = grind (arith, nat_tests, count, some) in
    rw (gap_left spaces last h some, some_left) refl

-- from visible characters, spaces before them are trimmed, and after them what is dropped at the end of the rest
pub trim_front : (before : ℕ) (front rest : List ℕ) → IsVisible front → 0 < length front → IsAscii rest
    → trim_of (replicate before space ++ (front ++ rest)) ≡ front ++ drop_trailing_whitespace rest
trim_front before front rest visible some ascii =
    let spaces = IsAscii-from_all (replicate before space) (All-replicate (λ c. c < 128) before space (omega arith)) in
    let all = IsAscii-append (replicate before space) (front ++ rest) spaces
    (IsAscii-append front rest (visible_ascii front visible) ascii) in
    rw (
      chars-IsAscii (replicate before space ++ (front ++ rest)) all,
      skip_spaces before (front ++ rest),
      skip_kept front rest visible some,
    ) (drop_after front rest visible)

-- of spaces and a unit the unit is left, and the spaces unless it is empty
gap_kept : (spaces : ℕ) (unit_part : List ℕ) → IsVisible unit_part
    → (left : ℕ) × (drop_trailing_whitespace (replicate spaces space ++ unit_part) ≡ replicate left space ++ unit_part)
gap_kept spaces [] h = (0, ap drop_trailing_whitespace (append-nil (replicate spaces space)) ∙ spaces_dropped spaces)
gap_kept spaces (c ∷ cs) h = (spaces, gap_left spaces (c ∷ cs) h (omega arith))

-- the bytes are a number and a unit
module _ (flags : Flags) (bytes : List ℕ) (number : ℕ) (unit : Shape) (h : IsSizeText current flags bytes number unit)
  where
    -- the spaces and the unit are ASCII
    rest_ascii : IsAscii (replicate h.spaces space ++ h.unit_part)
    rest_ascii = IsAscii-append (replicate h.spaces space) h.unit_part
        (IsAscii-from_all (replicate h.spaces space) (All-replicate (λ c. c < 128) h.spaces space (omega arith)))
        (visible_ascii h.unit_part (spelling_visible flags h.unit_part unit h.unit_is))

    -- the bytes of a number and a unit are ASCII
    pub size_ascii : IsAscii bytes
    size_ascii = subst IsAscii (sym h.text_is) (IsAscii-append h.number_part (replicate h.spaces space ++ h.unit_part)
        (number_ascii h.number_part number h.number_is) rest_ascii)

    -- the characters of the bytes are the same number and unit
    pub size_of_chars : IsSizeText current flags (chars bytes) number unit
    size_of_chars = subst (λ text. IsSizeText current flags text number unit) (sym (chars-IsAscii bytes size_ascii)) h

    -- the trimmed bytes are the number and what is left of the spaces and the unit
    trimmed_text : trim_of bytes ≡ h.number_part ++ drop_trailing_whitespace (replicate h.spaces space ++ h.unit_part)
    trimmed_text = ap trim_of h.text_is ∙ trim_front 0 h.number_part (replicate h.spaces space ++ h.unit_part)
        (number_visible h.number_part number h.number_is) (number_some h.number_part number h.number_is) rest_ascii

    -- the characters of the bytes, trimmed, are the same number and unit
    pub trimmed_size : IsSizeText current flags (trim_of bytes) number unit
    trimmed_size =
        let kept = gap_kept h.spaces h.unit_part (spelling_visible flags h.unit_part unit h.unit_is) in
        record {
          number_part = h.number_part;
          spaces = kept.0;
          unit_part = h.unit_part;
          text_is = trimmed_text ∙ ap (λ rest. h.number_part ++ rest) kept.1;
          number_is = h.number_is;
          unit_is = h.unit_is;
        }

    -- if the unit is not empty, nothing is trimmed
    pub kept_text : 0 < length h.unit_part → trim_of bytes ≡ bytes
    kept_text some =
        let visible = spelling_visible flags h.unit_part unit h.unit_is in
        trimmed_text ∙ (ap (λ rest. h.number_part ++ rest) (gap_left h.spaces h.unit_part visible some) ∙ sym h.text_is)
