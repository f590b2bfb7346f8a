-- Where the parser of a unit stops after a number, the parser of both stops.
use Rattle.std.proofs.Common.{◌≡◌, ℕ, zero, suc, ◌+◌, ◌<◌, ◌≤◌, eqb, false, inr, List, [], ◌∷◌, ◌++◌, Some, None, length}
use Rattle.std.proofs.Common.{take, drop, replicate, refl, sym, ap, subst, ◌∙◌, arith, take-add, option_map, chars}
use Rattle.std.proofs.Common.{IsAscii}
use Rattle.std.proofs.lemmas.Bool.Decides.{nat_tests}
use Rattle.std.proofs.lemmas.List.{length-drop, drop-drop}
use Rattle.std.proofs.lemmas.List.Elements.{All-replicate}
use Rattle.std.proofs.lemmas.Str.{IsAscii-append}
use Rattle.std.proofs.lemmas.Str.Ascii.{IsAscii-from_all}
use Rattle.byte_unit_base.specs.Grammar.Spelling.{Flags}
use Rattle.byte_unit_base.specs.Grammar.SizeText.{space}
use Rattle.byte_unit_base.specs.Reading.Machines.{run, UnitScan, unit_step, unit_of, start as unit_start, SizeScan}
use Rattle.byte_unit_base.specs.Reading.Machines.{Beginning, Gap, UnitAt, size_step}
use Rattle.byte_unit_base.specs.Reading.Ends.{unit_stop, IsFirst, IsNoSpace, EndsNumber, IsLeadingNumber, IsStopAt}
use Rattle.byte_unit_base.specs.Reading.Ends.{IsStoppedBefore, IsUnitStop}
use Rattle.byte_unit_base.specs.declared.stop.Reason.TheVariants.{InUnit}
use Rattle.byte_unit_base.specs.declared.stop.UnitStop.{UnitStop}
use Rattle.byte_unit_base.proofs.Options.{some_passed}
use Rattle.byte_unit_base.proofs.Scans.{run_through, run_step, RunsTo}
use Rattle.byte_unit_base.proofs.SizeRuns.{run_in_unit, run_gap}
use Rattle.byte_unit_base.proofs.SizeAscii.{number_ascii}
use Rattle.byte_unit_base.proofs.SizeRest.{first_char, ends_gap, text_from, utf8_from}
use Rattle.byte_unit_base.proofs.UnitStops.{run_ascii, none_left, unit_fault_after}
use Rattle.byte_unit_base.proofs.UnitRuns.{no_other_step}

-- after a number, spaces lead to a state in which the next character ends the number
after_spaces : (n spaces : ℕ) (s : SizeScan) (text : List ℕ) → IsFirst (EndsNumber s n) (replicate spaces space ++ text)
    → RunsTo size_step (λ t. IsFirst (EndsNumber t n) text) s (replicate spaces space)
after_spaces n zero s text next = record { state = s; run_is = refl; holds = next }
after_spaces n (suc spaces) s text next =
    record { state = Gap n; run_is = run_gap n spaces s next.step_is; holds = ends_gap n text }

-- a character that ends the number, and is no space, has the step that it has at the start of a unit
unit_first : (n c : ℕ) (s : SizeScan) → EndsNumber s n c → IsNoSpace c
    → size_step s c ≡ option_map (UnitAt n) (unit_step unit_start c)
unit_first n c s ends other = let no_space : eqb c 32 ≡ false = grind (arith, nat_tests, other) in
    ends.step_is ∙ rw no_space refl

-- if no unit begins at what follows a number, the parser stops there
at_first : (flags : Flags) (n : ℕ) (s : SizeScan) (rest : List ℕ) → IsFirst (EndsNumber s n) rest
    → IsFirst IsNoSpace rest → IsFirst (λ c. unit_step unit_start c ≡ None) rest → (rest ≡ [] → ⊥)
    → IsStoppedBefore flags s (InUnit (unit_stop unit_start)) rest
at_first flags n s [] ends other next some = absurd (some refl)
at_first flags n s (c ∷ cs) ends other next some =
    (unit_first n c s ends other ∙ ap (option_map (UnitAt n)) next, sym (ends.fault_is flags))

-- within a unit after a number, the parser stops where the unit alone has no step, and cannot end
in_unit : (flags : Flags) (n : ℕ) (u : UnitScan) (rest : List ℕ) → IsFirst (λ c. unit_step u c ≡ None) rest
    → (rest ≡ [] → unit_of flags u ≡ None) → IsStoppedBefore flags (UnitAt n u) (InUnit (unit_stop u)) rest
unfolding size_step
in_unit flags n u [] next ends = (tt, unit_fault_after flags u [] ends)
in_unit flags n u (c ∷ cs) next ends =
    (ap (option_map (UnitAt n)) next, unit_fault_after flags u (c ∷ cs) ends)

-- after a number, the beginning of a unit leads to a state in which the parser stops if that of the unit does
after_unit : (flags : Flags) (n : ℕ) (s : SizeScan) (unit rest : List ℕ) (u : UnitScan)
    → IsFirst (EndsNumber s n) (unit ++ rest) → IsFirst IsNoSpace (unit ++ rest)
    → run unit_step unit_start unit ≡ Some u → IsFirst (λ c. unit_step u c ≡ None) rest
    → (rest ≡ [] → unit_of flags u ≡ None)
    → RunsTo size_step (λ t. IsStoppedBefore flags t (InUnit (unit_stop u)) rest) s unit
after_unit flags n s [] rest u number other run_is next ends =
    let same : unit_start ≡ u = cc in
    subst (λ x. RunsTo size_step (λ t. IsStoppedBefore flags t (InUnit (unit_stop x)) rest) s []) same record {
      state = s;
      run_is = refl;
      holds = at_first flags n s rest number other (subst (λ x. IsFirst (λ c. unit_step x c ≡ None) rest) (sym same) next)
          (λ none. let e = ap (unit_of flags) same ∙ ends none in let z : ⊥ = cc in z);
    }
after_unit flags n s (c ∷ cs) rest u number other run_is next ends =
    let t = some_passed (λ v. run unit_step v cs) u (unit_step unit_start c) run_is in
    record {
      state = UnitAt n u;
      run_is = run_step size_step s (UnitAt n t.0) c cs
          (unit_first n c s number other ∙ ap (option_map (UnitAt n)) t.1)
          ∙ run_in_unit n u cs t.0 t.2;
      holds = in_unit flags n u rest next ends;
    }

-- after a number and spaces, the parser stops where that of the unit does, with its error
pub stops_in_unit : (flags : Flags) (bytes rest : List ℕ) (n end spaces index : ℕ) (kept : UnitStop)
    → IsLeadingNumber bytes n end → rest ≡ drop end bytes → spaces ≤ length rest → take spaces rest ≡ replicate spaces space
    → IsFirst IsNoSpace (drop spaces rest) → IsUnitStop flags (drop (end + spaces) bytes) kept index
    → IsStopAt flags bytes (end + spaces + index) (InUnit kept)
stops_in_unit flags bytes rest n end spaces index kept number rest_is within gap other stop =
    let unit = drop (end + spaces) bytes in
    let scan = stop.0 in
    let leads = stop.1 in
    let number_small = number_ascii (take end bytes) n number.number_is in
    let gap_small = All-replicate (λ c. c < 128) spaces space (omega arith) in
    let gap_ascii : IsAscii (take spaces rest) = subst IsAscii (sym gap) (IsAscii-from_all (replicate spaces space) gap_small) in
    let at_unit : drop spaces rest ≡ unit = ap (drop spaces) rest_is ∙ drop-drop spaces end bytes in
    let front : take (end + spaces) bytes ≡ take end bytes ++ take spaces rest =
    take-add end spaces bytes ∙ ap (λ r. take end bytes ++ take spaces r) (sym rest_is) in
    let ascii : IsAscii (take (end + spaces) bytes) =
    subst IsAscii (sym front) (IsAscii-append (take end bytes) (take spaces rest) number_small gap_ascii) in
    let inside : end + spaces ≤ length bytes = omega (arith, within, number.within, ap length rest_is, length-drop end bytes) in
    let text : chars (drop end bytes) ≡ replicate spaces space ++ chars unit =
    ap chars (sym rest_is) ∙ (text_from rest spaces gap_ascii
    ∙ (ap (λ g. g ++ chars (drop spaces rest)) gap ∙ ap (λ u. replicate spaces space ++ chars u) at_unit)) in
    let unit_ascii = run_ascii (take index unit) unit_start scan leads.run_is in
    let unit_text = text_from unit index unit_ascii in
    record {
      within = omega (arith, inside, leads.within, length-drop (end + spaces) bytes);
      ascii = subst IsAscii (sym (take-add (end + spaces) index bytes))
          (IsAscii-append (take (end + spaces) bytes) (take index unit) ascii unit_ascii);
      stopped = λ utf8.
          let utf8_unit = utf8_from bytes (end + spaces) utf8 inside ascii in
          let after = chars (drop index unit) in
          let a = after_spaces n spaces number.state (chars unit)
          (subst (IsFirst (EndsNumber number.state n)) text (number.next utf8)) in
          let no_space = first_char IsNoSpace (λ c wide. λ e. omega (arith, wide, e)) unit utf8_unit
          (subst (IsFirst IsNoSpace) at_unit other) in
          let no_letter = first_char (λ c. unit_step scan c ≡ None)
          (λ c wide. no_other_step scan.multiple scan.word c (inr (omega (arith, wide)))) (drop index unit)
          (utf8_from unit index utf8_unit leads.within unit_ascii) leads.next in
          let b = after_unit flags n a.state (take index unit) after scan
          (subst (IsFirst (EndsNumber a.state n)) unit_text a.holds) (subst (IsFirst IsNoSpace) unit_text no_space)
          leads.run_is no_letter
          (λ none. stop.2 (none_left unit index utf8_unit leads.within unit_ascii none)) in
          let to_unit = run_through size_step Beginning number.state (take end bytes) (replicate spaces space) number.run_is
          ∙ a.run_is in
          record {
            state = b.state;
            run_is = ap (run size_step Beginning)
                (take-add (end + spaces) index bytes ∙ ap (λ f. f ++ take index unit)
                (front ∙ ap (λ g. take end bytes ++ g) gap))
                ∙ (run_through size_step Beginning a.state (take end bytes ++ replicate spaces space) (take index unit)
                to_unit ∙ b.run_is);
            before = subst (λ kept. IsStoppedBefore flags b.state (InUnit kept) (chars (drop (end + spaces + index) bytes)))
                stop.3
                (subst (λ r. IsStoppedBefore flags b.state (InUnit (unit_stop scan)) (chars r))
                (drop-drop index (end + spaces) bytes) b.holds);
          };
    }
