-- The parser of an adjusted size as a function: the unit that it computes is the appropriate one.
--
-- Of the units of a list, `members.0` is that the first one is in the unit set, and `members.1` that the others are.
use Rattle.std.proofs.Common.{◌≡◌, ℕ, ◌*◌, ◌≤◌, true, false, List, [], ◌∷◌, Result, Ok, Err, refl, sym, ap, ◌∙◌}
use Rattle.std.proofs.Common.{leb, arith, ⊎_elim, inl, inr, IfOk}
use Rattle.std.specs.List.{AllByRecursion}
use Rattle.std.specs.Result.{result_map_both}
use Rattle.std.proofs.lemmas.Bool.{and_parts, cases_lt, cond-true, cond-false, le-leb, lt-leb}
use Rattle.std.proofs.lemmas.Bool.Decides.{nat_tests}
use Rattle.byte_unit_math.specs.Bounds.{unit_limit}
use Rattle.byte_unit_base.specs.Grammar.Shape.{Shape, bits}
use Rattle.byte_unit_base.specs.Grammar.Units.{shape_of, unit_of_shape}
use Rattle.byte_unit_choice.specs.Multiples.{units_of_prefixes, prefix_count}
use Rattle.byte_unit_base.specs.Errors.Meaning.{size_fault}
use Rattle.byte_unit_base.specs.Sizes.Kinds.{bits_in, own_unit}
use Rattle.byte_unit_choice.specs.Family.{own_family, InFamily}
use Rattle.byte_unit_choice.specs.Choice.{IsLargest, IsLargestOrOwn, NoneHas, IsEligibleUnit, IsAppropriate}
use Rattle.byte_unit_base.specs.Grammar.Version.{current}
use Rattle.byte_unit_choice.specs.declared.choice.Family.{Family}
use Rattle.byte_unit_choice.specs.AdjustedSize.{AdjustedSize, IsAdjustedReading, size_answer}
use Rattle.byte_unit_base.specs.Reading.Parsed.{parsed_size}
use Rattle.byte_unit_choice.specs.ParsedAdjusted.{first_not_above, largest_unit_of, in_largest_unit_of, parsed_adjusted}
use Rattle.byte_unit_base.specs.declared.kind.Kind.{Kind}
use Rattle.byte_unit_base.specs.declared.errors.ParseError.{ParseError}
use Rattle.byte_unit_base.specs.declared.unit.Unit.{Unit as UnitName}
use Rattle.byte_unit_choice.specs.declared.unit_type.UnitType.TheVariants.{Both}
use Rattle.byte_unit_base.proofs.Computed.{unit_of_its_shape}
use Rattle.byte_unit_choice.proofs.OneChoice.{same_unit}
use Rattle.byte_unit_choice.proofs.Falling.{IsIn, falls, in_falling, all_in_family, le_of_falls, current_falls}

-- a size in bits, a unit set, and the unit that is taken if no unit of the set is small enough
module _ (family : Family) (in_bits : ℕ) (own : Shape) where
  -- a unit of the unit set that is not above the size may be chosen, since every type of prefix is allowed
  eligible : (unit : Shape) → InFamily current family unit → bits unit ≤ in_bits
      → IsEligibleUnit family Both in_bits unit
  eligible unit member not_above = record { member = member; of_type = tt; not_above = not_above }

  -- in a falling list, the first unit that is not above the size is the largest
  first_is_largest : (unit : Shape) → IsLargest (IsEligibleUnit family Both in_bits) unit
      → (units : List Shape) (bound : ℕ) → falls bound units ≡ true → AllByRecursion (InFamily current family) units
      → IsIn unit units → first_not_above in_bits own units ≡ unit
  first_is_largest unit largest [] bound fall members among = absurd among
  first_is_largest unit largest (x ∷ xs) bound fall members among =
      let parts = and_parts (leb (bits x) bound) (falls (bits x) xs) fall in
      ⊎_elim
      (λ above. cond-false _ x (first_not_above in_bits own xs) (lt-leb (bits x) in_bits above)
      ∙ first_is_largest unit largest xs (bits x) parts.1 members.1
      (⊎_elim (λ same. absurd (omega (arith, ap bits same, largest.has.not_above, above))) (λ later. later) among))
      (λ below. cond-true _ x (first_not_above in_bits own xs) (le-leb (bits x) in_bits below)
      ∙ ⊎_elim (λ same. same)
      (λ later. same_unit x unit members.0.prefix.some largest.has.member.prefix.some (omega (
        arith,
        le_of_falls xs (bits x) unit parts.1 later,
        largest.largest x (eligible x members.0 below),
      )))
      among)
      (cases_lt in_bits (bits x))

  -- if all units are above the size, there is none
  first_is_own : NoneHas (IsEligibleUnit family Both in_bits) → (units : List Shape)
      → AllByRecursion (InFamily current family) units → first_not_above in_bits own units ≡ own
  first_is_own none [] members = refl
  first_is_own none (x ∷ xs) members =
      let rest = first_is_own none xs members.1 in
      let above : ¬ (bits x ≤ in_bits) = λ below. none x (eligible x members.0 below) in
      grind (arith, nat_tests, rest, above)

-- the shape that is computed is the largest one not above the size, or the base unit of the kind if there is none
computed_shape : (kind : Kind) (size : ℕ) (unit : Shape)
    → IsLargestOrOwn kind (IsEligibleUnit (own_family kind) Both (size * bits_in kind)) unit
    → largest_unit_of kind size ≡ unit
computed_shape kind size unit (inl largest) =
    let family = own_family kind in
    let member = largest.has.member in
    first_is_largest family (size * bits_in kind) (own_unit kind) unit largest (units_of_prefixes family prefix_count)
    unit_limit (current_falls family prefix_count (omega arith)) (all_in_family family prefix_count (omega arith))
    (in_falling family prefix_count unit member.kind member.prefix.some member.prefix.known)
computed_shape kind size unit (inr own) =
    let family = own_family kind in
    first_is_own family (size * bits_in kind) (own_unit kind) own.0 (units_of_prefixes family prefix_count)
    (all_in_family family prefix_count (omega arith))
    ∙ sym own.1

-- the appropriate unit of a size is the one that is computed
computed_unit : (kind : Kind) (size : ℕ) (unit : UnitName) → IsAppropriate kind Both size unit
    → unit_of_shape (largest_unit_of kind size) ≡ unit
computed_unit kind size unit is =
    ap unit_of_shape (computed_shape kind size (shape_of unit) is) ∙ unit_of_its_shape unit

-- a parser that returns the size of the function and the appropriate unit of this size returns what the function gives
adjusted_by_size : (kind : Kind) (bytes : List ℕ) (r : Result AdjustedSize ParseError)
    → result_map_both (λ n. n) size_fault (size_answer r) ≡ parsed_size kind false bytes
    → IfOk r (λ adjusted. IsAppropriate kind Both adjusted.size adjusted.unit)
    → result_map_both (λ adjusted. adjusted) size_fault r ≡ parsed_adjusted kind bytes
unfolding parsed_adjusted
adjusted_by_size kind bytes (Ok adjusted) size unit =
    ap (λ name. Ok (record { size = adjusted.size; unit = name })) (sym (computed_unit kind adjusted.size adjusted.unit unit))
    ∙ ap (result_map_both (in_largest_unit_of kind) (λ fault. fault)) size
adjusted_by_size kind bytes (Err error) size unit = ap (result_map_both (in_largest_unit_of kind) (λ fault. fault)) size

-- what the parser of an adjusted size returns is what the function gives
pub adjusted_computed : (kind : Kind) (bytes : List ℕ) (r : Result AdjustedSize ParseError) → IsAdjustedReading kind bytes r
    → result_map_both (λ adjusted. adjusted) size_fault r ≡ parsed_adjusted kind bytes
adjusted_computed kind bytes r reading = adjusted_by_size kind bytes r reading.size.computed reading.unit
