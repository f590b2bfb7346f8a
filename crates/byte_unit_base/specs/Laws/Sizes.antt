-- The laws of sizes. An input is given by its UTF-8 bytes, and a number of a unit is scaled by 10^28.
use Rattle.std.specs.Prelude.{◌≡◌, ℕ, ◌≤◌, ◌⊎◌, Bool, List}
use Rattle.byte_unit_base.specs.Grammar.Shape.{Shape}
use Rattle.byte_unit_base.specs.Errors.Fault.{Fault}
use Rattle.byte_unit_base.specs.Sizes.Least.{IsLeastOf}
use Rattle.byte_unit_base.specs.Sizes.Accepted.{IsAccepted, Exceeds, HasFault, IsRejected}
use Rattle.byte_unit_base.specs.Laws.Readers.{IsOneAnswer}
use Rattle.byte_unit_base.specs.declared.kind.Kind.{Kind}

-- law: a greater number of the same unit never gives a smaller size when both are rounded up
abbrev pub GreaterNumbersGiveNoSmallerSizes : Type 0
GreaterNumbersGiveNoSmallerSizes =
    (kind : Kind) (unit : Shape) (few many small large : ℕ)
    → few ≤ many → IsLeastOf kind few unit small → IsLeastOf kind many unit large → small ≤ large

-- a number of a unit, rounded up to whole bytes or bits, is exactly one size
pub record HasOneLeastSize (kind : Kind) (number : ℕ) (unit : Shape) : Type 0 where
  pub size : ℕ
  pub is_least : IsLeastOf kind number unit size
  pub one : (other : ℕ) → IsLeastOf kind number unit other → other ≡ size

-- law: each number of each unit, rounded up to whole bytes or bits, is exactly one size
abbrev pub EachNumberHasOneLeastSize : Type 0
EachNumberHasOneLeastSize = (kind : Kind) (number : ℕ) (unit : Shape) → HasOneLeastSize kind number unit

-- an input is accepted as exactly one size, or its size is too large and it has exactly one number, or it has exactly
-- one error; no two of these hold
pub record IsOneOfThree (Accepts Overflows : ℕ → Type 0) (Fails : Fault → Type 0) : Type 0 where
  pub some : ((n : ℕ) × Accepts n) ⊎ (((number : ℕ) × Overflows number) ⊎ ((fault : Fault) × Fails fault))
  pub one_size : (n other : ℕ) → Accepts n → Accepts other → n ≡ other
  pub one_number : (number other : ℕ) → Overflows number → Overflows other → number ≡ other
  pub one_fault : (fault other : Fault) → Fails fault → Fails other → fault ≡ other
  pub no_excess : (n number : ℕ) → Accepts n → ¬ (Overflows number)
  pub no_fault : (n : ℕ) (fault : Fault) → Accepts n → ¬ (Fails fault)
  pub no_fault_of_excess : (number : ℕ) (fault : Fault) → Overflows number → ¬ (Fails fault)

-- law: each input is accepted as one size, or is in the grammar but its size is too large, or is not in the grammar and
-- has one error; no two of these hold
abbrev pub EachTextIsOneOfThree : Type 0
EachTextIsOneOfThree =
    (kind : Kind) (ignore_case : Bool) (text : List ℕ)
    → IsOneOfThree
    (IsAccepted kind ignore_case text)
    (Exceeds kind ignore_case text)
    (HasFault kind ignore_case text)

-- law: each input is accepted as exactly one size, or rejected with exactly one error, and not both. Here a size that
-- is too large is an error
abbrev pub TextsAreAcceptedOrRejected : Type 0
TextsAreAcceptedOrRejected =
    (kind : Kind) (ignore_case : Bool) (text : List ℕ)
    → IsOneAnswer ℕ (IsAccepted kind ignore_case text) (IsRejected kind ignore_case text)
