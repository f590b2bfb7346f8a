-- Two lists that a loop writes.
use Rattle.std.proofs.Common.{◌≡◌, ◌≢◌, ℕ, ◌+◌, ◌<◌, ℤ, List, length, get_or, set, sym, subst, arith, below_more}
use Rattle.std.proofs.lemmas.List.{get_or-set_same, get_or-set_other}
use Rattle.byte_unit_base.specs.declared.spec.ParseSpec.{ParseSpec}
use Rattle.byte_unit_c.specs.declared.values.Number.{Number}
use Rattle.byte_unit_c.specs.Many.{text_at, IsParsed, AreParsed, zero_number}

-- an element below i stays as it is
kept : {X Y : Type 0} (P : X → Y → Type 0) (xs : List X) (ys : List Y) (i k : ℕ) (x d : X) (y e : Y) → k < i
    → P (get_or xs k d) (get_or ys k e) → P (get_or (set xs i x) k d) (get_or (set ys i y) k e)
kept {X} {Y} P xs ys i k x d y e less here =
    let apart : k ≢ i = λ (same : k ≡ i). omega arith in
    let L : X → Type 0 = λ v. P v (get_or ys k e) in
    let R : Y → Type 0 = λ w. P (get_or (set xs i x) k d) w in
    subst R (sym (get_or-set_other ys i k y e apart)) (subst L (sym (get_or-set_other xs i k x d apart)) here)

-- what holds of the first i elements holds of one element more, after that is written
pub one_more : {X Y : Type 0} (P : ℕ → X → Y → Type 0) (xs : List X) (ys : List Y) (i : ℕ) (x d : X) (y e : Y)
    → i < length xs → i < length ys → P i x y → ((k : ℕ) → k < i → P k (get_or xs k d) (get_or ys k e))
    → (k : ℕ) → k < i + 1 → P k (get_or (set xs i x) k d) (get_or (set ys i y) k e)
one_more {X} {Y} P xs ys i x d y e in_xs in_ys here below =
    let Q : ℕ → Type 0 = λ k. P k (get_or (set xs i x) k d) (get_or (set ys i y) k e) in
    let L : X → Type 0 = λ v. P i v y in
    let R : Y → Type 0 = λ w. P i (get_or (set xs i x) i d) w in
    below_more Q i (λ k less. kept (P k) xs ys i k x d y e less (below k less))
    (subst R (sym (get_or-set_same ys i y e in_ys)) (subst L (sym (get_or-set_same xs i x d in_xs)) here))

-- one text more has its code and its size, after these are written
pub one_more_text : (spec : ParseSpec) (bytes : List ℕ) (offsets : List ℤ) (i : ℕ)
    (codes : List ℕ) (sizes : List Number) (text : List ℕ) (code : ℕ) (size : Number)
    → i < length codes → i < length sizes → text ≡ text_at bytes offsets i
    → IsParsed spec text code size
    → AreParsed spec bytes offsets i codes sizes
    → AreParsed spec bytes offsets (i + 1) (set codes i code) (set sizes i size)
one_more_text spec bytes offsets i codes sizes text code size in_codes in_sizes is parsed below =
    let P : ℕ → ℕ → Number → Type 0 = λ k. IsParsed spec (text_at bytes offsets k) in
    let F : List ℕ → Type 0 = λ text. IsParsed spec text code size in
    one_more P codes sizes i code 0 size zero_number in_codes in_sizes (subst F is parsed) below
