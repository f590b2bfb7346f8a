-- Which of its two forms an option has, and what it was before a function was applied to its value, if the result is
-- known.
use Rattle.std.proofs.Common.{◌≡◌, Option, Some, None, option_and_then, refl, ◌⊎◌, inl, inr, option_map}

-- an option is `None`, or `Some` of a value
pub none_or_some : {A : Type 0} (o : Option A) → (o ≡ None) ⊎ ((a : A) × (o ≡ Some a))
none_or_some None = inl refl
none_or_some (Some a) = inr (a, refl)

-- if an option that is mapped is `Some(b)`, then it was a value that the function takes to `b`
pub some_mapped : {A B : Type 0} (f : A → B) (b : B) (o : Option A) → option_map f o ≡ Some b
    → (a : A) × (o ≡ Some a) × (f a ≡ b)
some_mapped f b None e = absurd (let k : ⊥ = cc in k)
some_mapped f b (Some a) e = (a, refl, cc)

-- if an option that is passed to a partial function gives `Some(b)`, then it was a value that the function takes to `b`
pub some_passed : {A B : Type 0} (f : A → Option B) (b : B) (o : Option A) → option_and_then f o ≡ Some b
    → (a : A) × (o ≡ Some a) × (f a ≡ Some b)
some_passed f b None e = absurd (let k : ⊥ = cc in k)
some_passed f b (Some a) e = (a, refl, e)
