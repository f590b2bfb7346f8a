-- Lemmas on sequences that are read.
use Rattle.std.proofs.Common.{ℕ, List, [], ◌∷◌, ◌++◌, refl, subst, Result, Err, IfErr, ◌≡◌, sym}
use Rattle.serde.specs.Event.{Event}
use Rattle.serde.specs.Steps.{Stays}
use Rattle.serde.specs.declared.deserializer.Deserializer.{Deserializer}
use Rattle.byte_unit_serde.specs.Serialized.{ReadsEach, ReadsValue}

-- If one more string is read after the others, the strings with it are read.
pub reads_each_snoc : {A F E M : Type 0} (Means : List ℕ → A → Type 0) (gives : F → List ℕ → Event → F → Type 0)
    (stays : F → F → Type 0) (values : List A) (value : A) (old mid looked new : Deserializer F E M)
    → ReadsEach Means gives stays old mid values → Stays stays mid looked → ReadsValue Means gives looked new value
    → ReadsEach Means gives stays old new (values ++ value ∷ [])
reads_each_snoc {A} {F} {E} {M} Means gives stays [] value old mid looked new same looks reads =
    (looked, new, subst (λ (d : Deserializer F E M). Stays stays d looked) same looks, reads, refl)
reads_each_snoc Means gives stays (x ∷ xs) value old mid looked new before looks reads = (
  before.0,
  before.1,
  before.2,
  before.3,
  reads_each_snoc Means gives stays xs value before.1 mid looked new before.4 looks reads,
)

-- What holds of an error holds of the error of a result that is this error.
pub holds_of_error : {A E : Type 0} (Holds : E → Type 0) (result : Result A E) (error : E) → result ≡ Err error
    → Holds error → IfErr result Holds
holds_of_error Holds result error is holds = subst (λ result. IfErr result Holds) (sym is) holds
