-- Lemmas: results of calls.
use Rattle.std.proofs.Common.{◌≡◌, Result, Ok, Err, MatchResult, sym, subst, IsErrAnd}

-- a fact of the error that `?` passes on
pub error-passed : {T E : Type 0} (Good : T → Type 0) (Bad : E → Type 0) (result : Result T E) (error : E)
    → IsErrAnd result (λ other. other ≡ error) → Bad error → MatchResult result Good Bad
error-passed Good Bad (Ok _) error passed holds = absurd passed
error-passed Good Bad (Err other) error passed holds = subst Bad (sym passed) holds
