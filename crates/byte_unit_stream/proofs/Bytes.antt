-- Lemmas: bytes that are read and written in several calls.
use Rattle.std.proofs.Common.{Option, ◌≡◌, ℕ, ◌-◌, List, [], ◌++◌, length, take, drop}
use Rattle.std.proofs.Common.{sym, ap, subst, ◌∙◌, append_assoc, append-nil, take-append-drop}
use Rattle.std.proofs.lemmas.List.{take_rest}
use Rattle.std.specs.Io.KnownBytes.{Appends, Consumes}
use Rattle.std.proofs.KnownBytes.{Appends-trans, Consumes-trans}

-- a part of the bytes was written, and `rest` is what follows it
abbrev pub IsWrittenTo : Option (List ℕ) → Option (List ℕ) → List ℕ → List ℕ → Type 0
IsWrittenTo held holds bytes rest = (written : List ℕ) × Appends held holds written × (bytes ≡ written ++ rest)

-- a write of the first `count` bytes of the rest shortens the rest by them
pub IsWrittenTo-step : (held holds now_holds : Option (List ℕ)) (bytes rest : List ℕ) (count : ℕ) → IsWrittenTo held holds bytes rest
    → Appends holds now_holds (take count rest) → IsWrittenTo held now_holds bytes (take (length rest - count) (drop count rest))
IsWrittenTo-step held holds now_holds bytes rest count (written, took, all) takes = (
  written ++ take count rest,
  Appends-trans held holds now_holds written (take count rest) took takes,
  all
      ∙ ap (λ left. written ++ left) (sym (take-append-drop count rest))
      ∙ sym (append_assoc written (take count rest) (drop count rest))
      ∙ ap (λ left. written ++ take count rest ++ left) (sym (take_rest rest count)),
)

-- reading nothing leaves what was consumed
pub Consumes-at_end : (left between rest : Option (List ℕ)) (read piece : List ℕ) → Consumes left between read
    → Consumes between rest piece → piece ≡ [] → Consumes left rest read
Consumes-at_end left between rest read piece gave came none =
    let same = ap (λ bytes. read ++ bytes) none ∙ append-nil read in
    subst (Consumes left rest) same (Consumes-trans left between rest read piece gave came)
