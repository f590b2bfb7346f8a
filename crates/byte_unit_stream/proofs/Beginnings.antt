-- Lemmas: lists that begin with another list.
use Rattle.std.proofs.Common.{◌≡◌, Bool, true, false, if◌then◌else◌, List, [], ◌++◌, length, take}
use Rattle.std.proofs.Common.{sym, ap, subst, ◌∙◌, append_assoc, append-nil}
use Rattle.std.proofs.Math.Seq.{take-append_seam}
use Rattle.byte_unit_stream.specs.Beginnings.{IsBeginningOf}

module _ {X : Type 0} where
  -- a beginning of a list is a beginning of any list that continues it
  pub IsBeginningOf-longer : (front whole more : List X) → IsBeginningOf front whole
      → IsBeginningOf front (whole ++ more)
  IsBeginningOf-longer front whole more (rest, is) =
      (rest ++ more, ap (λ xs. xs ++ more) is ∙ append_assoc front rest more)

  -- a beginning stays a beginning with the same list before both
  pub IsBeginningOf-after : (before front whole : List X) → IsBeginningOf front whole
      → IsBeginningOf (before ++ front) (before ++ whole)
  IsBeginningOf-after before front whole (rest, is) =
      (rest, ap (λ xs. before ++ xs) is ∙ sym (append_assoc before front rest))

  -- a list is a beginning of itself
  pub IsBeginningOf-self : (whole : List X) → IsBeginningOf whole whole
  IsBeginningOf-self whole = ([], sym (append-nil whole))

  -- if a list begins with `front`, its first elements, as many as `front` has, are `front`
  pub take-IsBeginningOf : (front whole : List X) → IsBeginningOf front whole → take (length front) whole ≡ front
  take-IsBeginningOf front whole (rest, is) = ap (take (length front)) is ∙ take-append_seam front rest

  -- a beginning of a list is a beginning of an equal list
  pub IsBeginningOf-same : (front : List X) {whole same : List X} → same ≡ whole → IsBeginningOf front whole
      → IsBeginningOf front same
  IsBeginningOf-same front is begins = subst (IsBeginningOf front) (sym is) begins

  -- if a call appends to a list or leaves it as it is, the list is a beginning of the result
  pub IsBeginningOf-if : (yes : Bool) (front more : List X) {whole : List X}
      → whole ≡ (if yes then front ++ more else front) → IsBeginningOf front whole
  IsBeginningOf-if true front more is = (more, is)
  IsBeginningOf-if false front more is = ([], is ∙ sym (append-nil front))

  -- a beginning of a beginning is a beginning
  pub IsBeginningOf-trans : (front between whole : List X) → IsBeginningOf front between
      → IsBeginningOf between whole → IsBeginningOf front whole
  IsBeginningOf-trans front between whole (rest, is) (more, whole_is) =
      (rest ++ more, whole_is ∙ ap (λ xs. xs ++ more) is ∙ append_assoc front rest more)
