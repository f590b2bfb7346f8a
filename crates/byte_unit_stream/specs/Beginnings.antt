-- Beginnings of lists.
use Rattle.std.specs.Prelude.{◌≡◌, List, ◌++◌}

-- the second list begins with the first
abbrev pub IsBeginningOf : {X : Type 0} → List X → List X → Type 0
IsBeginningOf {X} front whole = (rest : List X) × (whole ≡ front ++ rest)
