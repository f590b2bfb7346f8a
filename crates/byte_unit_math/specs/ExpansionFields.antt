-- Private: the meaning of the fields of an `Expansion`. Contracts see only its whole part and its first digits.
use Rattle.std.specs.Prelude.{◌≡◌, ◌-◌, ◌<◌, ◌≤◌, ◌++◌, length, take, drop, replicate, slice_index}
use Rattle.std.specs.List.{All}
use Rattle.byte_unit_math.specs.Bounds.{expansion_places, whole_limit}
use Rattle.byte_unit_math.specs.Finite.{Finite}
use Rattle.byte_unit_math.specs.declared.expansion.Expansion.TheInside.{Inside}

-- The decimal of the fields: the whole part, and the first `places` digits of the array.
abbrev pub expansion_view : Inside → Finite
expansion_view e = record { whole = e.whole; digits = take e.places e.digits }

-- The array holds the digits after the point, the last of them not zero, and then zeros. The whole part is at most
-- 2^112, and below it if there are such digits: rounding up can add one to it, and then leaves no digits.
pub record IsNormalizedExpansion (e : Inside) : Type 0 where
  pub size : length e.digits ≡ expansion_places
  pub few : e.places ≤ expansion_places
  pub small : All (λ d. d < 10) e.digits
  pub rest : drop e.places e.digits ≡ replicate (expansion_places - e.places) 0
  pub last : 0 < e.places → 0 < slice_index e.digits (e.places - 1)
  pub bound : e.whole ≤ whole_limit
  pub room : 0 < e.places → e.whole < whole_limit

-- The fields of a decimal: its digits after the point, and zeros up to the length of the array, 93.
abbrev pub expansion_fields : Finite → Inside
expansion_fields v =
    let zeros = replicate (expansion_places - length v.digits) 0 in
    record { whole = v.whole; digits = v.digits ++ zeros; places = length v.digits }
