-- Which of two neighboring multiples of a number is nearest to another number.
use Rattle.std.proofs.Common.{◌≡◌, ◌+◌, ◌*◌, ◌^◌, ◌<◌, ◌≤◌, ◌/◌, ◌%◌, ℕ, refl, arith}
use Rattle.std.proofs.lemmas.Nat.{div-add-mod', mod_below}
use Rattle.std.proofs.Math.Nat.{mul-le-mul_right, mul-lt-mul_of_pos_right}
use Rattle.byte_unit_math.specs.Nearest.{IsNearest}
use Rattle.byte_unit_math.specs.declared.expansion.Ties.{Ties}
use Rattle.byte_unit_math.specs.declared.expansion.Ties.TheVariants.{Even, Up}

-- num * 10^p is `low` more than `count` multiples of den, and less than one multiple more.
pub record LiesAbove (num den p count low : ℕ) : Type 0 where
  pub split : num * 10 ^ p ≡ count * den + low
  pub below : low < den

-- num * 10^p is the rest of its division by den more than its quotient times den.
pub lies_above_quotient :
    (num den p whole quotient rest : ℕ) → whole ≡ num * 10 ^ p → 0 < den → quotient ≡ whole / den → rest ≡ whole % den
    → LiesAbove num den p quotient rest
lies_above_quotient num den p whole quotient rest same some quotient_is rest_is = grind (arith, div-add-mod', mod_below)

-- The number num * 10^p is `count` multiples of den, and the rest, `low`.
module _ (num den p count low : ℕ) (lies : LiesAbove num den p count low) where
  -- A multiple before `count` is at least one `den`, and the rest, below the number.
  lower_multiple : (other : ℕ) → other < count → other * den + den + low ≤ num * 10 ^ p
  lower_multiple other l = grind (arith, mul-le-mul_right)

  -- A multiple after `count` is at least one `den`, less the rest, above the number.
  next_multiple : (other : ℕ) → count < other → num * 10 ^ p + den ≤ other * den + low
  next_multiple other l = grind (arith, mul-le-mul_right)

  -- A multiple after the next one is at least two `den`, less the rest, above the number.
  upper_multiple : (other : ℕ) → count + 1 < other → num * 10 ^ p + den + den ≤ other * den + low
  upper_multiple other l = grind (arith, mul-le-mul_right, mul-lt-mul_of_pos_right)

  -- If the rest is less than half of den, the multiple below is nearest, however ties are broken.
  pub nearest_down : (ties : Ties) → 2 * low < den → IsNearest num den p ties count
  nearest_down ties h = grind (arith, lower_multiple, next_multiple)

  -- If the rest is more than half of den, the multiple above is nearest, however ties are broken.
  pub nearest_up : (ties : Ties) → den < 2 * low → IsNearest num den p ties (count + 1)
  nearest_up ties h = grind (arith, lower_multiple, upper_multiple)

  -- If the rest is half of den and ties go up, the multiple above is nearest.
  pub tie_up_next : 2 * low ≡ den → IsNearest num den p Up (count + 1)
  tie_up_next h = grind (arith, lower_multiple, upper_multiple)

  -- If the rest is half of den, ties go to even and the multiple below is odd, the one above is nearest.
  pub tie_even_next : 2 * low ≡ den → count % 2 ≡ 1 → IsNearest num den p Even (count + 1)
  tie_even_next h odd = grind (arith, lower_multiple, upper_multiple)

  -- If the rest is half of den, ties go to even and the multiple below is even, it is nearest.
  pub tie_even_this : 2 * low ≡ den → count % 2 ≡ 0 → IsNearest num den p Even count
  tie_even_this h even = grind (arith, lower_multiple, next_multiple)

  -- If ties go to even, twice the rest is compared with den, and counts as more if the multiple below is odd.
  pub nearest_even_next : den < 2 * low + count % 2 → IsNearest num den p Even (count + 1)
  nearest_even_next h = grind (arith, lower_multiple, mul-le-mul_right, nearest_up, tie_even_next, upper_multiple)

  -- If ties go to even and twice the rest (plus 1 if `count` is odd) is at most den, the multiple below is nearest.
  pub nearest_even_this : 2 * low + count % 2 ≤ den → IsNearest num den p Even count
  nearest_even_this h = grind (arith, nearest_down, tie_even_this)

-- A quotient is rounded by twice its rest, which counts as more if the quotient is odd.
pub rounds_up_even : (num den p : ℕ) → 0 < den → den < 2 * (num * 10 ^ p % den) + num * 10 ^ p / den % 2
    → IsNearest num den p Even (num * 10 ^ p / den + 1)
rounds_up_even num den p some h =
    nearest_even_next num den p _ _ (lies_above_quotient num den p _ _ _ refl some refl refl) h

-- A quotient is rounded down if twice its rest, plus one if the quotient is odd, is at most the divisor.
pub rounds_down_even : (num den p : ℕ) → 0 < den → 2 * (num * 10 ^ p % den) + num * 10 ^ p / den % 2 ≤ den
    → IsNearest num den p Even (num * 10 ^ p / den)
rounds_down_even num den p some h = grind (arith, lies_above_quotient, nearest_even_this)

-- If ties go up, a quotient is rounded up if at least half of the divisor is left.
pub rounds_up_half : (num den p : ℕ) → 0 < den → den ≤ 2 * (num * 10 ^ p % den)
    → IsNearest num den p Up (num * 10 ^ p / den + 1)
rounds_up_half num den p some h = grind (arith, lies_above_quotient, nearest_up, tie_up_next)

-- If ties go up, a quotient is rounded down if less than half of the divisor is left.
pub rounds_down_half : (num den p : ℕ) → 0 < den → 2 * (num * 10 ^ p % den) < den
    → IsNearest num den p Up (num * 10 ^ p / den)
rounds_down_half num den p some h = grind (arith, lies_above_quotient, nearest_down)

-- The quotient that is nearest, by what is left.
pub ruleset rounded = (rounds_up_even, rounds_down_even, rounds_up_half, rounds_down_half)
