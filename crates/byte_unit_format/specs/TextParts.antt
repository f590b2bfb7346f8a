-- Private: the parts of a text in their order, which are passed to the writing code.
use Rattle.std.specs.Prelude.{ℕ, ◌^◌, ◌<◌, ◌≤◌, List, ◌++◌, IsAscii}
use Rattle.std.specs.Fmt.{decimal}
use Rattle.byte_unit_math.specs.Bounds.{places_of_number}
use Rattle.byte_unit_math.specs.Digits.{last_digits}
use Rattle.byte_unit_math.specs.Numeral.{fraction_text}
use Rattle.byte_unit_math.specs.Padded.{pad_of}
use Rattle.byte_unit_format.specs.Plain.{spaces}
use Rattle.byte_unit_format.specs.declared.parts.Fraction.{Fraction}
use Rattle.byte_unit_format.specs.declared.parts.Fraction.TheVariants.{Last, First}
use Rattle.byte_unit_format.specs.declared.parts.TextParts.{TextParts}

-- The text of the point and the digits after it: the last digits of a number, or the first digits of a decimal.
abbrev pub fraction_of : Fraction → List ℕ
fraction_of (Last digits places) = fraction_text (last_digits places digits)
fraction_of (First e places) = fraction_text (pad_of places e.now).digits

-- The number of digits after the point.
abbrev pub places_in : Fraction → ℕ
places_in (Last digits places) = places
places_in (First e places) = places

-- Digits that are held as one number are at most 38, and the number has no more digits than that. There is no condition
-- on those of a decimal.
abbrev pub FitsPlaces : Fraction → Type 0
FitsPlaces (Last digits places) = (places ≤ places_of_number) × (digits < 10 ^ places)
FitsPlaces (First e places) = Unit {0}

-- The text of the number: sign, whole part and digits after the point.
abbrev pub number_text : TextParts → List ℕ
number_text row = row.sign.now ++ decimal row.whole ++ fraction_of row.fraction

-- The text of all parts: spaces, the number, spaces, and the unit's name.
abbrev pub parts_text : TextParts → List ℕ
parts_text row = spaces row.before ++ number_text row ++ spaces row.after ++ row.name.now

-- The parts can be written: the fraction is within its bounds, and sign and name are ASCII.
abbrev pub IsReady : TextParts → Type 0
IsReady row = FitsPlaces row.fraction × IsAscii row.sign.now × IsAscii row.name.now
