-- Hints: for a text of ASCII that is rejected, how the size that was meant is written. The rows are tried in their
-- order. A text is the list of its characters, without white space at its ends.
use Rattle.std.specs.Prelude.{ℕ, ◌+◌, ◌-◌, ◌==◌, ◌&&◌, ◌||◌, nat_eq, nat_le, nat_lt, Bool, not, List, ◌++◌, length, take, drop}
use Rattle.std.specs.Prelude.{true, false, slice_index, Option, Some, None, option_and_then, codes, if◌then◌else◌, is_some}
use Rattle.std.specs.Option.{option_map}
use Rattle.std.specs.Result.{is_ok}
use Rattle.std.specs.List.{list_all, prefix_len}
use Rattle.std.specs.Char.{is_ascii, is_ascii_digit}
use Rattle.std.specs.Str.{str_eq_ignore_ascii_case}
use Rattle.byte_unit_base.specs.Grammar.Shape.{Shape, shape}
use Rattle.byte_unit_base.specs.Grammar.Spelling.{Flags, flags_of}
use Rattle.byte_unit_base.specs.Grammar.Number.{point}
use Rattle.byte_unit_base.specs.Grammar.Units.{unit_of_shape}
use Rattle.byte_unit_base.specs.Grammar.Version.{unit_name}
use Rattle.byte_unit_base.specs.Reading.Machines.{letter_power, read, size_scan, Beginning}
use Rattle.byte_unit_base.specs.Reading.Words.{unit_of_word, singular, ends_in, names_at, word_start}
use Rattle.byte_unit_base.specs.Reading.Words.{measure_of_text}
use Rattle.byte_unit_base.specs.declared.hint.Hint.{Hint}
use Rattle.byte_unit_base.specs.declared.hint.Hint.TheVariants.{Word, Unit, Rate, Grouped, Negative, Number}

-- any flags: they do not change which texts are accepted
abbrev pub any_flags : Flags
any_flags = flags_of false true

-- whether the text is in the grammar
abbrev pub is_size : List ℕ → Bool
is_size text = is_ok (read (size_scan any_flags) Beginning text)

-- how many characters at the beginning of the text are digits or points
abbrev pub number_len : List ℕ → ℕ
number_len text = prefix_len (λ c. is_ascii_digit c || nat_eq c point) text

-- whether a number goes on so, with these two characters after its digits and points, that has another form: with an
-- exponent, as a power or a product, or in percent
abbrev pub has_other_form : ℕ → ℕ → Bool
has_other_form next after =
    ((nat_eq next 101 || nat_eq next 69) && (is_ascii_digit after || nat_eq after 43 || nat_eq after 45))
    || nat_eq next 94 || nat_eq next 42 || nat_eq next 37

-- whether the text begins with `0x`
abbrev pub is_hexadecimal : List ℕ → Bool
is_hexadecimal text =
    nat_eq (slice_index text 0) 48 && (nat_eq (slice_index text 1) 120 || nat_eq (slice_index text 1) 88)

-- whether the text does not begin with a number as the grammar has it
abbrev pub is_other_number : List ℕ → Bool
is_other_number text =
    let len = number_len text in
    not (is_ascii_digit (slice_index text 0)) || nat_eq (slice_index text (len - 1)) point
    || has_other_form (slice_index text len) (slice_index text (len + 1)) || is_hexadecimal text

-- whether a comma, a space, `_` or `'` is between the first digits and another one
abbrev pub is_grouped : List ℕ → Bool
is_grouped text =
    let len = number_len text in
    let next = slice_index text len in
    is_ascii_digit (slice_index text (len + 1))
    && (nat_eq next 44 || nat_eq next 32 || nat_eq next 95 || nat_eq next 39)

-- how long the text is before `ps` at its end, or before its first `/`
abbrev pub rated_len : List ℕ → ℕ
rated_len text =
    if ends_in text (codes "ps") then length text - 2 else prefix_len (λ c. not (nat_eq c 47)) text

-- whether the text is a size and what it is per second
abbrev pub is_rate : List ℕ → Bool
is_rate text =
    let size = take (rated_len text) text in
    nat_lt (length size) (length text) && (is_size size || is_some (measure_of_text any_flags size))

-- the unit of bytes with the prefix whose name begins with the word, of at least three letters
abbrev pub abbreviated_unit : List ℕ → Option Shape
abbreviated_unit word =
    let one = singular word in
    let power = letter_power (slice_index one 0) in
    let name = (names_at power).0 in
    if nat_eq power 0 then None
    else (if nat_le 3 (length one) && nat_le (length one) (length name)
    && str_eq_ignore_ascii_case one (take (length one) name)
    then Some (shape power false false) else None)

-- the text before the word at its end, and before a hyphen there, as in `32-byte`
abbrev pub before_word : List ℕ → List ℕ
before_word text =
    let front = take (word_start text) text in
    if ends_in front (codes "-") then take (length front - 1) front else front

-- the unit that the word at the end of the text means, if a size is before it
abbrev pub meant_unit : List ℕ → Option Shape
meant_unit text =
    let word = drop (word_start text) text in
    if is_size (before_word text)
    then elim (unit_of_word word) [ Some unit ↦ Some unit | None ↦ abbreviated_unit word ] else None

-- the hint for a text that ends in a word
abbrev pub word_hint : List ℕ → Option Hint
word_hint text = elim (measure_of_text any_flags text) [
  | Some found ↦ Some (Word (unit_of_shape found.1))
  | None ↦ option_map (λ unit. Unit (unit_of_shape unit)) (meant_unit text)
]

-- the hint for a text of ASCII; one that is in the grammar has none
abbrev pub hint_for : List ℕ → Option Hint
hint_for text =
    if is_size text then None
    else (if nat_eq (slice_index text 0) 45 then Some Negative
    else (if is_other_number text then Some Number
    else (if is_grouped text then Some Grouped
    else (if is_rate text then Some Rate else word_hint text))))

-- the hint for a text, if there is one
abbrev pub hint_of : List ℕ → Option Hint
hint_of text = if list_all is_ascii text then hint_for text else None

-- the words of a hint
abbrev pub hint_text : Hint → List ℕ
hint_text (Word unit) = codes "write '" ++ (unit_name unit ++ codes "', or read it with the option 'words'")
hint_text (Unit unit) = codes "write '" ++ (unit_name unit ++ codes "'")
hint_text Rate = codes "a size has no rate: leave out what it is per second"
hint_text Grouped = codes "digits are not grouped, and the point is '.'"
hint_text Negative = codes "a size is not negative"
hint_text Number = codes "a size begins with a number as in '12' or '1.5'"
