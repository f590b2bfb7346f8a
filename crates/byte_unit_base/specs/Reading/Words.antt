-- Sizes in words, as `5 bytes`, `10 MegaBytes` and `3 kibibits`. The letters at the end of a text may be a word for a
-- unit: a prefix, by its name or its letters, or none, and what is counted, in the singular or the plural, in either
-- case. Then the text before the word is read as it is by itself, and the unit of the word is that of the size. A text
-- is the list of its characters.
use Rattle.std.specs.Prelude.{ℕ, ◌-◌, Bool, true, false, ◌||◌, nat_eq, List, [], ◌∷◌, length, take, drop, get_or, Option}
use Rattle.std.specs.Prelude.{Some, None, option_and_then, Result, Ok, Err, codes, if◌then◌else◌}
use Rattle.std.specs.Option.{option_map}
use Rattle.std.specs.List.{find, list_all, suffix_len}
use Rattle.std.specs.Char.{is_ascii, is_ascii_alphabetic}
use Rattle.std.specs.Str.{str_eq_ignore_ascii_case}
use Rattle.byte_unit_base.specs.Grammar.Shape.{Shape}
use Rattle.byte_unit_base.specs.Grammar.Spelling.{Flags}
use Rattle.byte_unit_base.specs.Errors.Fault.{Fault}
use Rattle.byte_unit_base.specs.Sizes.Kinds.{flags_for}
use Rattle.byte_unit_base.specs.Reading.Machines.{read, size_scan, Beginning, letter_power, multiple_of, multiple_shape}
use Rattle.byte_unit_base.specs.Reading.ParseSpec.{ParseSpec}

-- the decimal (SI) and the binary (IEC) name of each prefix
abbrev pub prefix_names : List (List ℕ × List ℕ)
prefix_names =
    (codes "kilo", codes "kibi") ∷ (codes "mega", codes "mebi") ∷ (codes "giga", codes "gibi")
    ∷ (codes "tera", codes "tebi") ∷ (codes "peta", codes "pebi") ∷ (codes "exa", codes "exbi")
    ∷ (codes "zetta", codes "zebi") ∷ (codes "yotta", codes "yobi") ∷ (codes "ronna", codes "robi") ∷ []

-- the names of the prefix of a position, from 1
abbrev pub names_at : ℕ → List ℕ × List ℕ
names_at power = get_or prefix_names (power - 1) ([], [])

-- what a word counts: bytes, or bits (`true`)
abbrev pub counted_words : List (List ℕ × Bool)
counted_words = (codes "byte", false) ∷ (codes "octet", false) ∷ (codes "bit", true) ∷ []

-- the position of a prefix, and whether it is binary: by its letter, or its letter and `i`, or its name; no prefix is
-- that of position 0
abbrev pub prefix_of_word : List ℕ → Option (ℕ × Bool)
prefix_of_word [] = Some (0, false)
prefix_of_word (c ∷ cs) =
    let power = letter_power c in
    let is = str_eq_ignore_ascii_case in
    if nat_eq power 0 then None
    else (if is cs [] || is (c ∷ cs) (names_at power).0 then Some (power, false)
    else (if is cs (codes "i") || is (c ∷ cs) (names_at power).1 then Some (power, true) else None))

-- whether the word ends in these letters
abbrev pub ends_in : List ℕ → List ℕ → Bool
ends_in word letters = str_eq_ignore_ascii_case (drop (length word - length letters) word) letters

-- how many letters at the end of the word say what is counted, and whether that is bits
abbrev pub counted_by_word : List ℕ → Option (ℕ × Bool)
counted_by_word word = option_map (λ row. (length row.0, row.1)) (find (λ row. ends_in word row.0) counted_words)

-- the word without the `s` of its plural
abbrev pub singular : List ℕ → List ℕ
singular word = if ends_in word (codes "s") then take (length word - 1) word else word

-- the unit that the word means
abbrev pub unit_of_word : List ℕ → Option Shape
unit_of_word word =
    let one = singular word in
    option_and_then
    (λ counted. option_map (λ prefix. multiple_shape (multiple_of prefix.0 prefix.1) counted.1)
    (prefix_of_word (take (length one - counted.0) one)))
    (counted_by_word one)

-- where the letters at the end of the text start
abbrev pub word_start : List ℕ → ℕ
word_start text = length text - suffix_len is_ascii_alphabetic text

-- a number that is read, with this unit in place of its own
abbrev pub of_unit : Shape → Result (ℕ × Shape) Fault → Option (ℕ × Shape)
of_unit unit (Ok found) = Some (found.0, unit)
of_unit unit (Err fault) = None

-- the number (scaled by 10^28) that is read before the word, and the unit of the word
abbrev pub measure_of : Flags → List ℕ → List ℕ → Option (ℕ × Shape)
measure_of flags before word =
    option_and_then (λ unit. of_unit unit (read (size_scan flags) Beginning before)) (unit_of_word word)

-- the number and the unit of a text of ASCII that ends in a word
abbrev pub measure_of_text : Flags → List ℕ → Option (ℕ × Shape)
measure_of_text flags text = measure_of flags (take (word_start text) text) (drop (word_start text) text)

-- the number and the unit of a text in words; one that is not ASCII has none
abbrev pub words_measure : Flags → List ℕ → Option (ℕ × Shape)
words_measure flags text = if list_all is_ascii text then measure_of_text flags text else None

-- the number and the unit of a text in words, if words are read
abbrev pub in_words : ParseSpec → List ℕ → Option (ℕ × Shape)
in_words spec text = if spec.words then words_measure (flags_for spec.kind spec.ignore_case) text else None

-- a text that the grammar rejects is read in words, or else keeps its error
abbrev pub or_in_words : Option (ℕ × Shape) → Result (ℕ × Shape) Fault → Result (ℕ × Shape) Fault
or_in_words words (Ok found) = Ok found
or_in_words (Some found) (Err fault) = Ok found
or_in_words None (Err fault) = Err fault
