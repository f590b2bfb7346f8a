-- A text as messages quote it.
use Rattle.std.specs.Prelude.{ℕ, ◌/◌, ◌%◌, Bool, false, ◌&&◌, ◌||◌, nat_lt, nat_le, if◌then◌else◌, List, [], ◌∷◌, ◌++◌}
use Rattle.std.specs.Prelude.{length, take, slice_index, codes}
use Rattle.std.specs.Char.{is_control, encode_utf8}
use Rattle.std.specs.Fmt.{digits}
use Rattle.std.specs.List.{flat_map, list_any}
use Rattle.std.specs.Str.{is_utf8, chars}
use Rattle.byte_unit_base.specs.Errors.Position.{begins_character}

-- the number of bytes of a text that a message quotes: all of at most 80 bytes; of more, the most of the first 80 that
-- end between two characters of a UTF-8 text, which has such a place in any four bytes; and 80 if there is none
abbrev pub quoted_len : List ℕ → ℕ
quoted_len text =
    if nat_le (length text) 80 then length text else (if begins_character (slice_index text 80) then 80
    else (if begins_character (slice_index text 79) then 79 else (if begins_character (slice_index text 78) then 78
    else (if begins_character (slice_index text 77) then 77 else 80))))

-- the first and the last of each run of format characters (category `Cf` of Unicode 16), and of separators (`Zs`, `Zl`
-- and `Zp`) other than the space: what shows nothing, or changes how the text beside it is shown
abbrev pub unseen_runs : List (ℕ × ℕ)
unseen_runs =
    (0xa0, 0xa0) ∷ (0xad, 0xad) ∷ (0x600, 0x605) ∷ (0x61c, 0x61c) ∷ (0x6dd, 0x6dd) ∷ (0x70f, 0x70f)
    ∷ (0x890, 0x891) ∷ (0x8e2, 0x8e2) ∷ (0x1680, 0x1680) ∷ (0x180e, 0x180e) ∷ (0x2000, 0x200f) ∷ (0x2028, 0x202f)
    ∷ (0x205f, 0x2064) ∷ (0x2066, 0x206f) ∷ (0x3000, 0x3000) ∷ (0xfeff, 0xfeff) ∷ (0xfff9, 0xfffb)
    ∷ (0x110bd, 0x110bd) ∷ (0x110cd, 0x110cd) ∷ (0x13430, 0x1343f) ∷ (0x1bca0, 0x1bca3) ∷ (0x1d173, 0x1d17a)
    ∷ (0xe0001, 0xe0001) ∷ (0xe0020, 0xe007f) ∷ []

-- whether a character is one of these
unfoldable pub is_unseen : ℕ → Bool
is_unseen c = list_any (λ run. nat_le run.0 c && nat_le c run.1) unseen_runs

-- a character in a message: a control character, a format character or a separator other than the space as `\u{` with
-- its code in hexadecimal and `}`, any other as it is
abbrev pub escape_char : ℕ → List ℕ
escape_char c = if is_control c || is_unseen c then codes "\\u{" ++ digits 16 false c ++ codes "}" else encode_utf8 c

-- a byte of a text that is not UTF-8, in a message: a printable ASCII character, from the space (32) to `~` (126), as
-- it is, and else as `\x` with its two hexadecimal digits
abbrev pub escape_byte : ℕ → List ℕ
escape_byte byte =
    if nat_le 32 byte && nat_lt byte 127 then byte ∷ []
    else codes "\\x" ++ digits 16 false (byte / 16) ++ digits 16 false (byte % 16)

-- bytes in a message: a UTF-8 text by its characters, others byte by byte
abbrev pub escape : List ℕ → List ℕ
escape bytes = if is_utf8 bytes then flat_map escape_char (chars bytes) else flat_map escape_byte bytes

-- a text in a message, with two dots after it if it is cut
abbrev pub quote : List ℕ → List ℕ
quote text =
    let len = quoted_len text in
    escape (take len text) ++ (if nat_lt len (length text) then codes ".." else [])
