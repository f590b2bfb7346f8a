-- A text is escaped by its characters, and other bytes one by one.
use Rattle.std.proofs.Common.{◌≡◌, ℕ, Bool, List, if◌then◌else◌, length, arith, sym, ap, subst, ◌∙◌, flat_map, chars, IsUtf8}
use Rattle.std.specs.Str.{is_utf8}
use Rattle.std.proofs.lemmas.Bool.{false_from_ne_true}
use Rattle.std.proofs.lemmas.Str.{is_utf8-from_IsUtf8, IsUtf8-from_is_utf8}
use Rattle.byte_unit_base.specs.Errors.PutAfter.{IsPutAfter}
use Rattle.byte_unit_base.specs.Errors.Quoted.{escape, escape_byte, escape_char}
use Rattle.byte_unit_base.proofs.quoted.put_escaped.Goals as goal

-- bytes escaped by their characters, or one by one
abbrev escaped : List ℕ → Bool → List ℕ
escaped bytes is_text = if is_text then flat_map escape_char (chars bytes) else flat_map escape_byte bytes

-- UTF-8 is escaped by its characters
of_text : (bytes text : List ℕ) → text ≡ bytes → IsUtf8 bytes → flat_map escape_char (chars text) ≡ escape bytes
of_text bytes text same utf8 = ap (λ text. flat_map escape_char (chars text)) same
    ∙ ap (escaped bytes) (sym (is_utf8-from_IsUtf8 bytes utf8))

-- other bytes are escaped one by one
of_bytes : (bytes : List ℕ) → (IsUtf8 bytes → ⊥) → flat_map escape_byte bytes ≡ escape bytes
of_bytes bytes other = ap (escaped bytes) (sym (false_from_ne_true (is_utf8 bytes)
    (λ yes. other (IsUtf8-from_is_utf8 bytes yes))))

pub put_chars-requires : goal.put_chars-requires
put_chars-requires c =
    let cases = c.in-Ok.ensures.cases in
    let same = of_text c.args.bytes.now c.in-Ok.text.now cases.0 cases.1 in
    omega (arith, ap length same)

pub put_bytes-requires : goal.put_bytes-requires
put_bytes-requires c =
    let same = of_bytes c.args.bytes.now c.in-Err.ensures.cases.0 in
    omega (arith, ap length same)

pub returns-in-Ok : goal.returns-in-Ok
returns-in-Ok c =
    let cases = c.in-Ok.ensures.cases in
    subst (λ text. IsPutAfter text c.args.begin c.args.buffer.now c.put_chars.new.buffer c.put_chars.result)
    (of_text c.args.bytes.now c.in-Ok.text.now cases.0 cases.1) c.put_chars.ensures

pub returns-in-Err : goal.returns-in-Err
returns-in-Err c =
    subst (λ text. IsPutAfter text c.args.begin c.args.buffer.now c.put_bytes.new.buffer c.put_bytes.result)
    (of_bytes c.args.bytes.now c.in-Err.ensures.cases.0) c.put_bytes.ensures
