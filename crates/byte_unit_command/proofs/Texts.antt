-- Lemmas: texts that are written to a buffer, and then appended.
use Rattle.std.proofs.Common.{◌≡◌, ◌+◌, ◌-◌, ◌≤◌, ℕ, replicate, Bool, true, false, List, ◌++◌, length, take, drop, ap}
use Rattle.std.proofs.Common.{◌∙◌, append-nil, arith, take-take, length-append, length-take-le}
use Rattle.std.proofs.Math.Seq.{take-append_seam, take-append-add}
use Rattle.byte_unit.specs.Written.{WritesForm}
use Rattle.byte_unit_command.specs.Formatted.{padded}

-- the bytes that were written are the text
pub written_bytes : {IsForm : List ℕ → Type 0} {old new : List ℕ} {needed : ℕ}
    (writes : WritesForm IsForm old new needed) → needed ≤ length old → take needed new ≡ writes.form
written_bytes {old = old} {new = new} writes room =
    let text = writes.form in
    let fits : length text ≤ length old = omega (arith, writes.needed_is, room) in
    ap (λ count. take count new) writes.needed_is ∙ ap (take (length text)) (writes.fits fits)
    ∙ take-append_seam text (drop (length text) old)

-- no spaces (32) are added to a text if there is no width
pub padded-none : (width : ℕ) (align_left : Bool) (text : List ℕ) → width ≡ 0 → padded width align_left text ≡ text
padded-none width true text none =
    let missing : width - length text ≡ 0 = omega (arith, none) in
    ap (λ count. text ++ replicate count 32) missing ∙ append-nil text
padded-none width false text none =
    let missing : width - length text ≡ 0 = omega (arith, none) in ap (λ count. replicate count 32 ++ text) missing

-- if 64 bytes are appended and all but the first `len` of them dropped, as `add_in_width` does, those `len` are left
pub first_bytes : (old bytes all : List ℕ) (len : ℕ) → all ≡ old ++ take 64 bytes → 64 ≤ length bytes → len ≤ 64
    → take (length all - (64 - len)) all ≡ old ++ take len bytes
first_bytes old bytes all len all_is long short =
    let whole : length all ≡ length old + 64 =
    ap length all_is ∙ length-append {A = ℕ} old (take 64 bytes)
    ∙ ap (λ more. length old + more) (length-take-le {A = ℕ} 64 bytes long) in
    let count_is : length all - (64 - len) ≡ length old + len = omega (arith, whole, short) in
    ap (λ count. take count all) count_is ∙ ap (take (length old + len)) all_is
    ∙ take-append-add old (take 64 bytes) len ∙ ap (λ more. old ++ more) (take-take len 64 bytes short)
