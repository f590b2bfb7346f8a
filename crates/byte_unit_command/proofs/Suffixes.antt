-- Lemmas: texts with a suffix.
use Rattle.std.proofs.Common.{◌≡◌, ◌∙◌, ℕ, ◌-◌, true, List, [], ◌∷◌, ◌++◌, length, take, drop, sym, ap, arith}
use Rattle.std.proofs.Common.{append-nil, length-append}
use Rattle.std.proofs.Math.Seq.{take-append_seam, drop-append_seam}
use Rattle.std.proofs.lemmas.Slice.Eq.{bytes_eq-Decides}
use Rattle.byte_unit_command.specs.Field.{has_suffix, without_suffix}

-- a text with a suffix after it is longer by the suffix
front_len : (text suffix : List ℕ) → length (text ++ suffix) - length suffix ≡ length text
front_len text suffix = omega (arith, length-append {A = ℕ} text suffix)

-- a text with a suffix after it passes the test for that suffix
has_it : (text suffix : List ℕ) → has_suffix suffix (text ++ suffix) ≡ true
has_it text suffix =
    let all = text ++ suffix in
    let rest : drop (length all - length suffix) all ≡ suffix =
    ap (λ count. drop count all) (front_len text suffix) ∙ drop-append_seam text suffix in
    (bytes_eq-Decides suffix (drop (length all - length suffix) all)).1 (sym rest)

-- a text with a suffix after it is the text again without the suffix
pub without_it : (text suffix : List ℕ) → without_suffix suffix (text ++ suffix) ≡ text
without_it text [] = append-nil text
without_it text (c ∷ cs) =
    let all = text ++ c ∷ cs in
    rw (has_it text (c ∷ cs))
    (ap (λ count. take count all) (front_len text (c ∷ cs)) ∙ take-append_seam text (c ∷ cs))
