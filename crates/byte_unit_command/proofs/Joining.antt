-- Lemmas: the operands as an input.
use Rattle.std.proofs.Common.{◌≡◌, ◌≢◌, ℕ, List, [], ◌∷◌, ◌++◌, eqb, refl, sym, ap, subst, ◌∙◌, append_assoc, ne_eqb}
use Rattle.std.proofs.Common.{All}
use Rattle.std.proofs.lemmas.List.Elements.{All-head, All-tail}
use Rattle.std.proofs.lemmas.List.Splits.{slice_split_at}
use Rattle.byte_unit_command.specs.Operands.{HasOperands}
use Rattle.byte_unit_stream.specs.Records.{split_by, but_empty_last}
use Rattle.byte_unit_stream.proofs.ChunkRecords.{split_by_IsSplit, IsSplit}

-- the texts, each with a zero byte after it
abbrev pub joined : List (List ℕ) → List ℕ
joined [] = []
joined (text ∷ texts) = text ++ 0 ∷ joined texts

-- joining one more text appends it and a zero byte
pub joined-append : (texts : List (List ℕ)) (text : List ℕ) → joined (texts ++ text ∷ []) ≡ (joined texts ++ text)
    ++ 0 ∷ []
joined-append [] text = refl
joined-append (first ∷ texts) text =
    ap (λ rest. first ++ 0 ∷ rest) (joined-append texts text)
    ∙ sym (append_assoc first (0 ∷ (joined texts ++ text)) (0 ∷ []))
    ∙ ap (λ begun. begun ++ 0 ∷ []) (sym (append_assoc first (0 ∷ joined texts) text))

-- the first of the records is the first part, if another follows
first_record : (text : List ℕ) (split : List (List ℕ)) → IsSplit split → but_empty_last (text ∷ split)
    ≡ text ∷ but_empty_last split
first_record text split (own, others, split_is) =
    subst (λ split. but_empty_last (text ∷ split) ≡ text ∷ but_empty_last split) (sym split_is)
    refl

-- texts without zero bytes are the records of the input that they are joined to
pub joined-HasOperands : (texts : List (List ℕ)) → HasOperands texts (joined texts)
joined-HasOperands [] none = refl
joined-HasOperands (text ∷ texts) none =
    let own = All-head (All (λ byte. byte ≢ 0)) text texts none in
    let cut = slice_split_at (λ byte. eqb byte 0) text 0 (joined texts) (λ k d bound. ne_eqb _ _ (own k d bound)) refl
    in ap but_empty_last cut ∙ first_record text (split_by 0 (joined texts)) (split_by_IsSplit 0 (joined texts))
    ∙ ap (λ records. text ∷ records) (joined-HasOperands texts (All-tail (All (λ byte. byte ≢ 0)) text texts none))
