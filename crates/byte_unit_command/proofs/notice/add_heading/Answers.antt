-- The number of the field follows that of the record, if fields are separated.
use Rattle.std.proofs.Common.{◌++◌, codes, sym, ap, ◌∙◌, append_assoc, append-nil, decimal, string_bytes}
use Rattle.byte_unit_command.specs.CallEnds.{context_of}
use Rattle.byte_unit_command.specs.Messages.{record_text, field_text}
use Rattle.std.proofs.lemmas.Result.{on_ok_weaker}
use Rattle.byte_unit_command.proofs.notice.add_heading.Goals as goal

-- if a record is one field, only the number of the record is appended
pub returns-in-None : goal.returns-in-None
returns-in-None g c =
    let before = string_bytes c.args.line.now in
    let record_part = record_text (context_of c.args.context.now) in
    c.in_ok-write.ensures.bytes ∙ ap (λ text. before ++ text) (sym (append-nil record_part))
    ∙ ap (λ mark. before ++ (record_part ++ field_text mark c.args.number)) (sym c.in-None.is)

-- if fields are separated, the number of the field is appended after that of the record
pub returns-in-Some : goal.returns-in-Some
returns-in-Some g c =
    let before = string_bytes c.args.line.now in
    let record_part = record_text (context_of c.args.context.now) in
    let field_part = codes "field " ++ decimal c.args.number ++ codes ": " in
    on_ok_weaker c.write-in-Some.result (λ wrote. wrote ∙ ap (λ text. text ++ field_part) c.in_ok-write.ensures.bytes
    ∙ append_assoc before record_part field_part
    ∙ ap (λ mark. before ++ (record_part ++ field_text mark c.args.number)) (sym c.in-Some.is))
    c.write-in-Some.ensures.bytes
