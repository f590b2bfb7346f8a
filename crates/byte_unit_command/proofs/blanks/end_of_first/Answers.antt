-- A field that ends before a byte that separates fields is followed by the one after that byte.
use Rattle.std.proofs.Common.{◌≡◌, ◌∷◌, [], None, Some, IfNone, IfSome, sym, subst, arith}
use Rattle.std.proofs.lemmas.Option.{IfSome_then}
use Rattle.byte_unit_stream.specs.Chunks.{IsUnbroken}
use Rattle.byte_unit_stream.proofs.Ends.{split_by-EndsAt, split_by-IsUnbroken}
use Rattle.byte_unit_command.specs.Fields.{EndsFirst, fields_by}
use Rattle.byte_unit_command.specs.declared.options.Separator.{Separator}
use Rattle.byte_unit_command.specs.declared.options.Separator.TheVariants.{Byte}
use Rattle.byte_unit_command.proofs.blanks.end_of_first.Goals as goal

-- the byte that is found ends the first field
pub returns-in-Byte-clause-some : goal.returns-in-Byte-clause-some
returns-in-Byte-clause-some c =
    let bytes = c.args.bytes.now in
    subst (λ (separator : Separator). IfSome c.end_of.result (EndsFirst (Some separator) bytes)) (sym c.in-Byte.is)
    (IfSome_then c.end_of.result c.end_of.ensures.some (λ n ends.
    (omega arith, omega (arith, ends.0), split_by-EndsAt c.in-Byte.byte bytes n ends)))

-- no byte is found, so all bytes are one field
pub returns-in-Byte-clause-none : goal.returns-in-Byte-clause-none
returns-in-Byte-clause-none c =
    let byte = c.in-Byte.byte in
    let bytes = c.args.bytes.now in
    subst (λ (separator : Separator). IfNone c.end_of.result (fields_by (Some separator) bytes ≡ bytes ∷ []))
    (sym c.in-Byte.is) (elim c.end_of.result as (λ found. IfNone found (IsUnbroken byte bytes)
    → IfNone found (fields_by (Some (Byte byte)) bytes ≡ bytes ∷ []))
    [ None ↦ split_by-IsUnbroken byte bytes | Some n ↦ λ _. tt ] c.end_of.ensures.none)
