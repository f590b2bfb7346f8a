-- What is appended is the text that `write_size` wrote, with its suffix, padded to the width. Without a width and a
-- suffix it is appended as it was written: of the bytes that are appended, truncating leaves the first ones. `.ok.0` of
-- a vector: its length is that of its items.
use Rattle.std.proofs.Common.{◌≡◌, ◌≤◌, ℕ, List, [], ◌++◌, length, take, ap, sym, ◌∙◌, arith}
use Rattle.std.proofs.Common.{append-nil, refl}
use Rattle.std.proofs.lemmas.List.{length-take-le, nil_from_length}
use Rattle.std.proofs.lemmas.Result.{on_ok_weaker}
use Rattle.byte_unit_command.specs.Formatted.{BeginsWithForm, IsFormText, IsFormatted, padded}
use Rattle.byte_unit_command.specs.declared.options.Options.{Options}
use Rattle.byte_unit_command.proofs.Texts.{first_bytes, padded-none}
use Rattle.byte_unit_command.proofs.text.add_in_width.Goals as goal

-- what `add_padded` has appended is the formatted size
with_padding : (options : Options) (width size len : ℕ) (bytes old new : List ℕ)
    → BeginsWithForm (IsFormText options.spec.binary options.spec.kind options.form options.precision size) bytes len
    → new ≡ old ++ padded width options.align_left (take len bytes ++ options.suffix.now)
    → (formatted : List ℕ) × IsFormatted (record options { width = width }) size formatted × (new ≡ old ++ formatted)
with_padding options width size len bytes old new written added =
    let formatted : List ℕ → List ℕ = λ text. padded width options.align_left (text ++ options.suffix.now) in (
      formatted written.form,
      (written.form, written.is_form, refl),
      added ∙ ap (λ text. old ++ formatted text) written.begins,
    )

-- with a width, the padded text is appended
pub returns-then-width-gt0-clause-ok : goal.returns-then-width-gt0-clause-ok
returns-then-width-gt0-clause-ok g c =
    on_ok_weaker c.add_padded.result (with_padding c.args.options.now c.args.width _ _ _ _ _
    c.write_size-len.ensures.written) c.add_padded.ensures.ok

-- with a suffix and no width, too
pub returns-in-len1-up-clause-ok : goal.returns-in-len1-up-clause-ok
returns-in-len1-up-clause-ok g c =
    on_ok_weaker c.add_padded-in-len1-up.result (with_padding c.args.options.now c.args.width _ _ _ _ _
    c.write_size-len.ensures.written) c.add_padded-in-len1-up.ensures.ok

-- the array that is written to has at least 64 bytes, so its first 64 can be taken
pub slice_bounds-extend_from_slice-end-in-empty-2 : goal.slice_bounds-extend_from_slice-end-in-empty-2
slice_bounds-extend_from_slice-end-in-empty-2 g c =
    let long : 64 ≤ length c.write_size-len.new.out = omega (arith, c.requires.capacity, c.write_size-len.auto.out) in
    omega (arith, length-take-le 64 c.write_size-len.new.out long)

-- after 64 bytes are appended, the length is at least 64, so up to 64 can be taken off
pub overflow_sub-len-in-empty : goal.overflow_sub-len-in-empty
overflow_sub-len-in-empty g c =
    let long : 64 ≤ length c.write_size-len.new.out = omega (arith, c.requires.capacity, c.write_size-len.auto.out) in
    let copied = length-take-le 64 c.write_size-len.new.out long in
    omega (arith, c.len.ensures, c.in_ok-extend_from_slice-in-empty.ensures.len, copied)

-- of the 64 bytes that were appended, truncating leaves the text
pub returns-in_ok-extend_from_slice-in-empty-clause-ok : goal.returns-in_ok-extend_from_slice-in-empty-clause-ok
returns-in_ok-extend_from_slice-in-empty-clause-ok g c =
    let options = c.args.options.now in
    let text = c.args.text.now.items in
    let len = c.write_size-len.result in
    let bytes = c.write_size-len.new.out in
    let suffix = options.suffix.now in
    let written = c.write_size-len.ensures.written in
    let after = c.extend_from_slice-in-empty.new.self in
    let long : 64 ≤ length bytes = omega (arith, c.requires.capacity, c.write_size-len.auto.out) in
    let short : len ≤ 64 = omega (arith, c.if-len-gt-AT_ONCE.false) in
    let none : suffix ≡ [] = nil_from_length suffix (omega (arith, c.in-empty.len_below)) in
    let unpadded : c.args.width ≡ 0 = omega (arith, c.if-width-gt0.false) in
    let formatted = written.form ++ suffix in
    let same : formatted ≡ written.form = ap (λ suffix. written.form ++ suffix) none ∙ append-nil written.form in (
      formatted,
      (written.form, written.is_form, sym (padded-none c.args.width options.align_left formatted unpadded)),
      c.truncate.ensures.items ∙ ap (λ count. take count after.items) (omega (arith, after.ok.0, c.len.ensures))
          ∙ first_bytes text bytes after.items len c.in_ok-extend_from_slice-in-empty.ensures.items long short
          ∙ ap (λ formatted. text ++ formatted) (written.begins ∙ sym same),
    )

-- what was there before the 64 bytes is kept; `added` is the triple of the clause `ok`
pub returns-in_ok-extend_from_slice-in-empty-clause-kept : goal.returns-in_ok-extend_from_slice-in-empty-clause-kept
returns-in_ok-extend_from_slice-in-empty-clause-kept g c =
    let added = returns-in_ok-extend_from_slice-in-empty-clause-ok g c in (added.0, added.2)
