-- The bytes that are quoted fit into the buffer, with two dots, and what is written is UTF-8.
use Rattle.std.proofs.Common.{◌≡◌, [], ◌++◌, length, take, nat_lt, if◌then◌else◌, codes, arith, sym, ap, subst, ◌∙◌, IsUtf8, Result, Ok, Err, IsOk, MatchResult, rules}
use Rattle.byte_unit_base.specs.Errors.Quoted.{escape, quote}
use Rattle.byte_unit_base.proofs.QuotedTexts.{escape_take_length, quote_utf8}
use Rattle.byte_unit_base.proofs.quoted.quote.Goals as goal

-- a result that is an error only if a fact does not hold is a value if it holds
is_ok_from_fact : {A E Fact : Type 0} (Holds : A → Type 0) (Says : E → Type 0) (r : Result A E)
    → MatchResult r Holds (λ e. (Fact → ⊥) × Says e) → Fact → IsOk r
is_ok_from_fact Holds Says (Ok x) cases fact = search rules
is_ok_from_fact Holds Says (Err e) cases fact = absurd (cases.0 fact)

pub put_escaped-end-requires : goal.put_escaped-end-requires
put_escaped-end-requires c = omega (
  arith,
  c.told-buffer,
  escape_take_length c.quoted_len-len.result c.args.text.now
      c.quoted_len-len.ensures.bound (λ k. omega (arith, c.type_inv.text k)),
)

pub put_after-end-requires : goal.put_after-end-requires
put_after-end-requires c = omega (
  arith,
  c.told-buffer,
  escape_take_length c.quoted_len-len.result c.args.text.now
      c.quoted_len-len.ensures.bound (λ k. omega (arith, c.type_inv.text k)),
)

pub unwrap-requires : goal.unwrap-requires
unwrap-requires c =
    let text = c.args.text.now in
    let len = c.quoted_len-len.result in
    let written : take c.put_after-end.result c.put_after-end.new.buffer ≡ quote text =
    c.put_after-end.ensures.bytes ∙ ap (λ front. front ++ c.dots.result.now) c.put_escaped-end.ensures.bytes
    ∙ ap (λ dots. escape (take len text) ++ dots) c.dots.ensures.text
    ∙ ap (λ len. escape (take len text) ++ (if nat_lt len (length text) then codes ".." else []))
    c.quoted_len-len.ensures.len in
    is_ok_from_fact _ _ c.from_utf8.result c.from_utf8.ensures.cases (subst IsUtf8 (sym written) (quote_utf8 text))
