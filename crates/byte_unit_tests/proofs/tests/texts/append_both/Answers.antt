use Rattle.std.proofs.Common.{Result, Ok, Err, OnErr, arith, refl}
use Rattle.std.specs.Result.{IsOk}
use Rattle.byte_unit_tests.proofs.tests.texts.append_both.Goals as goal

-- a result that is not an error is `Ok`
is_ok_unless_err : {T E P : Type 0} (result : Result T E) → OnErr result P → (P → ⊥) → IsOk result
is_ok_unless_err (Ok _) refused none = refl
is_ok_unless_err (Err _) refused none = absurd (none refused)

pub unwrap-requires : goal.unwrap-requires
unwrap-requires c =
    let first = c.in_ok-append_text.ensures.added in
    let used = c.in_ok-append_text.ensures.used first.0 first.1 in
    let first_long = c.text_len.ensures.exact first.0 first.1 in
    is_ok_unless_err c.append_text-2.result c.append_text-2.ensures.refused (λ second.
    let second_long = c.text_len-2.ensures.exact second.0 second.1 in
    omega (arith, c.in_ok-try_reserve_exact.ensures.ok, used, first_long, second_long, second.2))
