-- The first option that is wrong, after those that are right. `.ensures.1` of a `from_residual`: the error in its
-- result is the one that `?` passes on.
use Rattle.std.proofs.Common.{inl, inr}
use Rattle.std.specs.Prelude.{⊤}
use Rattle.byte_unit_command.specs.CallOptions.{IsFirstWrong, OrLater}
use Rattle.byte_unit_command.proofs.Results.{error-passed}
use Rattle.byte_unit_command.proofs.meaning.options_of.Goals as goal

-- an option is right, and this holds of the later ones
later : {M : Type 0} {is_wrong : Type 0} {IsRight Later : M → Type 0} (meaning : M) → IsRight meaning → Later meaning
    → OrLater is_wrong IsRight Later
later meaning is_right holds = inr (meaning, is_right, holds)

-- the form is wrong
pub returns-in_err-given-clause-err : goal.returns-in_err-given-clause-err
returns-in_err-given-clause-err c =
    error-passed (λ _. ⊤) (IsFirstWrong c.args.values.now c.args.fields) _ _ c.from_residual-in_err-given.ensures.1
    (later _ c.in_ok-binary.ensures.ok (inl c.in_err-given.ensures.err))

-- the form cannot be used without its unit
pub returns-in_err-form-clause-err : goal.returns-in_err-form-clause-err
returns-in_err-form-clause-err c =
    error-passed (λ _. ⊤) (IsFirstWrong c.args.values.now c.args.fields) _ _ c.from_residual-in_err-form.ensures.1
    (later _ c.in_ok-binary.ensures.ok (later _ c.in_ok-given.ensures.ok (inl c.in_err-form.ensures.err)))

-- the delimiter is wrong, or nothing separates the fields that are named
pub returns-in_err-separator-clause-err : goal.returns-in_err-separator-clause-err
returns-in_err-separator-clause-err c =
    error-passed (λ _. ⊤) (IsFirstWrong c.args.values.now c.args.fields) _ _ c.from_residual-in_err-separator.ensures.1
    (later _ c.in_ok-binary.ensures.ok (later _ c.in_ok-given.ensures.ok (later _ c.in_ok-form.ensures.ok
    (inl c.in_err-separator.ensures.err))))

-- the list of fields is wrong
pub returns-in_err-fields-clause-err : goal.returns-in_err-fields-clause-err
returns-in_err-fields-clause-err c =
    error-passed (λ _. ⊤) (IsFirstWrong c.args.values.now c.args.fields) _ _ c.from_residual-in_err-fields.ensures.1
    (later _ c.in_ok-binary.ensures.ok (later _ c.in_ok-given.ensures.ok (later _ c.in_ok-form.ensures.ok
    (later _ c.in_ok-separator.ensures.ok (inl c.in_err-fields.ensures.err)))))

-- the width is wrong
pub returns-in_err-padding-clause-err : goal.returns-in_err-padding-clause-err
returns-in_err-padding-clause-err c =
    error-passed (λ _. ⊤) (IsFirstWrong c.args.values.now c.args.fields) _ _ c.from_residual-in_err-padding.ensures.1
    (later _ c.in_ok-binary.ensures.ok (later _ c.in_ok-given.ensures.ok (later _ c.in_ok-form.ensures.ok
    (later _ c.in_ok-separator.ensures.ok (later _ c.in_ok-fields.ensures.ok (inl c.in_err-padding.ensures.err))))))

-- the mode for rejected fields is wrong
pub returns-in_err-invalid-clause-err : goal.returns-in_err-invalid-clause-err
returns-in_err-invalid-clause-err c =
    error-passed (λ _. ⊤) (IsFirstWrong c.args.values.now c.args.fields) _ _ c.from_residual-in_err-invalid.ensures.1
    (later _ c.in_ok-binary.ensures.ok (later _ c.in_ok-given.ensures.ok (later _ c.in_ok-form.ensures.ok
    (later _ c.in_ok-separator.ensures.ok (later _ c.in_ok-fields.ensures.ok (later _ c.in_ok-padding.ensures.ok
    (inl c.in_err-invalid.ensures.err)))))))

-- the maximum is wrong
pub returns-in_err-max-clause-err : goal.returns-in_err-max-clause-err
returns-in_err-max-clause-err c =
    error-passed (λ _. ⊤) (IsFirstWrong c.args.values.now c.args.fields) _ _ c.from_residual-in_err-max.ensures.1
    (later _ c.in_ok-binary.ensures.ok (later _ c.in_ok-given.ensures.ok (later _ c.in_ok-form.ensures.ok
    (later _ c.in_ok-separator.ensures.ok (later _ c.in_ok-fields.ensures.ok (later _ c.in_ok-padding.ensures.ok
    (later _ c.in_ok-invalid.ensures.ok
    (inl c.in_err-max.ensures.err))))))))

-- the minimum is wrong
pub returns-in_err-min-clause-err : goal.returns-in_err-min-clause-err
returns-in_err-min-clause-err c =
    error-passed (λ _. ⊤) (IsFirstWrong c.args.values.now c.args.fields) _ _ c.from_residual-in_err-min.ensures.1
    (later _ c.in_ok-binary.ensures.ok (later _ c.in_ok-given.ensures.ok (later _ c.in_ok-form.ensures.ok
    (later _ c.in_ok-separator.ensures.ok (later _ c.in_ok-fields.ensures.ok (later _ c.in_ok-padding.ensures.ok
    (later _ c.in_ok-invalid.ensures.ok
    (later _ c.in_ok-max.ensures.ok c.in_err-min.ensures.err))))))))
