-- The matches are those of `copy_app`, so the size and the error are those of the value that the command line gives.
-- `.ensures.1` of a `from_residual`: the error in its result is the one that `?` passes on.
use Rattle.std.proofs.Common.{◌≡◌, ◌∙◌, rules, ap, ap₂, inl, inr, subst, sym}
use Rattle.clap.specs.Walk.{texts}
use Rattle.clap.specs.Words.{app_of, takes, with_rule}
use Rattle.byte_unit.specs.Errors.Meaning.{size_fault}
use Rattle.byte_unit_uses.specs.CommandLine.{IsOption, IsOptionError, copy_app, option_value}
use Rattle.byte_unit_uses.proofs.CommandLine.{passed-on, value-is}
use Rattle.byte_unit_uses.proofs.command_line.max_size.Goals as goal

-- the size is that of the value of `--max-size`, or `None` if the option is missing
pub returns-in-Ok-clause-size : goal.returns-in-Ok-clause-size
returns-in-Ok-clause-size c =
    -- the command that was built is `copy_app`
    let command : app_of c.in_ok-command.command ≡ copy_app =
    c.in_ok-command.ensures.shape (search rules) ∙ ap₂ with_rule c.new-2.ensures.app (search rules) in
    let value = value-is _ c.args.words.now c.in_ok-matches.matches command c.in_ok-matches.ensures.ok.2 in
    subst (λ v. IsOption v c.in-Ok.size) value c.in-Ok.ensures.sound

-- `clap` has rejected a command line that it takes: that happens only if memory ran out
pub returns-in_err-matches-clause-reason : goal.returns-in_err-matches-clause-reason
returns-in_err-matches-clause-reason c = λ taken.
    let command : app_of c.in_ok-command.command ≡ copy_app =
    c.in_ok-command.ensures.shape (search rules) ∙ ap₂ with_rule c.new-2.ensures.app (search rules) in
    let memory = c.in_err-matches.ensures.passes (ap (λ app. takes app (texts c.args.words.now)) command ∙ taken) in
    passed-on c.from_residual-in_err-matches.result c.in_err-matches.field-0.0 (IsOptionError (option_value c.args.words.now))
    c.from_residual-in_err-matches.ensures.1 (inl memory)

-- the value of the option is rejected: the error has the kind `ValueValidation`
pub returns-clause-reason : goal.returns-clause-reason
returns-clause-reason c = λ taken.
    let command : app_of c.in_ok-command.command ≡ copy_app =
    c.in_ok-command.ensures.shape (search rules) ∙ ap₂ with_rule c.new-2.ensures.app (search rules) in
    let value = value-is _ c.args.words.now c.in_ok-matches.matches command c.in_ok-matches.ensures.ok.2 in
    -- the value of the option, that it is the one matched, and that it is rejected with the error
    let rejected = c.in-Err.ensures.reason in
    inr (c.in_ok-error-in-Err.ensures.kind, rejected.0, sym value ∙ rejected.1, size_fault c.in-Err.error, rejected.2)
