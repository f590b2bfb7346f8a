-- The default limits break no rule.
use Rattle.std.proofs.Common.{◌≡◌, ◌*◌, ◌^◌, ℕ, Some, arith, rules}
use Rattle.byte_unit.proofs.OnLiterals.{byte_unit_on_literals}
use Rattle.example_limits.specs.Rules.{IsBroken}
use Rattle.example_limits.specs.declared.Rule.{Rule}
use Rattle.example_limits.specs.declared.Rule.TheVariants.{FileInTotal, AllOnDisk, WithinHour}
use Rattle.example_limits.proofs.Limits.defaults.Goals as goal

-- limits of these sizes break no rule
no_rule_is_broken : {file total cache disk rate : ℕ} → file ≡ 20 * 10 ^ 6 → total ≡ 1536 * 2 ^ 20
    → cache ≡ 256 * 2 ^ 20 → disk ≡ 2 * 2 ^ 30 → rate ≡ 10 ^ 6 → (rule : Rule)
    → ¬ IsBroken (record { file = file; total = total; cache = Some cache; disk = disk; rate = rate }) rule
no_rule_is_broken file total cache disk rate FileInTotal = λ broken. omega (arith, broken)
no_rule_is_broken file total cache disk rate AllOnDisk = λ broken. omega (arith, broken)
no_rule_is_broken file total cache disk rate WithinHour = λ broken. omega (arith, broken)

-- the sizes are those of the literals, by computation on the strings
pub returns-clause-valid : goal.returns-clause-valid
unfolding byte_unit_on_literals
returns-clause-valid c =
    no_rule_is_broken (search rules) (search rules) (search rules) (search rules) (search rules)
