-- The command line, as clap's parser reads it: the options by name and letter, and what each takes.
use Rattle.std.specs.Prelude.{◌≡◌, ℕ, true, false, List, [], ◌∷◌, Some, pos, codes}
use Rattle.clap.specs.Words.{App, Rule, new_app, new_rule, rule_of, with_rule}
use Rattle.clap.specs.declared.builder.ArgAction.TheVariants.{SetTrue}
use Rattle.clap.specs.declared.builder.Arg.{Arg}
use Rattle.clap.specs.declared.builder.ValueParser.TheVariants.{Signed, Unsigned}

-- clap reads the argument by this rule
pub record IsArg (rule : Rule) (arg : Arg) : Type 0 where
  pub rule_is : rule_of arg ≡ rule
  pub not_global : arg.global ≡ false

-- an option without a value
abbrev pub flag : List ℕ → Rule
flag name = record (new_rule name) { long = Some name; action = Some SetTrue }

-- an option with a value, which help calls by one name
abbrev pub value : List ℕ → Rule
value name = record (new_rule name) { long = Some name; value_names = 1 }

-- an option with this letter
abbrev pub lettered : ℕ → Rule → Rule
lettered letter rule = record rule { short = Some letter }

-- an option that excludes another
abbrev pub not_free : Rule → Rule
not_free rule = record rule { is_free = false }

-- an option whose value is read in its own way: it may begin with a hyphen, or needs `=`
abbrev pub not_simple : Rule → Rule
not_simple rule = record rule { is_simple = false }

-- `-p`, a number up to 65535
abbrev pub precision : Rule
precision = record (lettered 112 (value (codes "precision"))) { parser = Some (Signed (pos 0) (pos 65535)) }

-- `--header`, whose value, a number below 2^64, may be missing: then it is 1
abbrev pub header : Rule
header = record (not_simple (value (codes "header"))) {
  range = Some (record { start_inclusive = 0; end_inclusive = 1 });
  missing = codes "1" ∷ [];
  parser = Some (Unsigned 0 18446744073709551615);
}

-- the operands: any number of them
abbrev pub operands : Rule
operands = record (new_rule (codes "SIZE")) {
  range = Some (record { start_inclusive = 0; end_inclusive = 18446744073709551615 });
}

-- the options that say how a size is read and formatted; the letters are `i` (105) and `H` (72)
abbrev pub size_rules : List Rule
size_rules =
    flag (codes "bits") ∷ not_free (lettered 105 (flag (codes "ignore-case"))) ∷ value (codes "from")
    ∷ flag (codes "words") ∷ value (codes "to") ∷ flag (codes "no-unit") ∷ not_simple (value (codes "suffix")) ∷ precision
    ∷ lettered 72 (flag (codes "human-readable")) ∷ []

-- those that say what is converted, and what a run does with what it finds; and the operands. The letters are `d` (100)
-- and `z` (122)
abbrev pub record_rules : List Rule
record_rules =
    lettered 100 (value (codes "delimiter")) ∷ not_free (flag (codes "blanks")) ∷ not_simple (value (codes "field"))
    ∷ header ∷ not_simple (value (codes "padding")) ∷ value (codes "invalid") ∷ flag (codes "total")
    ∷ value (codes "max") ∷ value (codes "min") ∷ flag (codes "no-hints")
    ∷ lettered 122 (flag (codes "zero-terminated")) ∷ operands ∷ []

-- a command with these arguments more
abbrev pub with_rules : App → List Rule → App
with_rules app [] = app
with_rules app (rule ∷ rules) = with_rules (with_rule app rule) rules

-- the command without arguments. It has a version, and the last of an option that is given more than once holds. It is
-- not plain, since a long name may be abbreviated
abbrev pub without_rules : App
without_rules =
    let start = new_app (codes "byte-unit") in
    record start { top = record start.top { has_version = true; args_override_self = true; is_plain = false } }

-- the command that `arguments::command` makes, with its arguments in the order of the code
abbrev pub command_line : App
command_line = with_rules (with_rules without_rules size_rules) record_rules
