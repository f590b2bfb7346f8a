-- Lemmas on options of a command line.
use Rattle.std.proofs.Common.{◌≡◌, ◌∙◌, ℕ, List, Option, Some, None, Result, Ok, Err, IfErr, IsErrAnd, ap, codes, true, false, refl, subst, sym}
use Rattle.std.specs.Borrow.{Bor}
use Rattle.clap.specs.Walk.{texts}
use Rattle.clap.specs.Words.{App, HasMatchesOf, TriesOne, found_of, is_simple, matches_of, one_of, one_text}
use Rattle.clap.specs.declared.parser.matches.ArgMatches.{ArgMatches}
use Rattle.clap.proofs.WalkLemmas.{one_text-rows}
use Rattle.clap.proofs.OnLiterals.{clap_on_literals}
use Rattle.byte_unit.specs.Sizes.Accepted.{IsAccepted}
use Rattle.byte_unit.specs.Reading.Results.{IsSizeReading}
use Rattle.byte_unit.specs.declared.Kind.TheVariants.{Byte as InBytes}
use Rattle.byte_unit.specs.declared.ParseError.{ParseError}
use Rattle.byte_unit_uses.specs.CommandLine.{copy_app, option_value}

-- The result of an option with a value, by the result of parsing the value.
abbrev present : Result ℕ ParseError → Result (Option ℕ) ParseError
present (Ok size) = Ok (Some size)
present (Err error) = Err error

-- If the value is accepted as a size, the option is that size.
pub accepted-option : (value : List ℕ) (size : ℕ) (result : Result (Option ℕ) ParseError)
    → TriesOne (IsSizeReading InBytes false) value result → IsAccepted InBytes false value size → result ≡ Ok (Some size)
accepted-option value size (Ok (Some read)) tried accepted = ap present (tried.reads size accepted)
accepted-option value size (Ok None) tried accepted = absurd tried
accepted-option value size (Err error) tried accepted = ap present (tried.reads size accepted)

-- `clap` says exactly what the command has matched.
pub copy-is-simple : is_simple copy_app ≡ true
unfolding clap_on_literals
copy-is-simple = refl

-- The getters read the value that the command line gives the option.
pub value-is : (app : App) (words : List (Bor (List ℕ))) (matches : ArgMatches)
    → app ≡ copy_app → HasMatchesOf app (texts words) matches
    → one_text (found_of matches) (codes "max-size") ≡ option_value words
value-is app words matches command matched =
    one_text-rows (found_of matches) (codes "max-size")
    ∙ ap (one_of (codes "max-size")) ((matched (ap is_simple command ∙ copy-is-simple)).0 ∙ ap (λ a. matches_of a (texts words)) command)

-- An error that `?` passes on is the same error.
pub passed-on : {T E : Type 0} (result : Result T E) (error : E) (Holds : E → Type 0)
    → IsErrAnd result (λ e. e ≡ error) → Holds error → IfErr result Holds
passed-on (Ok value) error Holds same holds = tt
passed-on (Err e) error Holds same holds = subst Holds (sym same) holds
