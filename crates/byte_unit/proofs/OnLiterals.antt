-- For a caller who parses a literal, a text that is written in his program.
use Rattle.std.proofs.Common.{◌≡◌, ℕ, Bool, false, List, Option, Some, None, Result, Ok, Err, ap, ◌∙◌}
use Rattle.std.specs.Prelude.{⊤, option_map}
use Rattle.std.proofs.lemmas.Option.{same_Some}
use Rattle.byte_unit_base.specs.Errors.Fault.{Fault}
use Rattle.byte_unit_base.specs.Sizes.Accepted.{IsAccepted, IsRejected}
use Rattle.byte_unit_base.specs.Reading.Results.{IsSizeReading, JsonErrors, ReadsString, string_answer}
use Rattle.byte_unit_base.specs.Reading.Parsed.{parsed_size}
use Rattle.byte_unit_choice.specs.ParsedAdjusted.{parsed_adjusted}
use Rattle.byte_unit_base.specs.declared.kind.Kind.{Kind}
use Rattle.byte_unit_base.specs.declared.errors.ParseError.{ParseError}
use Rattle.byte_unit_base.proofs.OnLiterals.{byte_unit_base_on_literals}
use Rattle.byte_unit_base.proofs.ParsedTexts.{parsed_sizes_are_accepted}
pub use Rattle.byte_unit_choice.proofs.AdjustedLiterals.{adjusted_computed}

-- what a proof unfolds to compute what the parsers return for a literal
unfoldable pub byte_unit_on_literals : ⊤
unfolding byte_unit_base_on_literals parsed_adjusted
byte_unit_on_literals = tt

-- a literal that is computed as a size is accepted as this size
pub accepted_literal : (kind : Kind) (ignore_case : Bool) (bytes : List ℕ) (n : ℕ)
    → parsed_size kind ignore_case bytes ≡ Ok n → IsAccepted kind ignore_case bytes n
accepted_literal kind ignore_case bytes n e = ((parsed_sizes_are_accepted kind ignore_case bytes).is_meaning n).0 e

-- a literal that is computed as an error is rejected with this error
pub rejected_literal : (kind : Kind) (ignore_case : Bool) (bytes : List ℕ) (fault : Fault)
    → parsed_size kind ignore_case bytes ≡ Err fault → IsRejected kind ignore_case bytes fault
rejected_literal kind ignore_case bytes fault e =
    ((parsed_sizes_are_accepted kind ignore_case bytes).is_fault fault).0 e

-- a JSON or TOML string that is computed as a size is parsed as this size
pub string_literal : {E : Type 0} (errors : JsonErrors ParseError E) (kind : Kind) (string : Option (List ℕ)) (n : ℕ)
    (result : Result ℕ E) → option_map (parsed_size kind false) string ≡ Some (Ok n)
    → ReadsString errors (IsSizeReading kind false) string result → result ≡ Ok n
string_literal errors kind (Some bytes) n result computed reads =
    let read = reads.1.reads n (accepted_literal kind false bytes n (same_Some _ _ computed)) in
    reads.2 ∙ ap (string_answer errors) read
string_literal errors kind None n result computed reads = absurd (let z : ⊥ = cc in z)
