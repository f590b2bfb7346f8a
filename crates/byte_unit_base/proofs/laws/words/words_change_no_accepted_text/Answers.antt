-- A number and unit by the grammar is one in each reading.
use Rattle.std.proofs.Common.{true, false, ℕ, List, inl, inr}
use Rattle.byte_unit_base.specs.Grammar.Shape.{Shape}
use Rattle.byte_unit_base.specs.Grammar.Version.{current}
use Rattle.byte_unit_base.specs.Reading.ParseSpec.{ParseSpec, with_words}
use Rattle.byte_unit_base.specs.Sizes.Accepted.{IsMeasureAs}
use Rattle.byte_unit_base.proofs.laws.words.words_change_no_accepted_text.Goals as goal

-- a number and unit that is read without words
measure : (spec : ParseSpec) (bytes : List ℕ) (number : ℕ) (unit : Shape)
    → IsMeasureAs (with_words false spec) current bytes number unit
    → IsMeasureAs (with_words true spec) current bytes number unit
measure spec bytes number unit (inl is) = inl is
measure spec bytes number unit (inr words) = absurd (let never : ⊥ = cc (words.1) in never)

pub returns : goal.returns
returns c = λ spec bytes n accepted.
    let read = accepted.is_read in
    record {
      number = accepted.number;
      is_read = record {
        unit = read.unit;
        is_size = measure spec bytes accepted.number read.unit read.is_size;
        is_least = read.is_least;
      };
      below = accepted.below;
    }
