-- The characters that an error of a unit names as expected. Contracts of `Expected` cite this file, those of private
-- functions, and those of the C API through its `Error`.
use Rattle.std.specs.Prelude.{ℕ, List, [], ◌++◌, codes}
use Rattle.byte_unit_base.specs.Grammar.Version.{current}
use Rattle.byte_unit_base.specs.Errors.Fault.{Fault, bad_unit}
use Rattle.byte_unit_base.specs.declared.stop.Expected.{Expected}
use Rattle.byte_unit_base.specs.declared.stop.Expected.TheVariants.{Beginning, EitherB, UpperB, LowerB, I, T, S}
use Rattle.byte_unit_base.specs.declared.stop.Expected.TheVariants.{Nothing}

-- these characters
abbrev pub expected_codes : Expected → List ℕ
expected_codes Beginning = codes "B" ++ current.letters
expected_codes EitherB = codes "Bb"
expected_codes UpperB = codes "B"
expected_codes LowerB = codes "b"
expected_codes I = codes "i"
expected_codes T = codes "t"
expected_codes S = codes "s"
expected_codes Nothing = []

-- the characters that an error names: none if it is no error of a unit
abbrev pub named_in : Fault → List ℕ
named_in (bad_unit c expected may_end) = expected
named_in _ = []
