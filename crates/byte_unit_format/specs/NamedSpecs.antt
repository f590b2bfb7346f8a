-- The options of the specs that the code names. By a law they are the constants `FormatSpec::PLAIN` and `ALTERNATE`.
use Rattle.std.specs.Prelude.{true, false, None}
use Rattle.byte_unit_format.specs.declared.spec.FormatSpec.{FormatSpec}
use Rattle.byte_unit_format.specs.declared.spec.Sign.TheVariants.{Unset}

-- No option is set: a size is formatted as digits.
abbrev pub plain_spec : FormatSpec
plain_spec = record { alternate = false; sign = Unset; precision = None; width = None; align = None }

-- The alternate form, with no other option set: a size is formatted with a unit.
abbrev pub alternate_spec : FormatSpec
alternate_spec = record { alternate = true; sign = Unset; precision = None; width = None; align = None }
