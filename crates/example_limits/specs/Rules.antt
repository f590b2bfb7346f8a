-- When limits break a rule.
use Rattle.std.specs.Prelude.{◌+◌, ◌*◌, ◌<◌}
use Rattle.std.specs.Option.{unwrap_or}
use Rattle.example_limits.specs.declared.Rule.{Rule}
use Rattle.example_limits.specs.declared.Rule.TheVariants.{FileInTotal, AllOnDisk, WithinHour}
use Rattle.example_limits.specs.declared.Limits.{Limits}

-- a file can be larger than all files together; the files and the cache exceed the disk; at this rate, in bits per
-- second, the largest file takes more than 3600 seconds
abbrev pub IsBroken : Limits → Rule → Type 0
IsBroken limits FileInTotal = limits.total < limits.file
IsBroken limits AllOnDisk = limits.disk < limits.total + unwrap_or limits.cache 0
IsBroken limits WithinHour = 3600 * limits.rate < 8 * limits.file
