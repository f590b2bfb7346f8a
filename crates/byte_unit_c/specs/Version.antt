-- The version in the C API.
use Rattle.std.specs.Prelude.{ℕ}

-- the version 3.0.0: a million times its first number, a thousand times its second, and its third
abbrev pub version : ℕ
version = 3000000
