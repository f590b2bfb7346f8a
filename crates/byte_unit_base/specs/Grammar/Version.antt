-- The versions of the grammar, v1 and v2. What depends on their prefixes and limits takes the version as a parameter;
-- the code implements `current`.
use Rattle.std.specs.Prelude.{ℕ, ◌-◌, ◌^◌, if◌then◌else◌, List, [], ◌∷◌, ◌++◌, slice_index, nat_lt, ◌&&◌, codes}
use Rattle.byte_unit_math.specs.Bounds
use Rattle.byte_unit_base.specs.Grammar.Shape.{Shape}
use Rattle.byte_unit_base.specs.Grammar.Units.{shape_of}
use Rattle.byte_unit_base.specs.declared.unit.Unit.{Unit as UnitName}

-- what a version of the grammar fixes: its prefixes and its limits
pub record Version : Type 0 where
  -- the letters of the prefixes, from that of 10^3 on, in the order of their size
  pub letters : List ℕ
  -- the whole part of a number is below this
  pub whole_limit : ℕ
  -- a size is below this, in bytes or in bits according to its kind
  pub size_limit : ℕ

-- v1: its prefixes end at yotta, as those of the Rust crate do. A size is below 10^27, which is 1000 YB, and a whole
-- part can hold each size in bits
abbrev pub first_version : Version
first_version = record { letters = codes "KMGTPEZY"; whole_limit = 2 ^ 96; size_limit = 10 ^ 27 }

-- v2, which the code implements: it adds ronna, which the SI adopted in 2022. A size is below 10^30, which is 1000 RB,
-- and a whole part, below 2^112, can hold each size in bits
abbrev pub current : Version
current = record { letters = codes "KMGTPEZYR"; whole_limit = Bounds.whole_limit; size_limit = Bounds.size_limit }

-- the name of a unit: the letter of its prefix, an `i` if the prefix is binary, and `b` for bits or `B` for bytes
abbrev pub unit_name_in : Version → Shape → List ℕ
unit_name_in version s =
    (if nat_lt 0 s.power then slice_index version.letters (s.power - 1) ∷ [] else [])
    ++ (if nat_lt 0 s.power && s.binary then codes "i" else [])
    ++ (if s.bit then codes "b" else codes "B")

-- The name of a unit of the crate in the current version.
abbrev pub unit_name : UnitName → List ℕ
unit_name unit = unit_name_in current (shape_of unit)
