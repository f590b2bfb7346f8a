-- How v2 of the grammar extends v1.
use Rattle.std.specs.Prelude.{◌≡◌, ◌*◌, ◌^◌, ◌++◌, codes}
use Rattle.byte_unit_base.specs.Grammar.Version.{first_version, current}

-- law: v2 has one prefix letter more than v1, its limit of a whole part is 2^16 times as large, and its limit of a size
-- is 1000 times as large
pub record ExtendsFirst : Type 0 where
  pub letters : current.letters ≡ first_version.letters ++ codes "R"
  pub whole_limit : current.whole_limit ≡ first_version.whole_limit * 2 ^ 16
  pub size_limit : current.size_limit ≡ first_version.size_limit * 10 ^ 3
