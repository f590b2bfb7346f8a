-- The table has the unit of each position and kind.
use Rattle.std.proofs.Common.{◌≡◌, ℕ, suc, ◌+◌, ◌*◌, ◌≤◌, Bool, true, false, [], get_or, refl, arith}
use mir.Val.{bool_byte}
use Rattle.byte_unit_base.specs.Grammar.Units.{shape_of}
use Rattle.byte_unit_base.specs.Reading.Machines.{multiple_shape}
use Rattle.byte_unit_base.specs.Reading.Machines.{multiple_of}
use Rattle.byte_unit_base.specs.declared.unit.tables.TheConstants.{BY_POWER}
use Rattle.byte_unit_base.specs.declared.unit.Unit.TheVariants.{Bit as UnitBit}
use Rattle.byte_unit_base.proofs.read.unit.unit_with_prefix.Goals as goal

-- the row of a position and the column 2 * binary + bit have the unit: evaluated for each
at_place : (n : ℕ) → n ≤ 9 → (binary bit : Bool) (x y : ℕ) → x ≡ bool_byte binary → y ≡ bool_byte bit
    → shape_of (get_or (get_or BY_POWER n []) (2 * x + y) UnitBit) ≡ multiple_shape (multiple_of n binary) bit
at_place (suc (suc (suc (suc (suc (suc (suc (suc (suc (suc n)))))))))) few _ _ _ _ _ _ = absurd (omega (arith, few))
at_place _ few true true x y e f = rw (e, f) refl
at_place _ few false true x y e f = rw (e, f) refl
at_place _ few _ _ x y e f = rw (e, f) refl

-- the two numbers are 1 if the prefix is binary, and 1 if the kind is bits
pub returns : goal.returns
returns c = at_place c.args.power c.requires.bound c.args.binary c.args.bit _ _ c.from.ensures c.from-2.ensures
