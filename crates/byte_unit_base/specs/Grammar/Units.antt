-- The units of the crate: as `Shape`s, and in lists.
use Rattle.std.specs.Prelude.{true, false, Bool, List, [], ◌∷◌, get_or}
use Rattle.byte_unit_base.specs.Grammar.Shape.{Shape, shape}
use Rattle.byte_unit_base.specs.declared.unit.Unit.{Unit as UnitName}
use Rattle.byte_unit_base.specs.declared.unit.Unit.TheVariants.{Bit, B, Kbit, Kibit, KB, KiB, Mbit, Mibit, MB, MiB}
use Rattle.byte_unit_base.specs.declared.unit.Unit.TheVariants.{Gbit, Gibit, GB, GiB, Tbit, Tibit, TB, TiB, Pbit, Pibit}
use Rattle.byte_unit_base.specs.declared.unit.Unit.TheVariants.{PB, PiB, Ebit, Eibit, EB, EiB, Zbit, Zibit, ZB, ZiB}
use Rattle.byte_unit_base.specs.declared.unit.Unit.TheVariants.{Ybit, Yibit, YB, YiB, Rbit, Ribit, RB, RiB}

-- the `Shape` of a unit; without a prefix, a byte counts as binary, and a bit as decimal
abbrev pub shape_of : UnitName → Shape
shape_of Bit = shape 0 false true
shape_of B = shape 0 true false
shape_of Kbit = shape 1 false true
shape_of Kibit = shape 1 true true
shape_of KB = shape 1 false false
shape_of KiB = shape 1 true false
shape_of Mbit = shape 2 false true
shape_of Mibit = shape 2 true true
shape_of MB = shape 2 false false
shape_of MiB = shape 2 true false
shape_of Gbit = shape 3 false true
shape_of Gibit = shape 3 true true
shape_of GB = shape 3 false false
shape_of GiB = shape 3 true false
shape_of Tbit = shape 4 false true
shape_of Tibit = shape 4 true true
shape_of TB = shape 4 false false
shape_of TiB = shape 4 true false
shape_of Pbit = shape 5 false true
shape_of Pibit = shape 5 true true
shape_of PB = shape 5 false false
shape_of PiB = shape 5 true false
shape_of Ebit = shape 6 false true
shape_of Eibit = shape 6 true true
shape_of EB = shape 6 false false
shape_of EiB = shape 6 true false
shape_of Zbit = shape 7 false true
shape_of Zibit = shape 7 true true
shape_of ZB = shape 7 false false
shape_of ZiB = shape 7 true false
shape_of Ybit = shape 8 false true
shape_of Yibit = shape 8 true true
shape_of YB = shape 8 false false
shape_of YiB = shape 8 true false
shape_of Rbit = shape 9 false true
shape_of Ribit = shape 9 true true
shape_of RB = shape 9 false false
shape_of RiB = shape 9 true false

-- the units, in the order of the variants, which is that of their codes in the C API
abbrev pub units : List UnitName
units =
    Bit ∷ B ∷ Kbit ∷ Kibit ∷ KB ∷ KiB ∷ Mbit ∷ Mibit ∷ MB ∷ MiB
    ∷ Gbit ∷ Gibit ∷ GB ∷ GiB ∷ Tbit ∷ Tibit ∷ TB ∷ TiB
    ∷ Pbit ∷ Pibit ∷ PB ∷ PiB ∷ Ebit ∷ Eibit ∷ EB ∷ EiB
    ∷ Zbit ∷ Zibit ∷ ZB ∷ ZiB ∷ Ybit ∷ Yibit ∷ YB ∷ YiB
    ∷ Rbit ∷ Ribit ∷ RB ∷ RiB ∷ []

-- the units of the crate with a binary or a decimal prefix that count bits, or bytes if `bit` is false, by the index of
-- their prefix; at index 0 is the unit without a prefix
abbrev pub units_with : Bool → Bool → List UnitName
units_with false true =
    Bit ∷ Kbit ∷ Mbit ∷ Gbit ∷ Tbit ∷ Pbit ∷ Ebit ∷ Zbit ∷ Ybit ∷ Rbit ∷ []
units_with true true =
    Bit ∷ Kibit ∷ Mibit ∷ Gibit ∷ Tibit ∷ Pibit ∷ Eibit ∷ Zibit ∷ Yibit ∷ Ribit ∷ []
units_with false false = B ∷ KB ∷ MB ∷ GB ∷ TB ∷ PB ∷ EB ∷ ZB ∷ YB ∷ RB ∷ []
units_with true false = B ∷ KiB ∷ MiB ∷ GiB ∷ TiB ∷ PiB ∷ EiB ∷ ZiB ∷ YiB ∷ RiB ∷ []

-- the unit of the crate that has this shape; `B` for a shape that none has
abbrev pub unit_of_shape : Shape → UnitName
unit_of_shape s = get_or (units_with s.binary s.bit) s.power B
