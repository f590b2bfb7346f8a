-- The name of a unit spells it: its prefix letter, an `i` or nothing, and the letter of its kind. It is visible ASCII.
use Rattle.std.proofs.Common.{◌≡◌, ℕ, suc, ◌-◌, ◌<◌, ◌≤◌, Bool, true, false, not, ◌&&◌, List, [], ◌∷◌, ◌++◌}
use Rattle.std.proofs.Common.{length, ⊎_elim, inl, inr, arith, refl, sym, ap, codes, slice_index, if◌then◌else◌, nat_lt}
use Rattle.std.specs.Char.{is_ascii_graphic, to_ascii_uppercase}
use Rattle.std.specs.Str.{chars}
use Rattle.std.proofs.lemmas.Bool.{and_from, cases_lt, cond_both}
use Rattle.std.proofs.lemmas.Bool.Decides.{nat_tests}
use Rattle.std.proofs.lemmas.List.{length-append}
use Rattle.byte_unit_base.specs.Grammar.Shape.{Shape}
use Rattle.byte_unit_base.specs.Grammar.Version.{current, unit_name, unit_name_in}
use Rattle.byte_unit_base.specs.Grammar.Units.{shape_of}
use Rattle.byte_unit_base.specs.Grammar.Spelling.{Flags, flags_of, SpellsCount, SpellsBinary, Spells}
use Rattle.byte_unit_base.specs.Grammar.SizeText.{trim_of}
use Rattle.byte_unit_base.specs.Laws.Readers.{NamesSpellTheirUnits}
use Rattle.byte_unit_base.specs.declared.unit.Unit.{Unit as UnitName}
use Rattle.byte_unit_base.specs.declared.unit.Unit.TheVariants.{Bit, B}
use Rattle.byte_unit_base.proofs.SizeAscii.{IsVisible}

-- the unit has a prefix of the current version, or none; without one, it is a byte (binary) or a bit (decimal)
pub record IsKnown (s : Shape) : Type 0 where
  pub known : s.power ≤ length current.letters
  pub alone : s.power ≡ 0 → s.binary ≡ not s.bit

-- the prefix of each unit of the crate is one of the current version
pub unit_known : (unit : UnitName) → IsKnown (shape_of unit)
unit_known Bit = record { known = omega arith; alone = λ h. refl }
unit_known B = record { known = omega arith; alone = λ h. refl }
unit_known _ = record { known = omega arith; alone = λ h. absurd (omega (arith, h)) }

-- the letter of the prefix with this power, from 1 on
abbrev letter_at : ℕ → ℕ
letter_at power = slice_index current.letters (power - 1)

-- what follows the letter of a prefix: `i`, or nothing
abbrev infix_of : Bool → List ℕ
infix_of binary = if binary then codes "i" else []

-- the letter of the kind
abbrev count_of : Bool → List ℕ
count_of bit = if bit then codes "b" else codes "B"

-- the letter of a known prefix is its own uppercase, and is visible; the first case is a position of ten or more
letter_found : (power : ℕ) → power ≤ length current.letters
    → (to_ascii_uppercase (letter_at power) ≡ letter_at power) × (is_ascii_graphic (letter_at power) ≡ true)
letter_found (suc (suc (suc (suc (suc (suc (suc (suc (suc (suc n)))))))))) known = absurd (omega (arith, known))
letter_found _ known = (refl, refl)

-- what follows the letter says whether the prefix is binary
infix_spells : (binary : Bool) → SpellsBinary (infix_of binary) binary
infix_spells true = inr (refl, refl)
infix_spells false = inl (refl, refl)

-- the last letter of the name tells the kind: `b` means bits only if case is significant, and `B` always means bytes
abbrev pub SaysKind : Flags → Bool → Type 0
SaysKind flags bit = bit ≡ true → flags.ignore_case ≡ false

-- the letter of the kind spells the kind
count_spells : (flags : Flags) (bit : Bool) → SaysKind flags bit → SpellsCount flags (count_of bit) bit
count_spells flags false h = inr (inl (refl, refl))
count_spells flags true h = inr (inr (inl (refl, ap not (sym (h refl)))))

-- what follows the prefix letter is visible
rest_visible : (binary bit : Bool) → IsVisible (infix_of binary ++ count_of bit)
rest_visible true true = refl
rest_visible false true = refl
rest_visible binary bit = refl

-- the name of a unit with a prefix: its letter, an `i` if it is binary, and the letter of the kind
pub with_prefix : (s : Shape) → 0 < s.power → unit_name_in current s ≡ letter_at s.power ∷ (infix_of s.binary ++ count_of s.bit)
with_prefix s h = let some : nat_lt 0 s.power ≡ true = grind (arith, nat_tests) in rw some refl

-- the name of a unit without a prefix is the letter of its kind
without_prefix : (s : Shape) → s.power ≤ 0 → unit_name_in current s ≡ count_of s.bit
without_prefix s h = let none : nat_lt 0 s.power ≡ false = grind (arith, nat_tests) in rw none refl

-- a known unit, the last letter of whose name tells its kind under these flags
module _ (flags : Flags) (s : Shape) (h : IsKnown s) (says : SaysKind flags s.bit) where
  -- the name of a unit with a prefix spells it
  spells_multiple : 0 < s.power → Spells current flags (unit_name_in current s) s
  spells_multiple some = inr record {
    prefix_part = letter_at s.power ∷ infix_of s.binary;
    count_part = count_of s.bit;
    text_is = with_prefix s some;
    prefix_is = record {
      letter = letter_at s.power;
      infix_part = infix_of s.binary;
      text_is = refl;
      letter_is = (some, h.known, (letter_found s.power h.known).0);
      infix_is = infix_spells s.binary;
    };
    count_is = count_spells flags s.bit says;
  }

  -- the name of a unit without a prefix spells it
  spells_plain : s.power ≤ 0 → Spells current flags (unit_name_in current s) s
  spells_plain none =
      let zero : s.power ≡ 0 = omega (arith, none) in
      inl record {
        count_is = rw (without_prefix s none) (count_spells flags s.bit says);
        power_is = zero;
        binary_is = h.alone zero;
      }

  -- the name of a unit spells it, if its last letter tells the kind
  pub name_spells : Spells current flags (unit_name_in current s) s
  name_spells = ⊎_elim spells_multiple spells_plain (cases_lt 0 s.power)

-- the name of a unit is visible
pub name_visible : (s : Shape) → s.power ≤ length current.letters → IsVisible (unit_name_in current s)
name_visible s known = ⊎_elim
    (λ some. rw (with_prefix s some) (and_from _ _ (letter_found s.power known).1 (rest_visible s.binary s.bit)))
    (λ none. rw (without_prefix s none) (rest_visible false s.bit))
    (cases_lt 0 s.power)

-- the name of a unit is not empty
pub name_some : (s : Shape) → 0 < length (unit_name_in current s)
name_some s =
    let some = nat_lt 0 s.power in
    let front = (if some then letter_at s.power ∷ [] else []) ++ (if some && s.binary then codes "i" else []) in
    let last : 0 < length (count_of s.bit) = cond_both s.bit _ _ (λ t. 0 < length t) (λ _. omega arith) (λ _. omega arith) in
    omega (arith, last, length-append front (count_of s.bit))

-- the name of each unit of the crate has no white space at its ends
is_trimmed : (unit : UnitName) → trim_of (unit_name unit) ≡ unit_name unit
unfolding chars
is_trimmed Bit = refl
is_trimmed _ = refl

-- the name of each unit of the crate spells it if case is significant, and has no white space at its ends
pub names_spell_their_units : NamesSpellTheirUnits
names_spell_their_units unit prefer_byte = record {
  spells = name_spells (flags_of false prefer_byte) (shape_of unit) (unit_known unit) (λ bit. refl);
  trimmed_is = is_trimmed unit;
}
