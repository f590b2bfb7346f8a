-- Settings in JSON.
use Rattle.std.specs.Prelude.{◌≡◌, ℕ, List, Some, false}
use Rattle.serde_json.specs.Data.{Data, string}
use Rattle.serde_json.specs.Find.{get}
use Rattle.byte_unit.specs.Sizes.Accepted.{IsAccepted}
use Rattle.byte_unit.specs.declared.Kind.TheVariants.{Byte as InBytes}

-- the settings have a string by this name, and it represents this size
abbrev pub HasSize : Data → List ℕ → ℕ → Type 0
HasSize settings name size =
    (text : List ℕ) × (get name settings ≡ Some (string text)) × IsAccepted InBytes false text size
