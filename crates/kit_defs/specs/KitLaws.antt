-- That reading a kit and writing it undo each other, as laws of the definitions.
use Rattle.std.specs.Prelude.{◌≡◌, ℕ, List, Ok}
use Rattle.kit_defs.specs.Kits.{Kit, IsKit, kit_text}
use Rattle.kit_defs.specs.KitReading.{kit_of}

-- the kit that is read of a text is in its ranges, and the text is its spelling
abbrev pub ReadIsSpelled : Type 0
ReadIsSpelled = (bytes : List ℕ) (kit : Kit) → kit_of bytes ≡ Ok kit → (bytes ≡ kit_text kit) × IsKit kit

-- a kit in its ranges is read of its spelling
abbrev pub SpelledIsRead : Type 0
SpelledIsRead = (kit : Kit) → IsKit kit → kit_of (kit_text kit) ≡ Ok kit
