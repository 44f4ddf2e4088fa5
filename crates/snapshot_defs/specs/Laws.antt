-- That reading an image and spelling it undo each other, and what the versions have in common.
use Rattle.std.specs.Prelude.{◌≡◌, ℕ, ◌<◌, List, slice_index, Ok}
use Rattle.image_defs.specs.Images.{Image}
use Rattle.image_defs.specs.Spelling.{image_bytes}
use Rattle.snapshot_defs.specs.declared.Version.{Version}
use Rattle.snapshot_defs.specs.declared.Version.TheVariants.{One, Two}
use Rattle.snapshot_defs.specs.Reading.{image_in}
use Rattle.snapshot_defs.specs.Spelling.{spelled}
use Rattle.snapshot_defs.specs.Ranges.{IsImage}

abbrev pub AreBytes : List ℕ → Type 0
AreBytes bytes = (n : ℕ) → slice_index bytes n < 256

-- bytes that are read as an image are its spelling in this version, and the image is in its ranges
abbrev pub ReadIsSpelled : Type 0
ReadIsSpelled = (v : Version) (bytes : List ℕ) (i : Image) → AreBytes bytes → image_in v bytes ≡ Ok i → IsImage v i × (bytes ≡ spelled v i)

-- an image in its ranges is read of its spelling
abbrev pub SpelledIsRead : Type 0
SpelledIsRead = (v : Version) (i : Image) → IsImage v i → image_in v (spelled v i) ≡ Ok i

-- what is written is the spelling in version 2
abbrev pub WrittenIsSecond : Type 0
WrittenIsSecond = (i : Image) → image_bytes i ≡ spelled Two i

-- an image that has a spelling in version 1 has one in version 2
abbrev pub OldIsWritten : Type 0
OldIsWritten = (i : Image) → IsImage One i → IsImage Two i
