-- Which images that a node writes can be read again.
use Rattle.std.specs.Prelude.{ℕ, List, []}
use Rattle.group_defs.specs.Process.{Setting, start}
use Rattle.group_defs.specs.Events.{Turn, run}
use Rattle.image_defs.specs.Images.{Image, image_of}
use Rattle.snapshot_defs.specs.declared.Version.{Version}
use Rattle.snapshot_defs.specs.Ranges.{EachFrom, IsConflict, IsImage}

-- the image without its conflicts
abbrev pub without_conflicts : Image → Image
without_conflicts i = record i { conflicts = [] }

-- The image of a process that a run made has a spelling where it has one without its conflicts, and each claim of the conflicts is in range:
-- their signers rise, and they are no more than there are processes.
abbrev pub ImagesAreSpelled : Type 0
ImagesAreSpelled = (v : Version) (s : Setting) (me batch_limit : ℕ) (turns : List Turn)
    → IsImage v (without_conflicts (image_of (run s (start s me batch_limit) turns)))
    → EachFrom (λ k e. IsConflict e) 0 (image_of (run s (start s me batch_limit) turns)).conflicts
    → IsImage v (image_of (run s (start s me batch_limit) turns))
