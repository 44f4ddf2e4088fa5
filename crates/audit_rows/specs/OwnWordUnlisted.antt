-- The same with process 1 alone listed: what process 0 signed is not looked at, since it counts as corrupt.
use Rattle.std.specs.Prelude.{◌≡◌, List, [], ◌∷◌, ◌++◌, codes}
use Rattle.journal_defs.specs.declared.Version.TheVariants.{One}
use Rattle.audit_defs.specs.Sources.{Source}
use Rattle.audit_rows.specs.Scripts.{journal, line_of}

unfoldable pub sources : List Source
sources =
    journal One (0 ∷ [])
    (1 ∷ 0 ∷ 0 ∷ 0 ∷ 12 ∷ 0 ∷ 1 ∷ 0 ∷ 1 ∷ 97 ∷ 0 ∷ 0 ∷ 2 ∷ 0 ∷ 0 ∷ 0 ∷ 0 ∷ 0 ∷ [])
    ∷ journal One (1 ∷ [])
    (1 ∷ 0 ∷ 0 ∷ 0 ∷ 27 ∷ 1 ∷ 2 ∷ 0 ∷ 0 ∷ 17 ∷ 1 ∷ 1 ∷ 1 ∷ 0 ∷ 8 ∷ 1 ∷ 0 ∷ 0 ∷ 0 ∷ 0 ∷ 0 ∷ 1 ∷ 98 ∷ 1 ∷ 0 ∷ 0 ∷ 0 ∷ 0 ∷ 0 ∷ 1 ∷ 0
    ∷ 0 ∷ 0 ∷ [])
    ∷ []

-- the row: what the definitions give
abbrev pub OwnWordUnlisted : Type 0
OwnWordUnlisted = line_of (0 ∷ 1 ∷ 2 ∷ 3 ∷ []) (0 ∷ 1 ∷ 2 ∷ 3 ∷ []) sources (1 ∷ [])
    ≡ codes "{\"agree\":true,\"bounded\":false,\"convicted\":[],\"honest\":true,\"processes\":[{\"delivered\":0,\"process\":1"
    ++ codes ",\"views\":[[0,1,2,3]]}],\"sound\":true}\n"
