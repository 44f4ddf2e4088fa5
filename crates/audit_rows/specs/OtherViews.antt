-- Statements of two views, or of two slots, do not conflict.
use Rattle.std.specs.Prelude.{◌≡◌, List, [], ◌∷◌, ◌++◌, codes}
use Rattle.journal_defs.specs.declared.Version.TheVariants.{One}
use Rattle.audit_defs.specs.Sources.{Source}
use Rattle.audit_rows.specs.Scripts.{journal, line_of}

unfoldable pub sources : List Source
sources =
    journal One (0 ∷ 1 ∷ 2 ∷ 3 ∷ [])
    (1 ∷ 0 ∷ 0 ∷ 0 ∷ 79 ∷ 0 ∷ 2 ∷ 3 ∷ 0 ∷ 69 ∷ 1 ∷ 1 ∷ 5 ∷ 0 ∷ 5 ∷ 7 ∷ 0 ∷ 7 ∷ 0 ∷ 3 ∷ 1 ∷ 3 ∷ 0 ∷ 0 ∷ 0 ∷ 5 ∷ 7 ∷ 0 ∷ 8 ∷ 0 ∷ 4 ∷ 1
    ∷ 3 ∷ 0 ∷ 0 ∷ 0 ∷ 9 ∷ 2 ∷ 0 ∷ 0 ∷ 3 ∷ 0 ∷ 0 ∷ 0 ∷ 1 ∷ 97 ∷ 1 ∷ 3 ∷ 0 ∷ 0 ∷ 0 ∷ 9 ∷ 2 ∷ 0 ∷ 0 ∷ 3 ∷ 0 ∷ 1 ∷ 0 ∷ 1 ∷ 98 ∷ 1 ∷ 3
    ∷ 0 ∷ 0 ∷ 0 ∷ 8 ∷ 1 ∷ 0 ∷ 0 ∷ 0 ∷ 0 ∷ 0 ∷ 1 ∷ 98 ∷ 1 ∷ 3 ∷ 0 ∷ 0 ∷ 0 ∷ 0 ∷ 1 ∷ 0 ∷ 0 ∷ 0 ∷ [])
    ∷ []

-- the row: what the definitions give
abbrev pub OtherViews : Type 0
OtherViews = line_of (0 ∷ 1 ∷ 2 ∷ 3 ∷ []) (0 ∷ 1 ∷ 2 ∷ 3 ∷ []) sources (0 ∷ 1 ∷ 2 ∷ [])
    ≡ codes "{\"agree\":true,\"bounded\":true,\"convicted\":[],\"honest\":true,\"processes\":[{\"delivered\":0,\"process\":0,"
    ++ (codes "\"views\":[[0,1,2,3]]},{\"delivered\":0,\"process\":1,\"views\":[[0,1,2,3]]},{\"delivered\":0,\"process\":2,\"vi"
    ++ codes "ews\":[[0,1,2,3]]}],\"sound\":true}\n")
