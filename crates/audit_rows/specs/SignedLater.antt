-- What was handed over in the name of process 1 is in a later journal as its own word: honest looks at the end.
use Rattle.std.specs.Prelude.{◌≡◌, List, [], ◌∷◌, ◌++◌, codes}
use Rattle.journal_defs.specs.declared.Version.TheVariants.{One}
use Rattle.audit_defs.specs.Sources.{Source}
use Rattle.audit_rows.specs.Scripts.{journal, line_of}

unfoldable pub sources : List Source
sources =
    journal One (0 ∷ 2 ∷ [])
    (1 ∷ 0 ∷ 0 ∷ 0 ∷ 27 ∷ 0 ∷ 2 ∷ 1 ∷ 0 ∷ 17 ∷ 1 ∷ 1 ∷ 1 ∷ 0 ∷ 8 ∷ 1 ∷ 0 ∷ 0 ∷ 0 ∷ 0 ∷ 0 ∷ 1 ∷ 97 ∷ 1 ∷ 1 ∷ 0 ∷ 0 ∷ 0 ∷ 0 ∷ 1 ∷ 0
    ∷ 0 ∷ 0 ∷ [])
    ∷ journal One (1 ∷ [])
    (1 ∷ 0 ∷ 0 ∷ 0 ∷ 12 ∷ 1 ∷ 1 ∷ 0 ∷ 1 ∷ 97 ∷ 0 ∷ 0 ∷ 2 ∷ 0 ∷ 0 ∷ 0 ∷ 0 ∷ 0 ∷ [])
    ∷ []

-- the row: what the definitions give
abbrev pub SignedLater : Type 0
SignedLater = line_of (0 ∷ 1 ∷ 2 ∷ 3 ∷ []) (0 ∷ 1 ∷ 2 ∷ 3 ∷ []) sources (0 ∷ 1 ∷ 2 ∷ [])
    ≡ codes "{\"agree\":true,\"bounded\":true,\"convicted\":[],\"honest\":true,\"processes\":[{\"delivered\":0,\"process\":0,"
    ++ (codes "\"views\":[[0,1,2,3]]},{\"delivered\":0,\"process\":1,\"views\":[[0,1,2,3]]},{\"delivered\":0,\"process\":2,\"vi"
    ++ codes "ews\":[[0,1,2,3]]}],\"sound\":true}\n")
