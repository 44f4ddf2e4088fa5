-- Two of four are listed: the other two count as corrupt, which is more than the view bears.
use Rattle.std.specs.Prelude.{◌≡◌, List, [], ◌∷◌, ◌++◌, codes}
use Rattle.journal_defs.specs.declared.Version.TheVariants.{One}
use Rattle.audit_defs.specs.Sources.{Source}
use Rattle.audit_rows.specs.Scripts.{journal, line_of}

unfoldable pub sources : List Source
sources =
    journal One (0 ∷ 1 ∷ [])
    (0 ∷ [])
    ∷ []

-- the row: what the definitions give
abbrev pub TooManyCorrupt : Type 0
TooManyCorrupt = line_of (0 ∷ 1 ∷ 2 ∷ 3 ∷ []) (0 ∷ 1 ∷ 2 ∷ 3 ∷ []) sources (0 ∷ 1 ∷ [])
    ≡ codes "{\"agree\":true,\"bounded\":false,\"convicted\":[],\"honest\":true,\"processes\":[{\"delivered\":0,\"process\":0"
    ++ codes ",\"views\":[[0,1,2,3]]},{\"delivered\":0,\"process\":1,\"views\":[[0,1,2,3]]}],\"sound\":true}\n"
