-- An event that was refused fits where nothing is signed; its frame was handed over all the same.
use Rattle.std.specs.Prelude.{◌≡◌, List, [], ◌∷◌, ◌++◌, codes}
use Rattle.journal_defs.specs.declared.Version.TheVariants.{One}
use Rattle.audit_defs.specs.Sources.{Source}
use Rattle.audit_rows.specs.Scripts.{journal, line_of}

unfoldable pub sources : List Source
sources =
    journal One (2 ∷ [])
    (1 ∷ 0 ∷ 0 ∷ 0 ∷ 8 ∷ 2 ∷ 1 ∷ 0 ∷ 1 ∷ 97 ∷ 0 ∷ 0 ∷ 0 ∷ 1 ∷ 0 ∷ 0 ∷ 0 ∷ 9 ∷ 2 ∷ 2 ∷ 1 ∷ 0 ∷ 1 ∷ 2 ∷ 0 ∷ 0 ∷ 0 ∷ 0 ∷ [])
    ∷ []

-- the row: what the definitions give
abbrev pub RefusedEvent : Type 0
RefusedEvent = line_of (0 ∷ 1 ∷ []) (0 ∷ 1 ∷ 2 ∷ []) sources (2 ∷ [])
    ≡ codes "{\"agree\":true,\"bounded\":false,\"convicted\":[],\"honest\":true,\"processes\":[{\"delivered\":0,\"process\":2"
    ++ codes ",\"views\":[[0,1]]}],\"sound\":true}\n"
