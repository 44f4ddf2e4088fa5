-- An entry that says rightly that a further signature was missing: the process signed its Init and no more.
use Rattle.std.specs.Prelude.{◌≡◌, List, [], ◌∷◌, ◌++◌, codes}
use Rattle.journal_defs.specs.declared.Version.TheVariants.{One}
use Rattle.audit_defs.specs.Sources.{Source}
use Rattle.audit_rows.specs.Scripts.{journal, line_of}

unfoldable pub sources : List Source
sources =
    journal One (0 ∷ [])
    (1 ∷ 0 ∷ 0 ∷ 0 ∷ 10 ∷ 0 ∷ 1 ∷ 0 ∷ 1 ∷ 97 ∷ 1 ∷ 0 ∷ 1 ∷ 0 ∷ 0 ∷ 0 ∷ [])
    ∷ []

-- the row: what the definitions give
abbrev pub SpentTruly : Type 0
SpentTruly = line_of (0 ∷ []) (0 ∷ []) sources (0 ∷ [])
    ≡ codes "{\"agree\":true,\"bounded\":true,\"convicted\":[],\"honest\":true,\"processes\":[{\"delivered\":0,\"process\":0,"
    ++ codes "\"views\":[[0]]}],\"sound\":true}\n"
