-- The same journals in the other order: the Init that was handed over comes first.
use Rattle.std.specs.Prelude.{◌≡◌, List, [], ◌∷◌, ◌++◌, codes}
use Rattle.journal_defs.specs.declared.Version.TheVariants.{One}
use Rattle.audit_defs.specs.Sources.{Source}
use Rattle.audit_rows.specs.Scripts.{journal, line_of}

unfoldable pub sources : List Source
sources =
    journal One (1 ∷ [])
    (1 ∷ 0 ∷ 0 ∷ 0 ∷ 27 ∷ 1 ∷ 2 ∷ 0 ∷ 0 ∷ 17 ∷ 1 ∷ 1 ∷ 1 ∷ 0 ∷ 8 ∷ 1 ∷ 0 ∷ 0 ∷ 0 ∷ 0 ∷ 0 ∷ 1 ∷ 98 ∷ 1 ∷ 0 ∷ 0 ∷ 0 ∷ 0 ∷ 0 ∷ 1 ∷ 0
    ∷ 0 ∷ 0 ∷ [])
    ∷ journal One (0 ∷ [])
    (1 ∷ 0 ∷ 0 ∷ 0 ∷ 12 ∷ 0 ∷ 1 ∷ 0 ∷ 1 ∷ 97 ∷ 0 ∷ 0 ∷ 2 ∷ 0 ∷ 0 ∷ 0 ∷ 0 ∷ 0 ∷ [])
    ∷ []

-- the row: what the definitions give
abbrev pub OwnWordLast : Type 0
OwnWordLast = line_of (0 ∷ 1 ∷ 2 ∷ 3 ∷ []) (0 ∷ 1 ∷ 2 ∷ 3 ∷ []) sources (0 ∷ 1 ∷ [])
    ≡ codes "{\"agree\":true,\"bounded\":false,\"convicted\":[{\"first\":\"0100000000000162\",\"kind\":1,\"process\":0,\"seco"
    ++ (codes "nd\":\"0100000000000161\"}],\"honest\":false,\"processes\":[{\"delivered\":0,\"process\":0,\"views\":[[0,1,2,3]]"
    ++ codes "},{\"delivered\":0,\"process\":1,\"views\":[[0,1,2,3]]}],\"sound\":true}\n")
