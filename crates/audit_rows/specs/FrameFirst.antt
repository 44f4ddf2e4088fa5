-- Process 0 is handed an Echo in its own name beside the Init, and signs another in the same entry: what was handed over comes first.
use Rattle.std.specs.Prelude.{◌≡◌, List, [], ◌∷◌, ◌++◌, codes}
use Rattle.journal_defs.specs.declared.Version.TheVariants.{One}
use Rattle.audit_defs.specs.Sources.{Source}
use Rattle.audit_rows.specs.Scripts.{journal, line_of}

unfoldable pub sources : List Source
sources =
    journal One (0 ∷ 1 ∷ 2 ∷ 3 ∷ [])
    (1 ∷ 0 ∷ 0 ∷ 0 ∷ 42 ∷ 0 ∷ 2 ∷ 3 ∷ 0 ∷ 32 ∷ 1 ∷ 1 ∷ 2 ∷ 0 ∷ 8 ∷ 1 ∷ 0 ∷ 0 ∷ 0 ∷ 0 ∷ 0 ∷ 1 ∷ 97 ∷ 1 ∷ 3 ∷ 0 ∷ 0 ∷ 0 ∷ 9 ∷ 2 ∷ 0
    ∷ 0 ∷ 3 ∷ 0 ∷ 0 ∷ 0 ∷ 1 ∷ 98 ∷ 1 ∷ 0 ∷ 0 ∷ 0 ∷ 0 ∷ 0 ∷ 1 ∷ 0 ∷ 0 ∷ 0 ∷ [])
    ∷ []

-- the row: what the definitions give
abbrev pub FrameFirst : Type 0
FrameFirst = line_of (0 ∷ 1 ∷ 2 ∷ 3 ∷ []) (0 ∷ 1 ∷ 2 ∷ 3 ∷ []) sources (0 ∷ 1 ∷ 2 ∷ [])
    ≡ codes "{\"agree\":true,\"bounded\":true,\"convicted\":[{\"first\":\"020000030000000162\",\"kind\":2,\"process\":0,\"sec"
    ++ (codes "ond\":\"020000030000000161\"}],\"honest\":false,\"processes\":[{\"delivered\":0,\"process\":0,\"views\":[[0,1,2,"
    ++ (codes "3]]},{\"delivered\":0,\"process\":1,\"views\":[[0,1,2,3]]},{\"delivered\":0,\"process\":2,\"views\":[[0,1,2,3]]}"
    ++ codes "],\"sound\":true}\n"))
