-- Process 3 sends one payload to process 0 and another to process 1, whose journals are two: only both together convict it.
use Rattle.std.specs.Prelude.{◌≡◌, List, [], ◌∷◌, ◌++◌, codes}
use Rattle.journal_defs.specs.declared.Version.TheVariants.{One}
use Rattle.audit_defs.specs.Sources.{Source}
use Rattle.audit_rows.specs.Scripts.{journal, line_of}

unfoldable pub sources : List Source
sources =
    journal One (0 ∷ [])
    (1 ∷ 0 ∷ 0 ∷ 0 ∷ 26 ∷ 0 ∷ 2 ∷ 3 ∷ 0 ∷ 18 ∷ 1 ∷ 1 ∷ 1 ∷ 0 ∷ 9 ∷ 2 ∷ 0 ∷ 0 ∷ 3 ∷ 0 ∷ 0 ∷ 0 ∷ 1 ∷ 97 ∷ 1 ∷ 3 ∷ 0 ∷ 0 ∷ 0 ∷ 0 ∷ 0
    ∷ 0 ∷ [])
    ∷ journal One (1 ∷ [])
    (1 ∷ 0 ∷ 0 ∷ 0 ∷ 26 ∷ 1 ∷ 2 ∷ 3 ∷ 0 ∷ 18 ∷ 1 ∷ 1 ∷ 1 ∷ 0 ∷ 9 ∷ 2 ∷ 0 ∷ 0 ∷ 3 ∷ 0 ∷ 0 ∷ 0 ∷ 1 ∷ 98 ∷ 1 ∷ 3 ∷ 0 ∷ 0 ∷ 0 ∷ 0 ∷ 0
    ∷ 0 ∷ [])
    ∷ []

-- the row: what the definitions give
abbrev pub AcrossJournals : Type 0
AcrossJournals = line_of (0 ∷ 1 ∷ 2 ∷ 3 ∷ []) (0 ∷ 1 ∷ 2 ∷ 3 ∷ []) sources (0 ∷ 1 ∷ [])
    ≡ codes "{\"agree\":true,\"bounded\":false,\"convicted\":[{\"first\":\"020000030000000161\",\"kind\":2,\"process\":3,\"se"
    ++ (codes "cond\":\"020000030000000162\"}],\"honest\":true,\"processes\":[{\"delivered\":0,\"process\":0,\"views\":[[0,1,2,"
    ++ codes "3]]},{\"delivered\":0,\"process\":1,\"views\":[[0,1,2,3]]}],\"sound\":true}\n")
