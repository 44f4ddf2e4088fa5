-- The two claims are of a view that nobody has installed, and past every window: no process hears them, and they convict all the same.
use Rattle.std.specs.Prelude.{◌≡◌, List, [], ◌∷◌, ◌++◌, codes}
use Rattle.journal_defs.specs.declared.Version.TheVariants.{One}
use Rattle.audit_defs.specs.Sources.{Source}
use Rattle.audit_rows.specs.Scripts.{journal, line_of}

unfoldable pub sources : List Source
sources =
    journal One (0 ∷ 1 ∷ 2 ∷ 3 ∷ [])
    (1 ∷ 0 ∷ 0 ∷ 0 ∷ 22 ∷ 0 ∷ 2 ∷ 3 ∷ 0 ∷ 14 ∷ 1 ∷ 1 ∷ 1 ∷ 0 ∷ 5 ∷ 7 ∷ 0 ∷ 7 ∷ 0 ∷ 3 ∷ 1 ∷ 3 ∷ 0 ∷ 0 ∷ 0 ∷ 0 ∷ 0 ∷ 1 ∷ 0 ∷ 0 ∷ 0
    ∷ 22 ∷ 0 ∷ 2 ∷ 3 ∷ 0 ∷ 14 ∷ 1 ∷ 1 ∷ 1 ∷ 0 ∷ 5 ∷ 7 ∷ 0 ∷ 7 ∷ 0 ∷ 4 ∷ 1 ∷ 3 ∷ 0 ∷ 0 ∷ 0 ∷ 0 ∷ 0 ∷ 0 ∷ [])
    ∷ []

-- the row: what the definitions give
abbrev pub BeyondView : Type 0
BeyondView = line_of (0 ∷ 1 ∷ 2 ∷ 3 ∷ []) (0 ∷ 1 ∷ 2 ∷ 3 ∷ []) sources (0 ∷ 1 ∷ 2 ∷ [])
    ≡ codes "{\"agree\":true,\"bounded\":true,\"convicted\":[{\"first\":\"0700070003\",\"kind\":7,\"process\":3,\"second\":\""
    ++ (codes "0700070004\"}],\"honest\":true,\"processes\":[{\"delivered\":0,\"process\":0,\"views\":[[0,1,2,3]]},{\"delivered"
    ++ (codes "\":0,\"process\":1,\"views\":[[0,1,2,3]]},{\"delivered\":0,\"process\":2,\"views\":[[0,1,2,3]]}],\"sound\":true}"
    ++ codes "\n"))
