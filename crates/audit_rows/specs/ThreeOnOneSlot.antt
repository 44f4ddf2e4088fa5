-- Of three claims on one slot the first is reported, and the first that conflicts with one before it.
use Rattle.std.specs.Prelude.{◌≡◌, List, [], ◌∷◌, ◌++◌, codes}
use Rattle.journal_defs.specs.declared.Version.TheVariants.{One}
use Rattle.audit_defs.specs.Sources.{Source}
use Rattle.audit_rows.specs.Scripts.{journal, line_of}

unfoldable pub sources : List Source
sources =
    journal One (0 ∷ 1 ∷ 2 ∷ 3 ∷ [])
    (1 ∷ 0 ∷ 0 ∷ 0 ∷ 56 ∷ 0 ∷ 2 ∷ 3 ∷ 0 ∷ 48 ∷ 1 ∷ 1 ∷ 3 ∷ 0 ∷ 9 ∷ 2 ∷ 0 ∷ 0 ∷ 3 ∷ 0 ∷ 1 ∷ 0 ∷ 1 ∷ 97 ∷ 1 ∷ 3 ∷ 0 ∷ 0 ∷ 0 ∷ 9 ∷ 2
    ∷ 0 ∷ 0 ∷ 3 ∷ 0 ∷ 0 ∷ 0 ∷ 1 ∷ 97 ∷ 1 ∷ 3 ∷ 0 ∷ 0 ∷ 0 ∷ 9 ∷ 2 ∷ 0 ∷ 0 ∷ 3 ∷ 0 ∷ 0 ∷ 0 ∷ 1 ∷ 97 ∷ 1 ∷ 3 ∷ 0 ∷ 0 ∷ 0 ∷ 0 ∷ 0 ∷ 1
    ∷ 0 ∷ 0 ∷ 0 ∷ 41 ∷ 1 ∷ 2 ∷ 3 ∷ 0 ∷ 33 ∷ 1 ∷ 1 ∷ 2 ∷ 0 ∷ 9 ∷ 2 ∷ 0 ∷ 0 ∷ 3 ∷ 0 ∷ 0 ∷ 0 ∷ 1 ∷ 98 ∷ 1 ∷ 3 ∷ 0 ∷ 0 ∷ 0 ∷ 9 ∷ 2 ∷ 0
    ∷ 0 ∷ 3 ∷ 0 ∷ 1 ∷ 0 ∷ 1 ∷ 98 ∷ 1 ∷ 3 ∷ 0 ∷ 0 ∷ 0 ∷ 0 ∷ 0 ∷ 0 ∷ [])
    ∷ []

-- the row: what the definitions give
abbrev pub ThreeOnOneSlot : Type 0
ThreeOnOneSlot = line_of (0 ∷ 1 ∷ 2 ∷ 3 ∷ []) (0 ∷ 1 ∷ 2 ∷ 3 ∷ []) sources (0 ∷ 1 ∷ 2 ∷ [])
    ≡ codes "{\"agree\":true,\"bounded\":true,\"convicted\":[{\"first\":\"020000030000000161\",\"kind\":2,\"process\":3,\"sec"
    ++ (codes "ond\":\"020000030000000162\"}],\"honest\":true,\"processes\":[{\"delivered\":0,\"process\":0,\"views\":[[0,1,2,3"
    ++ (codes "]]},{\"delivered\":0,\"process\":1,\"views\":[[0,1,2,3]]},{\"delivered\":0,\"process\":2,\"views\":[[0,1,2,3]]}]"
    ++ codes ",\"sound\":true}\n"))
