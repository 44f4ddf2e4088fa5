-- An Order of one message and one of two, at one place: the kind bytes differ, and the kind does not.
use Rattle.std.specs.Prelude.{◌≡◌, List, [], ◌∷◌, ◌++◌, codes}
use Rattle.journal_defs.specs.declared.Version.TheVariants.{Two}
use Rattle.audit_defs.specs.Sources.{Source}
use Rattle.audit_rows.specs.Scripts.{journal, line_of}

unfoldable pub sources : List Source
sources =
    journal Two (0 ∷ 1 ∷ 2 ∷ 3 ∷ [])
    (1 ∷ 0 ∷ 0 ∷ 0 ∷ 43 ∷ 1 ∷ 2 ∷ 0 ∷ 0 ∷ 35 ∷ 1 ∷ 1 ∷ 2 ∷ 0 ∷ 8 ∷ 3 ∷ 0 ∷ 0 ∷ 0 ∷ 0 ∷ 3 ∷ 0 ∷ 0 ∷ 1 ∷ 0 ∷ 0 ∷ 0 ∷ 0 ∷ 12 ∷ 12 ∷ 0
    ∷ 0 ∷ 0 ∷ 0 ∷ 2 ∷ 3 ∷ 0 ∷ 0 ∷ 3 ∷ 0 ∷ 1 ∷ 1 ∷ 0 ∷ 0 ∷ 0 ∷ 0 ∷ 0 ∷ 0 ∷ 0 ∷ [])
    ∷ []

-- the row: what the definitions give
abbrev pub BatchKind : Type 0
BatchKind = line_of (0 ∷ 1 ∷ 2 ∷ 3 ∷ []) (0 ∷ 1 ∷ 2 ∷ 3 ∷ []) sources (1 ∷ 2 ∷ 3 ∷ [])
    ≡ codes "{\"agree\":true,\"bounded\":true,\"convicted\":[{\"first\":\"0300000000030000\",\"kind\":3,\"process\":0,\"secon"
    ++ (codes "d\":\"0c0000000002030000030001\"}],\"honest\":true,\"processes\":[{\"delivered\":0,\"process\":1,\"views\":[[0,1"
    ++ (codes ",2,3]]},{\"delivered\":0,\"process\":2,\"views\":[[0,1,2,3]]},{\"delivered\":0,\"process\":3,\"views\":[[0,1,2,3"
    ++ codes "]]}],\"sound\":true}\n"))
