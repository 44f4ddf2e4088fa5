-- One claim in the name of a listed process that never signed it: nobody is convicted, and the family is not honest.
use Rattle.std.specs.Prelude.{◌≡◌, List, [], ◌∷◌, ◌++◌, codes}
use Rattle.journal_defs.specs.declared.Version.TheVariants.{One}
use Rattle.audit_defs.specs.Sources.{Source}
use Rattle.audit_rows.specs.Scripts.{journal, line_of}

unfoldable pub sources : List Source
sources =
    journal One (0 ∷ 1 ∷ 2 ∷ 3 ∷ [])
    (1 ∷ 0 ∷ 0 ∷ 0 ∷ 26 ∷ 0 ∷ 2 ∷ 3 ∷ 0 ∷ 18 ∷ 1 ∷ 1 ∷ 1 ∷ 0 ∷ 9 ∷ 2 ∷ 0 ∷ 0 ∷ 3 ∷ 0 ∷ 0 ∷ 0 ∷ 1 ∷ 97 ∷ 1 ∷ 3 ∷ 0 ∷ 0 ∷ 0 ∷ 0 ∷ 0
    ∷ 0 ∷ [])
    ∷ []

-- the row: what the definitions give
abbrev pub NotItsWord : Type 0
NotItsWord = line_of (0 ∷ 1 ∷ 2 ∷ 3 ∷ []) (0 ∷ 1 ∷ 2 ∷ 3 ∷ []) sources (0 ∷ 1 ∷ 2 ∷ 3 ∷ [])
    ≡ codes "{\"agree\":true,\"bounded\":true,\"convicted\":[],\"honest\":false,\"processes\":[{\"delivered\":0,\"process\":0"
    ++ (codes ",\"views\":[[0,1,2,3]]},{\"delivered\":0,\"process\":1,\"views\":[[0,1,2,3]]},{\"delivered\":0,\"process\":2,\"v"
    ++ codes "iews\":[[0,1,2,3]]},{\"delivered\":0,\"process\":3,\"views\":[[0,1,2,3]]}],\"sound\":true}\n")
