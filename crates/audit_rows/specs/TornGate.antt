-- After the entries come a closed gate that was never written whole, and bytes that mean nothing: they are not read.
use Rattle.std.specs.Prelude.{◌≡◌, List, [], ◌∷◌, ◌++◌, codes}
use Rattle.journal_defs.specs.declared.Version.TheVariants.{One}
use Rattle.audit_defs.specs.Sources.{Source}
use Rattle.audit_rows.specs.Scripts.{journal, line_of}

unfoldable pub sources : List Source
sources =
    journal One (0 ∷ [])
    (1 ∷ 0 ∷ 0 ∷ 0 ∷ 19 ∷ 0 ∷ 1 ∷ 0 ∷ 2 ∷ 104 ∷ 105 ∷ 0 ∷ 0 ∷ 5 ∷ 0 ∷ 0 ∷ 0 ∷ 0 ∷ 0 ∷ 0 ∷ 0 ∷ 0 ∷ 0 ∷ 0 ∷ 7 ∷ 0 ∷ 0 ∷ [])
    ∷ []

-- the row: what the definitions give
abbrev pub TornGate : Type 0
TornGate = line_of (0 ∷ []) (0 ∷ []) sources (0 ∷ [])
    ≡ codes "{\"agree\":true,\"bounded\":true,\"convicted\":[],\"honest\":true,\"processes\":[{\"delivered\":1,\"process\":0,"
    ++ codes "\"views\":[[0]]}],\"sound\":true}\n"
