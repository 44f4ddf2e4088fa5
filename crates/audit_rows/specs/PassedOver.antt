-- An entry of a process that is not listed is passed over, though it could not have been written.
use Rattle.std.specs.Prelude.{◌≡◌, List, [], ◌∷◌, ◌++◌, codes}
use Rattle.journal_defs.specs.declared.Version.TheVariants.{One}
use Rattle.audit_defs.specs.Sources.{Source}
use Rattle.audit_rows.specs.Scripts.{journal, line_of}

unfoldable pub sources : List Source
sources =
    journal One (0 ∷ [])
    (1 ∷ 0 ∷ 0 ∷ 0 ∷ 8 ∷ 1 ∷ 1 ∷ 0 ∷ 1 ∷ 97 ∷ 1 ∷ 0 ∷ 0 ∷ 0 ∷ [])
    ∷ []

-- the row: what the definitions give
abbrev pub PassedOver : Type 0
PassedOver = line_of (0 ∷ 1 ∷ []) (0 ∷ 1 ∷ []) sources (0 ∷ [])
    ≡ codes "{\"agree\":true,\"bounded\":false,\"convicted\":[],\"honest\":true,\"processes\":[{\"delivered\":0,\"process\":0"
    ++ codes ",\"views\":[[0,1]]}],\"sound\":true}\n"
