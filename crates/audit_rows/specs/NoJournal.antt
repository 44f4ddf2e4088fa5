-- A listed process that no journal hosts.
use Rattle.std.specs.Prelude.{◌≡◌, List, [], ◌∷◌, codes}
use Rattle.audit_defs.specs.Sources.{Source}
use Rattle.audit_rows.specs.Scripts.{line_of}

unfoldable pub sources : List Source
sources =
    []

-- the row: what the definitions give
abbrev pub NoJournal : Type 0
NoJournal = line_of (0 ∷ 1 ∷ 2 ∷ 3 ∷ []) (0 ∷ 1 ∷ 2 ∷ 3 ∷ []) sources (0 ∷ [])
    ≡ codes "stop 7 unhosted 0\n"
