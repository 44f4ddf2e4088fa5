-- The journal of a process that is not listed is read too, and refused where a gate breaks.
use Rattle.std.specs.Prelude.{◌≡◌, List, [], ◌∷◌, codes}
use Rattle.journal_defs.specs.declared.Version.TheVariants.{One}
use Rattle.audit_defs.specs.Sources.{Source}
use Rattle.audit_rows.specs.Scripts.{journal, line_of}

unfoldable pub sources : List Source
sources =
    journal One (0 ∷ [])
    (0 ∷ [])
    ∷ journal One (1 ∷ [])
    (1 ∷ 0 ∷ 0 ∷ 0 ∷ 1 ∷ 255 ∷ 0 ∷ [])
    ∷ []

-- the row: what the definitions give
abbrev pub OthersTorn : Type 0
OthersTorn = line_of (0 ∷ 1 ∷ []) (0 ∷ 1 ∷ []) sources (0 ∷ [])
    ≡ codes "stop 8 journal 1 60\n"
