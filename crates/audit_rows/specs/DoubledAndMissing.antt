-- Two journals host process 1, and none hosts process 3: the missing one is reported, though its number is greater.
use Rattle.std.specs.Prelude.{◌≡◌, List, [], ◌∷◌, codes}
use Rattle.journal_defs.specs.declared.Version.TheVariants.{One}
use Rattle.audit_defs.specs.Sources.{Source}
use Rattle.audit_rows.specs.Scripts.{journal, line_of}

unfoldable pub sources : List Source
sources =
    journal One (0 ∷ 1 ∷ [])
    (0 ∷ [])
    ∷ journal One (1 ∷ 2 ∷ [])
    (0 ∷ [])
    ∷ []

-- the row: what the definitions give
abbrev pub DoubledAndMissing : Type 0
DoubledAndMissing = line_of (0 ∷ 1 ∷ 2 ∷ 3 ∷ []) (0 ∷ 1 ∷ 2 ∷ 3 ∷ []) sources (1 ∷ 3 ∷ [])
    ≡ codes "stop 7 unhosted 3\n"
