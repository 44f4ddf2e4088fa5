-- An audit: who is taken as correct, what the journals say of them, and why some journals are refused.
-- Names here (* for this crate alone):
--   AuditFault, first_other*, sources_of, cast_of, Known, knows, goes, goes_through, Audited, audited_in, audited
use Rattle.std.specs.Prelude.{ℕ, List, [], ◌∷◌, ◌++◌, find, Option, Some, None, Result, Ok, Err}
use Rattle.std.specs.List.{filter_map, enumerate_from}
use Rattle.byte_defs.specs.Fields.{◌>>=◌}
use Rattle.byte_defs.specs.Choices.{first_some}
use Rattle.message_defs.specs.Statements.{Claim}
use Rattle.group_defs.specs.Process.{Setting}
use Rattle.group_defs.specs.Family.{Family}
use Rattle.kit_defs.specs.Kits.{Kit}
use Rattle.audit_defs.specs.Sources.{Source, source_of, Step, Takes, Breaks, steps_of}
use Rattle.audit_defs.specs.Players.{Player, Taken, setting_of, is_missing, is_repeated, players_of, taking, family_of}

-- why journals are refused. Apart from want of memory the first of these is given, in order: Entry with place 0 of the first journal whose
-- header differs; Missing of the least process; Repeated of the least process; Entry of the first refused entry, by journal and place.
pub data AuditFault : Type 0 where
  -- no journal hosts the listed process
  Missing : (process : ℕ) → AuditFault
  -- two or more do
  Repeated : (process : ℕ) → AuditFault
  -- at place 0 the header differs; else what is at the gate is no entry, or not one of the process that it names
  Entry : (journal place : ℕ) → AuditFault

-- the index of the first journal whose header differs
abbrev pub first_other : Kit → List (List ℕ) → Option ℕ
first_other kit journals = first_some (λ j. elim (source_of kit j.1) [ None ↦ Some j.0 | Some source ↦ None ]) (enumerate_from 0 journals)

-- the journals, where all headers are the kit's
abbrev pub sources_of : Kit → List (List ℕ) → Result (List Source) AuditFault
sources_of kit journals = elim (first_other kit journals) [
  | Some j ↦ Err (Entry j 0)
  | None ↦ Ok (filter_map (source_of kit) journals)
]

-- the processes as they start, where each is hosted by exactly one journal
abbrev pub cast_of : Setting → List Source → List ℕ → Result (List Player) AuditFault
cast_of s sources listed = elim (find (is_missing sources) listed) [
  | Some p ↦ Err (Missing p)
  | None ↦ elim (find (is_repeated sources) listed) [ Some p ↦ Err (Repeated p) | None ↦ Ok (players_of s sources listed) ]
]

-- what is known of the processes, and the claims that came up so far: those that were handed to them, and their own
pub record Known : Type 0 where
  pub players : List Player
  pub claims : List Claim

-- an entry is taken in, or refused
abbrev pub knows : Known → ℕ → ℕ → Option Taken → Result Known AuditFault
knows k j place (Some t) = Ok (record { players = t.players; claims = k.claims ++ t.claims })
knows k j place None = Err (Entry j place)

-- one step
abbrev pub goes : Setting → Known → Step → Result Known AuditFault
goes s k (Takes j place e) = knows k j place (taking s j e k.players)
goes s k (Breaks j place) = Err (Entry j place)

-- step after step, to the first that is refused
unfoldable pub goes_through : Setting → Known → List Step → Result Known AuditFault
goes_through s k [] = Ok k
goes_through s k (step ∷ steps) = goes s k step >>= λ next. goes_through s next steps

-- what an audit finds out: the family that the listed processes' entries give, and the claims that were handed to them or are their own
pub record Audited : Type 0 where
  pub family : Family
  pub claims : List Claim

-- the listed processes, rising, are taken as correct, and all others as corrupt
unfoldable pub audited_in : Setting → List Source → List ℕ → Result Audited AuditFault
audited_in s sources listed = do
  players ← cast_of s sources listed
  known ← goes_through s (record { players = players; claims = [] }) (steps_of sources)
  Ok (record { family = family_of s known.players; claims = known.claims })

-- the same, of journals whose headers are to be the kit's
unfoldable pub audited : Kit → List ℕ → List (List ℕ) → Result Audited AuditFault
audited kit listed journals = sources_of kit journals >>= λ sources. audited_in (setting_of kit) sources listed
