-- Nodes that begin with a journal, or after a place of it.
use Rattle.std.specs.Prelude.{◌≡◌, ℕ, ◌==◌, List, [], ◌∷◌, length, Some, None, true, false, if◌then◌else◌, codes}
use Rattle.journal_defs.specs.Entries.{Entry, Event, Submit, Suspect, Tick}
use Rattle.node_defs.specs.Casts.{Cast, Beginning, from_start, entry_for, may_have_written}
use Rattle.node_defs.specs.Nodes.{Node, opens, opens_broken}
use Rattle.node_rows.specs.Outsides.{Outside, Seen, outside, drive, seen_of, toy}
use Rattle.group_defs.specs.Process.{start}

unfoldable pub c : Cast
c = toy 100

-- its signatures are not valid
unfoldable pub false_signer : Cast
false_signer = record (toy 100) { signer = λ p used body. 7 ∷ [] }

-- of the first process, at its start
abbrev pub entry : Cast → Event → Entry
entry c e = entry_for c (start c.setting 0 c.batch_limit) e

abbrev pub begun : Cast → Node → Seen
begun c n = seen_of (drive c 20 (n, outside []))

-- after seven entries of process 0 that are not read
abbrev pub behind : Beginning
behind = record { from = (from_start c).from; before = λ p. if p == 0 then 7 else 0; place = 66 }

-- the row: what the definitions give
pub record Begun : Type 0 where
  pub again : (begun c (opens c (from_start c) 0 (entry c (Submit (97 ∷ [])) ∷ []))).1
      ≡ codes "host 0 view 0 delivered 0 entries 1\nhost 1 view 0 delivered 0 entries 0\n"
  pub behind_refused : (begun c (opens c behind 0 [])).1
      ≡ codes "host 0 view 0 delivered 0 entries 7\nhost 1 view 0 delivered 0 entries 0\n"
  pub broken : (begun c (opens_broken c (from_start c) 0 [] 60)).1 ≡ codes "stop 8 journal 0 60\n"
  -- an entry with a signature too few, or of a process that is not hosted
  pub too_few : (begun c (opens c (from_start c) 0 (record (entry c (Submit (97 ∷ []))) { signatures = [] ∷ [] } ∷ []))).1
      ≡ codes "stop 8 journal 0 60\n"
  pub not_spent : (begun c (opens c (from_start c) 0 (record (entry c (Submit (97 ∷ []))) { spent = true } ∷ []))).1
      ≡ codes "stop 8 journal 0 60\n"
  pub stranger : (begun c (opens c (from_start c) 0 (record (entry c Tick) { process = 2 } ∷ []))).1 ≡ codes "stop 8 journal 0 60\n"
  -- a key whose signatures are not valid writes entries that are not taken up again
  pub invalid : (begun false_signer (opens false_signer (from_start false_signer) 0 (entry false_signer (Submit (97 ∷ [])) ∷ []))).1
      ≡ codes "stop 8 journal 0 60\n"
  -- an event that is refused signs nothing, so an entry of it fits
  pub refused_fits : (begun c (opens c (from_start c) 0 (record { process = 0; event = Suspect 9; spent = false; signatures = [] } ∷ []))).1
      ≡ codes "host 0 view 0 delivered 0 entries 1\nhost 1 view 0 delivered 0 entries 0\n"
