-- What a guard says and sends when it is to accuse; and a correct process whose key others use, which is expelled: so Honest can't be dropped.
use Rattle.std.specs.Prelude.{◌≡◌, ℕ, true, false, List, [], ◌∷◌, Some, None, codes, flat_map}
use Rattle.message_defs.specs.Statements.{Echo}
use Rattle.message_defs.specs.Claims.{Claims}
use Rattle.group_defs.specs.Process.{Process, start}
use Rattle.group_defs.specs.Events.{Event, Hand}
use Rattle.group_defs.specs.Accounts.{bounded}
use Rattle.group_defs.specs.Family.{Family, accounts, numbers, honest}
use Rattle.guard_defs.specs.Guarding.{family_of, given_run}
use Rattle.node_defs.specs.Lines.{expel_line}
use Rattle.guard_defs.specs.Lines.{accused_by, accuse_line, accusation}
use Rattle.guard_rows.specs.Scripts.{s, by, msg, given, frames_sent, expels_in}

-- a frame of two claims of 3 that conflict
unfoldable pub two_echoes : List Event
two_echoes = Hand 3 (Claims (by 3 (Echo 0 (msg 3 0) (97 ∷ [])) ∷ by 3 (Echo 0 (msg 3 0) (98 ∷ [])) ∷ [])) ∷ []

-- the guard of this number after these events
abbrev pub behind : ℕ → List Event → Process
behind me es = given_run s (start s me 16) (given s me es)

-- four guards, all correct: 3 has signed nothing, and 0 is handed the frame
unfoldable pub all : Family
all = family_of s (record { me = 0; batch_limit = 16; given = given s 0 two_echoes } ∷ record { me = 1; batch_limit = 16; given = [] }
    ∷ record { me = 2; batch_limit = 16; given = [] } ∷ record { me = 3; batch_limit = 16; given = [] } ∷ [])

-- the row: what the definitions give
pub record Accusing : Type 0 where
  pub expel : expel_line 0 3 ≡ codes "expel 0 3\n"
  pub accuse : accuse_line (behind 0 two_echoes) 3 ≡ codes "accuse 0 3\n"
  -- the two claims as they were heard, to the other members
  pub sent : flat_map frames_sent (accusation (behind 0 two_echoes) 3) ≡ ((1 ∷ 2 ∷ 3 ∷ []), (1 ∷ 1 ∷ 2 ∷ 0 ∷ 9 ∷ 2 ∷ 0 ∷ 0 ∷ 3 ∷ 0 ∷ 0 ∷ 0 ∷ 1 ∷ 97 ∷ 1 ∷ 3 ∷ 0 ∷ 0 ∷ 0 ∷ 9 ∷ 2 ∷ 0 ∷ 0 ∷ 3 ∷ 0 ∷ 0 ∷ 0 ∷ 1 ∷ 98 ∷ 1 ∷ 3 ∷ 0 ∷ 0 ∷ [])) ∷ []
  pub accuse_none : accuse_line (behind 2 []) 3 ≡ codes "accuse 2 none\n"
  pub none_sent : flat_map frames_sent (accusation (behind 2 []) 3) ≡ []
  -- one that is no member accuses to all members
  pub accuse_outside : accuse_line (behind 4 two_echoes) 3 ≡ codes "accuse 4 3\n"
  pub sent_outside : flat_map frames_sent (accusation (behind 4 two_echoes) 3) ≡ ((0 ∷ 1 ∷ 2 ∷ 3 ∷ []), (1 ∷ 1 ∷ 2 ∷ 0 ∷ 9 ∷ 2 ∷ 0 ∷ 0 ∷ 3 ∷ 0 ∷ 0 ∷ 0 ∷ 1 ∷ 97 ∷ 1 ∷ 3 ∷ 0 ∷ 0 ∷ 0 ∷ 9 ∷ 2 ∷ 0 ∷ 0 ∷ 3 ∷ 0 ∷ 0 ∷ 0 ∷ 1 ∷ 98 ∷ 1 ∷ 3 ∷ 0 ∷ 0 ∷ [])) ∷ []
  pub word : accused_by (codes "accuse" ∷ codes "3" ∷ []) ≡ Some 3
  pub word_beyond : accused_by (codes "accuse" ∷ codes "64" ∷ []) ≡ None
  pub word_zero : accused_by (codes "accuse" ∷ codes "03" ∷ []) ≡ None
  pub word_more : accused_by (codes "accuse" ∷ codes "3" ∷ codes "3" ∷ []) ≡ None
  pub word_other : accused_by (codes "expel" ∷ codes "3" ∷ []) ≡ None
  -- the claims are valid and not 3's own word
  pub judged : honest all ∷ bounded (accounts all) (numbers all) ∷ [] ≡ false ∷ true ∷ []
  pub expelled : expels_in s 0 two_echoes ≡ 3 ∷ []
