-- Who takes part in a run of a schedule.
use Rattle.std.specs.Prelude.{◌≡◌, List, [], ◌∷◌, ◌++◌, filter}
use Rattle.std.specs.List.{filter_map}
use Rattle.signature_defs.specs.Schemes.{is_valid}
use Rattle.sig_scheme.specs.Views.{scheme}
use Rattle.replay_defs.specs.Signers.{scheme_valid}
use Rattle.replay_defs.specs.Schedules.{Header, Listed}
use Rattle.replay_defs.specs.Worlds.{setting_of, begins}
use Rattle.replay_cast.specs.Players.{ArePlayers}
use Rattle.replay_cast.specs.Liars.{AreLiars}
use Rattle.replay_cast.specs.Keyed.{IsKeyed}
use Rattle.replay_cast.specs.declared.keyed.Keyed.{Keyed}
use Rattle.replay_cast.specs.declared.cast.Cast.{Cast}

-- nobody takes part yet
pub record IsEmpty (c : Cast) : Type 0 where
  pub players : c.players.items ≡ []
  pub liars : c.liars.items ≡ []

-- the processes that are listed in `ls` take part, each as it begins
pub record TakePart (h : Header) (ls : List Listed) (c : Cast) : Type 0 where
  pub players : ArePlayers (setting_of h) c.players.items (filter_map (begins h) ls)
  pub liars : AreLiars [] c.liars.items (filter (λ l. l.corrupt) ls)

-- the new cast is the old one with one process more, which has this signer
abbrev pub Adds : Header → Keyed → Cast → Cast → Type 0
Adds h k old new = (ls : List Listed) (l : Listed) → IsKeyed l k → TakePart h ls old → TakePart h (ls ++ l ∷ []) new

-- all processes of the header take part
abbrev pub AllTakePart : Header → Cast → Type 0
AllTakePart h c = TakePart h h.processes c

-- the processes of the header, as they begin
pub record IsCast (h : Header) (c : Cast) : Type 0 where
  pub group : c.group ≡ h.group
  pub scheme : scheme_valid h.scheme ≡ is_valid (scheme c.scheme)
  pub roster : c.roster ≡ (setting_of h).roster
  pub processes : TakePart h h.processes c
