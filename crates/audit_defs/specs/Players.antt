-- The processes that an audit takes as correct, and what becomes of each as the journals are read.
--
-- Each is hosted by exactly one journal. An entry of it there is a turn of it, with the entry's signatures; an entry of it in another
-- journal is refused; an entry of a process that is not listed is read and passed over.
-- Names here (* for this crate alone):
--   setting_of, Player
--   who hosts it: hosts_of, is_missing, is_repeated, player, player_by, players_of
--   a turn of an entry: event_of, turn_of, most_signatures, same_answer, is_written, IsWritten*, claims_of, with_turn, Taken, absorbed,
--     behind, taking
--   the family: correct_of, family_of, turns_from
use Rattle.std.specs.Prelude.{ℕ, ◌+◌, ◌==◌, ◌&&◌, not, nat_le, nat_lt, if◌then◌else◌, Bool, List, [], ◌∷◌, ◌++◌, length, map, filter, find, Option, Some, None, option_map, IsTrue}
use Rattle.std.specs.List.{list_all, enumerate_from, filter_map}
use Rattle.byte_defs.specs.Members.{has}
use Rattle.message_defs.specs.Statements.{Claim}
use Rattle.message_defs.specs.Claims.{frame_said}
use Rattle.group_defs.specs.Process.{Setting, Process, all_kinds, start}
use Rattle.group_defs.specs.Hearing.{is_valid}
use Rattle.group_defs.specs.Events as group
use Rattle.group_defs.specs.Events.{Turn, Outcome, outcome, after, journalled, Fits}
use Rattle.group_defs.specs.Family.{Correct, Family, claims_in}
use Rattle.signature_defs.specs.Schemes as schemes
use Rattle.kit_defs.specs.Kits.{Kit}
use Rattle.journal_defs.specs.Entries.{Event, Submit, Frame, Suspect, Join, Renew, Tick, Entry}
use Rattle.journal_defs.specs.Journals.{batch_limit}
use Rattle.audit_defs.specs.Sources.{Source}

-- what the processes of a kit share
abbrev pub setting_of : Kit → Setting
setting_of kit = record {
  group = kit.group;
  roster = kit.keys;
  genesis = record { number = 0; members = kit.genesis };
  valid = schemes.is_valid kit.scheme;
  signs = all_kinds;
}

-- a process that is taken as correct: the index of the journal that hosts it, its state now, and the turns that it has taken
pub record Player : Type 0 where
  pub me : ℕ
  pub batch_limit : ℕ
  pub journal : ℕ
  pub now : Process
  pub turns : List Turn

-- ---- who hosts it

-- the journals that host the process, with their indices
abbrev pub hosts_of : List Source → ℕ → List (ℕ × Source)
hosts_of sources p = filter (λ s. has s.1.hosted p) (enumerate_from 0 sources)

-- no journal hosts it
abbrev pub is_missing : List Source → ℕ → Bool
is_missing sources p = length (hosts_of sources p) == 0

-- two or more do
abbrev pub is_repeated : List Source → ℕ → Bool
is_repeated sources p = nat_lt 1 (length (hosts_of sources p))

-- the process as it starts, hosted by this journal
abbrev pub player : Setting → ℕ → ℕ × Source → Player
player s p host =
    let limit : ℕ = batch_limit host.1.version in
    record { me = p; batch_limit = limit; journal = host.0; now = start s p limit; turns = [] }

-- the process as it starts, where some journal hosts it
abbrev pub player_by : Setting → List Source → ℕ → Option Player
player_by s sources p = option_map (player s p) (find (λ host. has host.1.hosted p) (enumerate_from 0 sources))

-- all that are listed
abbrev pub players_of : Setting → List Source → List ℕ → List Player
players_of s sources listed = filter_map (player_by s sources) listed

-- ---- a turn of an entry

-- the event of an entry, with what its bytes say
abbrev pub event_of : Event → group.Event
event_of (Submit payload) = group.Submit payload
event_of (Frame from bytes) = group.Hand from (frame_said bytes)
event_of (Suspect q) = group.Suspect q
event_of (Join q) = group.Join q
event_of Renew = group.RenewView
event_of Tick = group.Tick

-- the entry as a turn of the process
abbrev pub turn_of : Process → Entry → Turn
turn_of p e = journalled p (event_of e.event) e.signatures

-- how many signatures a process makes at most
unfoldable pub most_signatures : ℕ
most_signatures = 4294967295

-- the two say the same
abbrev pub same_answer : Bool → Bool → Bool
same_answer a b = if a then b else not b

-- The process may have written the entry: it signs as many statements as that has signatures, and lacks a further one exactly where that
-- says so; each of the signatures is valid for its statement; and the process makes no more of them than there are.
abbrev pub is_written : Setting → Process → Entry → Bool
is_written s p e =
    let o : Outcome = outcome s p (turn_of p e) in
    (length o.signed == length e.signatures) && same_answer o.spent e.spent && list_all (is_valid s) o.signed
    && nat_le (length p.signed + length e.signatures) most_signatures

-- the same, as a relation
abbrev pub IsWritten : Setting → Process → Entry → Type 0
IsWritten s p e =
    Fits s p (event_of e.event) e.signatures e.spent × IsTrue (list_all (is_valid s) (outcome s p (turn_of p e)).signed)
    × IsTrue (nat_le (length p.signed + length e.signatures) most_signatures)

-- the claims that an entry brings: those that were handed over with it, and then those that the process signed
abbrev pub claims_of : Setting → Process → Turn → List Claim
claims_of s p t = claims_in t.event ++ (outcome s p t).signed

-- the process after a turn
abbrev pub with_turn : Setting → Player → Turn → Player
with_turn s c t = record {
  me = c.me;
  batch_limit = c.batch_limit;
  journal = c.journal;
  now = after s c.now t;
  turns = c.turns ++ t ∷ [];
}

-- what an entry makes of the processes, and the claims that it brings
pub record Taken : Type 0 where
  pub players : List Player
  pub claims : List Claim

-- the process takes the entry of the journal of this index, before these others; none where it is refused
abbrev pub absorbed : Setting → ℕ → Entry → Player → List Player → Option Taken
absorbed s j e c others =
    if (c.journal == j) && is_written s c.now e
    then Some (record { players = with_turn s c (turn_of c.now e) ∷ others; claims = claims_of s c.now (turn_of c.now e) }) else None

-- the same, after a process that is not the entry's
abbrev pub behind : Player → Taken → Taken
behind c t = record { players = c ∷ t.players; claims = t.claims }

-- one of the processes takes the entry, or none where it is of none of them
unfoldable pub taking : Setting → ℕ → Entry → List Player → Option Taken
taking s j e [] = Some (record { players = []; claims = [] })
taking s j e (c ∷ cs) = if c.me == e.process then absorbed s j e c cs else option_map (behind c) (taking s j e cs)

-- ---- the family

-- the process, as one of a family
abbrev pub correct_of : Player → Correct
correct_of c = record { me = c.me; batch_limit = c.batch_limit; turns = c.turns }

-- the family that they are
abbrev pub family_of : Setting → List Player → Family
family_of s cs = record { setting = s; correct = map correct_of cs }

-- the turns of a process with these entries
unfoldable pub turns_from : Setting → Process → List Entry → List Turn
turns_from s p [] = []
turns_from s p (e ∷ es) = turn_of p e ∷ turns_from s (after s p (turn_of p e)) es
