-- Which world of the definitions a world of the code is.
-- Names here (* for this crate alone):
--   who takes part: IsRun
--   the world: count_of, handed_bytes*, Shows
--   what changes a world: Becomes*, Exceeds*, Happens, IsFault, Stops, HappensYet*
--   a whole schedule: players_of*, refused_of*, spent_of*, frames_of, raws_of, group_of*, roster_of*, scheme_of*, IsWorldOf, IsEarlyEnd*
use Rattle.std.specs.Prelude.{◌≡◌, ℕ, not, List, ◌++◌, map, filter, Result, Ok, Err}
use Rattle.std.specs.List.{AllByRecursion}
use Rattle.signature_defs.specs.Schemes.{is_valid}
use Rattle.group_defs.specs.Process.{start}
use Rattle.group_defs.specs.Events.{run}
use Rattle.replay_defs.specs.Signers.{scheme_valid}
use Rattle.replay_cast.specs.declared.player.Player.{Player}
use Rattle.replay_world.specs.declared.world.Refused.{Refused}
use Rattle.replay_defs.specs.Schedules.{Header, Schedule, ScheduleEvent, AreListed, IsEvent}
use Rattle.replay_defs.specs.Worlds as plain
use Rattle.replay_defs.specs.Worlds.{setting_of, happens, after_event, world_of}
use Rattle.sig_scheme.specs.Views.{scheme}
use Rattle.replay_cast.specs.Players.{ArePlayers}
use Rattle.replay_world.specs.Traffic.{Carries, IsTooMuch}
use Rattle.replay_world.specs.Handing.{handed_frames, AreHanded}
use Rattle.replay_world.specs.Stepping.{refused}
use Rattle.replay_cast.specs.Liars.{AreLiars}
use Rattle.sig_scheme.specs.declared.any_scheme.AnyScheme.{AnyScheme}
use Rattle.replay_world.specs.declared.traffic.Sent.{Sent}
use Rattle.replay_world.specs.declared.world.World.{World}
use Rattle.replay_world.specs.declared.fault.WorldFault.{WorldFault}
use Rattle.replay_world.specs.declared.fault.WorldFault.TheVariants.{NoSuchFrame, TooMuchSent, NoMemory}

-- ---- who takes part

-- the player is what its turns make of the process that it began as
abbrev pub IsRun : Header → plain.Player → Type 0
IsRun h c = c.now ≡ run (setting_of h) (start (setting_of h) c.listed.process h.batch_limit) c.turns

-- ---- the world

-- how many events there were
abbrev pub count_of : World → ℕ
count_of w = w.count

-- the bytes that correct processes took as frames
abbrev pub handed_bytes : World → List (List ℕ)
handed_bytes w = handed_frames w.traffic.frames.items ++ w.raws.items

-- the world is this one of the definitions, in which the processes of this header take part
pub record Shows (h : Header) (w : World) (v : plain.World) : Type 0 where
  pub rising : AreListed h.scheme 0 h.processes
  pub group : w.group ≡ h.group
  pub roster : w.roster ≡ (setting_of h).roster
  pub scheme : scheme_valid h.scheme ≡ is_valid (scheme w.scheme)
  pub players : ArePlayers (setting_of h) w.players.items v.players
  pub listed : map (λ c. c.listed) v.players ≡ filter (λ l. not l.corrupt) h.processes
  pub ran : AllByRecursion (IsRun h) v.players
  pub liars : AreLiars v.frames w.liars.items (filter (λ l. l.corrupt) h.processes)
  pub traffic : Carries w.traffic v
  pub handed : AreHanded (handed_bytes w) h v
  pub refused : map refused w.refused.items ≡ v.refused
  pub spent : w.spent.items ≡ v.spent
  pub count : w.count ≡ v.count

-- ---- what changes a world

-- where the old world shows one of the definitions, the new one shows what the change makes of that
abbrev pub Becomes : (Header → plain.World → plain.World) → World → World → Type 0
Becomes change old new = (h : Header) (v : plain.World) → Shows h old v → Shows h new (change h v)

-- what the change makes of a world that the old one shows has sent too much
abbrev pub Exceeds : (Header → plain.World → plain.World) → World → WorldFault → Type 0
Exceeds change old fault = (h : Header) (v : plain.World) → Shows h old v → IsTooMuch fault (change h v)

-- what the event makes of a world that the old one shows, the new one shows
abbrev pub Happens : World → World → ScheduleEvent → Type 0
Happens old new e = (h : Header) (v : plain.World) → Shows h old v → IsEvent h.processes e
    → (x : plain.World) × (after_event h v e ≡ Ok x) × Shows h new x

-- why the definitions' world stops, where it is no want of memory
abbrev pub IsFault : WorldFault → Result plain.World plain.WorldFault → Type 0
IsFault NoMemory r = Unit {0}
IsFault (NoSuchFrame event frame sent) r = r ≡ Err (plain.NoSuchFrame event frame sent)
IsFault (TooMuchSent event bytes) r = r ≡ Err (plain.TooMuchSent event bytes)

-- the event stops a world that the old one shows, with this fault
abbrev pub Stops : World → ScheduleEvent → WorldFault → Type 0
Stops old e fault = (h : Header) (v : plain.World) → Shows h old v → IsEvent h.processes e → IsFault fault (after_event h v e)

-- what the event makes of a world that the old one shows, before the event is counted, the new one shows
abbrev pub HappensYet : World → World → ScheduleEvent → Type 0
HappensYet old new e = (h : Header) (v : plain.World) → Shows h old v → IsEvent h.processes e
    → (x : plain.World) × (happens h v e ≡ Ok x) × Shows h new x

-- ---- a whole schedule

abbrev pub players_of : World → List Player
players_of w = w.players.items

abbrev pub refused_of : World → List Refused
refused_of w = w.refused.items

abbrev pub spent_of : World → List ℕ
spent_of w = w.spent.items

-- the frames that were sent, by their numbers
abbrev pub frames_of : World → List Sent
frames_of w = w.traffic.frames.items

-- the bytes that were handed over as frames, and that no process sent
abbrev pub raws_of : World → List (List ℕ)
raws_of w = w.raws.items

-- the name of the group, the public keys of all its processes, and its scheme: what the processes share
abbrev pub group_of : World → List ℕ
group_of w = w.group

abbrev pub roster_of : World → List (ℕ × List ℕ)
roster_of w = w.roster

abbrev pub scheme_of : World → AnyScheme
scheme_of w = w.scheme

-- the world is the schedule's at its end
pub record IsWorldOf (sch : Schedule) (w : World) : Type 0 where
  pub world : plain.World
  pub is : world_of sch ≡ Ok world
  pub shows : Shows sch.header w world

-- the schedule's world stops with this fault
abbrev pub IsEarlyEnd : Schedule → WorldFault → Type 0
IsEarlyEnd sch NoMemory = Unit {0}
IsEarlyEnd sch (NoSuchFrame event frame sent) = world_of sch ≡ Err (plain.NoSuchFrame event frame sent)
IsEarlyEnd sch (TooMuchSent event bytes) = world_of sch ≡ Err (plain.TooMuchSent event bytes)
