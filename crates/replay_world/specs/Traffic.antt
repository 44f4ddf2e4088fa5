-- What was sent, as the definitions have it.
use Rattle.std.specs.Prelude.{◌≡◌, ℕ, ◌≤◌, List, ◌++◌, length, map, fold, sum_by, Some}
use Rattle.std.specs.VecDeque.{deque_items}
use Rattle.byte_defs.specs.Members.{has}
use Rattle.replay_defs.specs.Worlds as plain
use Rattle.replay_defs.specs.Worlds.{most_sent, sum_above}
use Rattle.replay_cast.specs.Players.{process_of}
use Rattle.replay_cast.specs.declared.player.Player.{Player}
use Rattle.replay_world.specs.declared.traffic.Sent.{Sent}
use Rattle.replay_world.specs.declared.traffic.Delivery.{Delivery}
use Rattle.replay_world.specs.declared.traffic.Traffic.{Traffic}
use Rattle.replay_world.specs.declared.fault.WorldFault.{WorldFault}
use Rattle.replay_world.specs.declared.fault.WorldFault.TheVariants.{NoSuchFrame, TooMuchSent, NoMemory}

abbrev pub sent : Sent → plain.Sent
sent f = record { sender = f.sender; bytes = f.bytes }

-- the number of a frame and an addressee
abbrev pub delivery : Delivery → ℕ × ℕ
delivery d = (d.frame, d.to)

-- the frames, what waits of them, and the number of their bytes, which is within the limit
pub record Carries (t : Traffic) (v : plain.World) : Type 0 where
  pub frames : map sent t.frames.items ≡ v.frames
  pub pending : map delivery (deque_items t.pending) ≡ v.pending
  pub bytes : t.bytes ≡ sum_by (λ f. length f.bytes) v.frames
  pub within : t.bytes ≤ most_sent

-- the numbers of the players
abbrev pub numbers : plain.World → List ℕ
numbers v = map (λ c. c.listed.process) v.players

-- frames go out one after the other, each with those to whom it goes
abbrev pub sends_all : ℕ → List (List ℕ × List ℕ) → plain.World → plain.World
sends_all sender ds v = fold (λ w d. plain.send sender (has d.0) w d.1) v ds

-- memory ran out, or too much is sent in this world, and in each that sends more after it
abbrev pub IsTooMuch : WorldFault → plain.World → Type 0
IsTooMuch NoMemory v = Unit {0}
IsTooMuch (TooMuchSent event bytes) v = (event ≡ v.count) × ((more : List plain.Sent) → sum_above 0 (v.frames ++ more) ≡ Some bytes)
IsTooMuch (NoSuchFrame event frame sent) v = ⊥

-- where the old traffic is a world's, the new one is that of the changed world
abbrev pub Sends : List Player → Traffic → Traffic → (plain.World → plain.World) → Type 0
Sends players old new change = (v : plain.World) → Carries old v → map process_of players ≡ numbers v → Carries new (change v)

-- where the old traffic is that of a world in its event of this number, the changed world has sent too much
abbrev pub SendsTooMuch : List Player → ℕ → Traffic → (plain.World → plain.World) → WorldFault → Type 0
SendsTooMuch players event old change fault = (v : plain.World) → Carries old v → map process_of players ≡ numbers v → event ≡ v.count
    → IsTooMuch fault (change v)
