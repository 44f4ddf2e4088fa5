-- The oldest delivery is taken out.
use Rattle.std.proofs.Common.{◌≡◌, ℕ, ◌∷◌, List, map, drop, Option, Some, None, sym, ap, subst, ◌∙◌}
use Rattle.std.specs.Prelude.{slice_get}
use Rattle.std.specs.VecDeque.{deque_items}
use Rattle.replay_defs.specs.Schedules.{Header}
use Rattle.replay_defs.specs.Worlds as plain
use Rattle.replay_defs.specs.Worlds.{setting_of}
use Rattle.replay_world.specs.declared.traffic.Delivery.{Delivery}
use Rattle.replay_world.specs.declared.world.World.{World}
use Rattle.replay_world.specs.declared.fault.WorldFault.{WorldFault}
use Rattle.trace_defs.specs.Happenings.{Happening}
use Rattle.happenings.specs.declared.reported.Reported.{Reported}
use Rattle.happenings.specs.Reported.{WasReported}
use Rattle.replay_world.specs.Telling.{ReportsOf, arrives_or_lost, oldest_tells}
use Rattle.replay_world.proofs.Saying.{oldest_reported}
use Rattle.replay_world.specs.Traffic.{delivery, IsTooMuch}
use Rattle.replay_world.specs.Worlds.{Shows, Becomes, Exceeds}
use Rattle.replay_world.specs.Steps.{arrives, oldest_arrives}

-- the others wait
abbrev pub others_of : plain.World → plain.World
others_of v = record v { pending = drop 1 v.pending }

pub popped_shows : (h : Header) (old mid : World) (v : plain.World) (d : Delivery) → Shows h old v
    → mid ≡ record old { traffic = record old.traffic { pending = mid.traffic.pending } }
    → deque_items old.traffic.pending ≡ d ∷ deque_items mid.traffic.pending → Shows h mid (others_of v)
popped_shows h old mid v d s is popped =
    let P : World → Type 0 = λ w. Shows h w (others_of v) in
    subst P (sym is) (record {
      rising = s.rising;
      group = s.group;
      roster = s.roster;
      scheme = s.scheme;
      players = s.players;
      listed = s.listed;
      ran = s.ran;
      liars = s.liars;
      traffic = record {
        frames = s.traffic.frames;
        pending = ap (drop 1) (sym (ap (map delivery) popped) ∙ s.traffic.pending);
        bytes = s.traffic.bytes;
        within = s.traffic.within;
      };
      handed = s.handed;
      refused = s.refused;
      spent = s.spent;
      count = s.count;
    })

oldest_is : (h : Header) (old mid : World) (v : plain.World) (d : Delivery) (mask : ℕ) → Shows h old v
    → deque_items old.traffic.pending ≡ d ∷ deque_items mid.traffic.pending
    → oldest_arrives (setting_of h) mask v ≡ arrives (setting_of h) mask (others_of v) (delivery d)
oldest_is h old mid v d mask s popped =
    let oldest : slice_get v.pending 0 ≡ Some (delivery d) = ap (λ ds. slice_get ds 0) (sym s.traffic.pending ∙ ap (map delivery) popped) in
    ap (λ r. elim r as (λ (x : Option (ℕ × ℕ)). plain.World) [ None ↦ v | Some e ↦ plain.next_delivery (setting_of h) mask v e ]) oldest

pub pops_on : (old mid new : World) (d : Delivery) (mask : ℕ)
    → mid ≡ record old { traffic = record old.traffic { pending = mid.traffic.pending } }
    → deque_items old.traffic.pending ≡ d ∷ deque_items mid.traffic.pending
    → Becomes (λ h v. arrives (setting_of h) mask v (delivery d)) mid new
    → Becomes (λ h v. oldest_arrives (setting_of h) mask v) old new
pops_on old mid new d mask is popped becomes = λ h v shows.
    let P : plain.World → Type 0 = λ w. Shows h new w in
    subst P (sym (oldest_is h old mid v d mask shows popped)) (becomes h (others_of v) (popped_shows h old mid v d shows is popped))

pub pops_exceed : (old mid : World) (d : Delivery) (mask : ℕ) (fault : WorldFault)
    → mid ≡ record old { traffic = record old.traffic { pending = mid.traffic.pending } }
    → deque_items old.traffic.pending ≡ d ∷ deque_items mid.traffic.pending
    → Exceeds (λ h v. arrives (setting_of h) mask v (delivery d)) mid fault
    → Exceeds (λ h v. oldest_arrives (setting_of h) mask v) old fault
pops_exceed old mid d mask fault is popped exceeds = λ h v shows.
    let P : plain.World → Type 0 = λ w. IsTooMuch fault w in
    subst P (sym (oldest_is h old mid v d mask shows popped)) (exceeds h (others_of v) (popped_shows h old mid v d shows is popped))

pub pops_tell : (old mid : World) (d : Delivery) (mask : ℕ) (before now : Reported)
    → mid ≡ record old { traffic = record old.traffic { pending = mid.traffic.pending } }
    → deque_items old.traffic.pending ≡ d ∷ deque_items mid.traffic.pending
    → ReportsOf (λ h v. arrives_or_lost (setting_of h) mask v (delivery d)) mid before now
    → ReportsOf (λ h v. oldest_tells (setting_of h) mask v) old before now
pops_tell old mid d mask before now is popped tells = λ h v shows.
    let P : List Happening → Type 0 = λ xs. WasReported before xs now in
    subst P (sym (oldest_reported h old mid v d mask shows popped)) (tells h (others_of v) (popped_shows h old mid v d shows is popped))
