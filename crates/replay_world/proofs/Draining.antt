-- Deliveries one after the other.
use Rattle.std.proofs.Common.{◌≡◌, ℕ, suc, Bool, true, false, List, [], ◌++◌, Option, Some, None, refl, sym, ap, subst, ◌∙◌, append_assoc, append-nil}
use Rattle.std.specs.Prelude.{is_some, slice_get}
use Rattle.replay_defs.specs.Schedules.{Header}
use Rattle.replay_defs.specs.Worlds as plain
use Rattle.replay_defs.specs.Worlds.{setting_of, drains}
use Rattle.trace_defs.specs.Happenings.{Happening}
use Rattle.reported_defs.specs.Reported.{drain_tells}
use Rattle.happenings.specs.declared.reported.Reported.{Reported}
use Rattle.happenings.specs.Reported.{WasReported}
use Rattle.replay_world.specs.Telling.{ReportsOf, oldest_tells}
use Rattle.replay_world.proofs.Saying.{none_reported, one_reported, tells_more, tells_nothing, zero_reported}
use Rattle.replay_world.specs.declared.world.World.{World}
use Rattle.replay_world.specs.declared.fault.WorldFault.{WorldFault}
use Rattle.replay_world.specs.Traffic.{IsTooMuch}
use Rattle.replay_world.specs.Worlds.{Shows, Becomes, Exceeds}
use Rattle.replay_world.specs.Steps.{oldest_arrives}
use Rattle.replay_world.proofs.Sends.{too_much_later}
use Rattle.replay_world.proofs.Happenings.{drains_one, drains_none, drains_zero, drains_extend}

-- from this world so many deliveries lead where all lead from the first one
pub record OnTheWay (mask all : ℕ) (left : ℕ) (now : World) (h : Header) (v : plain.World) : Type 0 where
  pub world : plain.World
  pub leads : drains (setting_of h) mask left world ≡ drains (setting_of h) mask all v
  pub shows : Shows h now world

-- for each world that the first one shows
abbrev pub DrainsOn : ℕ → ℕ → World → ℕ → World → Type 0
DrainsOn mask all first left now = (h : Header) (v : plain.World) → Shows h first v → OnTheWay mask all left now h v

-- before the first
pub drains_begin : (mask all : ℕ) (first : World) → DrainsOn mask all first all first
drains_begin mask all first = λ h v shows. record { world = v; leads = refl; shows = shows }

-- a delivery that waits is one of so many
one_waits : (h : Header) (mask left : ℕ) (v : plain.World) (r : Option (ℕ × ℕ)) → slice_get v.pending 0 ≡ r → is_some r ≡ true
    → drains (setting_of h) mask left (oldest_arrives (setting_of h) mask v) ≡ drains (setting_of h) mask (suc left) v
one_waits h mask left v None e waits = absurd cc
one_waits h mask left v (Some d) e waits = sym (drains_one (setting_of h) mask left v d e)

-- one delivery more
pub drains_on : (mask all left : ℕ) (first old new : World) → DrainsOn mask all first (suc left) old
    → Becomes (λ h v. oldest_arrives (setting_of h) mask v) old new
    → ((h : Header) (v : plain.World) → Shows h old v → true ≡ is_some (slice_get v.pending 0)) → DrainsOn mask all first left new
drains_on mask all left first old new on becomes waits = λ h v shows.
    let way = on h v shows in
    record {
      world = oldest_arrives (setting_of h) mask way.world;
      leads = one_waits h mask left way.world (slice_get way.world.pending 0) refl (sym (waits h way.world way.shows)) ∙ way.leads;
      shows = becomes h way.world way.shows;
    }

-- none is left to make
pub drains_done : (mask all : ℕ) (first now : World) → DrainsOn mask all first 0 now
    → Becomes (λ h v. drains (setting_of h) mask all v) first now
drains_done mask all first now on = λ h v shows.
    let way = on h v shows in
    let P : plain.World → Type 0 = λ w. Shows h now w in
    subst P (sym (drains_zero (setting_of h) mask way.world) ∙ way.leads) way.shows

none_waits : (h : Header) (mask left : ℕ) (v : plain.World) (r : Option (ℕ × ℕ)) → slice_get v.pending 0 ≡ r → is_some r ≡ false
    → drains (setting_of h) mask left v ≡ oldest_arrives (setting_of h) mask v
none_waits h mask left v None e none =
    drains_none (setting_of h) mask left v e
    ∙ sym (ap (λ r. elim r as (λ (x : Option (ℕ × ℕ)). plain.World) [ None ↦ v | Some d ↦ plain.next_delivery (setting_of h) mask v d ]) e)
none_waits h mask left v (Some d) e none = absurd cc

-- none waits any more
pub drains_out : (mask all left : ℕ) (first old new : World) → DrainsOn mask all first left old
    → Becomes (λ h v. oldest_arrives (setting_of h) mask v) old new
    → ((h : Header) (v : plain.World) → Shows h old v → false ≡ is_some (slice_get v.pending 0))
    → Becomes (λ h v. drains (setting_of h) mask all v) first new
drains_out mask all left first old new on becomes waits = λ h v shows.
    let way = on h v shows in
    let P : plain.World → Type 0 = λ w. Shows h new w in
    subst P (sym (none_waits h mask left way.world (slice_get way.world.pending 0) refl (sym (waits h way.world way.shows))) ∙ way.leads)
    (becomes h way.world way.shows)

-- too much at one delivery is too much of all
exceeds_at : (h : Header) (mask left : ℕ) (v : plain.World) (fault : WorldFault) (b : Bool) → is_some (slice_get v.pending 0) ≡ b
    → IsTooMuch fault (oldest_arrives (setting_of h) mask v)
    → IsTooMuch fault (drains (setting_of h) mask (suc left) v)
exceeds_at h mask left v fault true waits much =
    let P : plain.World → Type 0 = λ w. IsTooMuch fault w in
    let one = oldest_arrives (setting_of h) mask v in
    subst P (one_waits h mask left v (slice_get v.pending 0) refl waits)
    (too_much_later fault one (drains (setting_of h) mask left one) (drains_extend (setting_of h) mask left one) much)
exceeds_at h mask left v fault false waits much =
    let P : plain.World → Type 0 = λ w. IsTooMuch fault w in
    subst P (sym (none_waits h mask (suc left) v (slice_get v.pending 0) refl waits)) much

pub drains_exceed : (mask all left : ℕ) (first old : World) (fault : WorldFault) → DrainsOn mask all first (suc left) old
    → Exceeds (λ h v. oldest_arrives (setting_of h) mask v) old fault
    → Exceeds (λ h v. drains (setting_of h) mask all v) first fault
drains_exceed mask all left first old fault on exceeds = λ h v shows.
    let way = on h v shows in
    let P : plain.World → Type 0 = λ w. IsTooMuch fault w in
    subst P way.leads (exceeds_at h mask left way.world fault (is_some (slice_get way.world.pending 0)) refl
    (exceeds h way.world way.shows))

-- ---- what is told of deliveries

-- What is told so far, and of what is left, is what is told of all.
pub record ReportedOnTheWay (mask all : ℕ) (first_reported : Reported) (left : ℕ) (now : World) (reported : Reported) (h : Header)
    (v : plain.World) : Type 0 where
  pub world : plain.World
  pub shows : Shows h now world
  pub so_far : List Happening
  pub tells : WasReported first_reported so_far reported
  pub leads : so_far ++ drain_tells (setting_of h) mask left world ≡ drain_tells (setting_of h) mask all v

-- for each world that the first one shows
abbrev pub ReportedSoFar : ℕ → ℕ → World → Reported → ℕ → World → Reported → Type 0
ReportedSoFar mask all first first_reported left now reported = (h : Header) (v : plain.World) → Shows h first v
    → ReportedOnTheWay mask all first_reported left now reported h v

pub reported_begin : (mask all : ℕ) (first : World) (reported : Reported) → ReportedSoFar mask all first reported all first reported
reported_begin mask all first reported = λ h v shows. record { world = v; shows = shows; so_far = []; tells = tells_nothing reported; leads = refl }

-- one delivery more
pub reported_on : (mask all left : ℕ) (first old new : World) (first_reported reported new_reported : Reported)
    → ReportedSoFar mask all first first_reported (suc left) old reported
    → Becomes (λ h v. oldest_arrives (setting_of h) mask v) old new → ReportsOf (λ h v. oldest_tells (setting_of h) mask v) old reported new_reported
    → ((h : Header) (v : plain.World) → Shows h old v → true ≡ is_some (slice_get v.pending 0))
    → ReportedSoFar mask all first first_reported left new new_reported
reported_on mask all left first old new first_reported reported new_reported on becomes tells waits = λ h v shows.
    let way = on h v shows in
    let s = setting_of h in
    let one = oldest_tells s mask way.world in
    let rest = drain_tells s mask left (oldest_arrives s mask way.world) in
    record {
      world = oldest_arrives s mask way.world;
      shows = becomes h way.world way.shows;
      so_far = way.so_far ++ one;
      tells = tells_more first_reported reported new_reported way.so_far one way.tells (tells h way.world way.shows);
      leads = append_assoc way.so_far one rest
          ∙ ap (λ (xs : List Happening). way.so_far ++ xs)
          (sym (one_reported s mask left way.world (slice_get way.world.pending 0) refl (sym (waits h way.world way.shows))))
          ∙ way.leads;
    }

-- none is left to make
pub reported_done : (mask all : ℕ) (first now : World) (first_reported reported : Reported) → ReportedSoFar mask all first first_reported 0 now reported
    → ReportsOf (λ h v. drain_tells (setting_of h) mask all v) first first_reported reported
reported_done mask all first now first_reported reported on = λ h v shows.
    let way = on h v shows in
    let P : List Happening → Type 0 = λ xs. WasReported first_reported xs reported in
    subst P (sym (append-nil way.so_far) ∙ ap (λ (xs : List Happening). way.so_far ++ xs)
    (sym (zero_reported (setting_of h) mask way.world)) ∙ way.leads) way.tells

-- none waits any more
pub reported_out : (mask all left : ℕ) (first old : World) (first_reported reported new_reported : Reported) → ReportedSoFar mask all first first_reported left old reported
    → ReportsOf (λ h v. oldest_tells (setting_of h) mask v) old reported new_reported
    → ((h : Header) (v : plain.World) → Shows h old v → false ≡ is_some (slice_get v.pending 0))
    → ReportsOf (λ h v. drain_tells (setting_of h) mask all v) first first_reported new_reported
reported_out mask all left first old first_reported reported new_reported on tells waits = λ h v shows.
    let way = on h v shows in
    let one = oldest_tells (setting_of h) mask way.world in
    let P : List Happening → Type 0 = λ xs. WasReported first_reported xs new_reported in
    subst P (ap (λ (xs : List Happening). way.so_far ++ xs)
    (sym (none_reported (setting_of h) mask left way.world (slice_get way.world.pending 0) refl
    (sym (waits h way.world way.shows)))) ∙ way.leads)
    (tells_more first_reported reported new_reported way.so_far one way.tells (tells h way.world way.shows))
