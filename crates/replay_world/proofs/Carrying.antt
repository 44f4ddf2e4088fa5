-- Traffic that carries the frames of a world, after a frame more.
use Rattle.std.proofs.Common.{◌≡◌, ℕ, ◌+◌, ◌<◌, ◌≤◌, Bool, true, false, cond, if◌then◌else◌, List, [], ◌∷◌, ◌++◌, length, get_or, drop, map, Some, refl, sym, ap, subst, ◌∙◌, arith, append-nil, append_assoc}
use Rattle.std.proofs.lemmas.List.{length-map}
use Rattle.std.specs.Prelude.{filter}
use Rattle.std.specs.VecDeque.{deque_items}
use Rattle.std.proofs.lemmas.List.{map_push, drop_more, drop_all}
use Rattle.std.proofs.lemmas.List.Elements.{filter-append}
use Rattle.byte_defs.specs.Members.{has}
use Rattle.replay_defs.specs.Worlds as plain
use Rattle.replay_defs.specs.Worlds.{most_sent, sum_above}
use Rattle.replay_cast.specs.Players.{process_of}
use Rattle.replay_cast.specs.declared.player.Player.{Player}
use Rattle.replay_world.specs.declared.traffic.Sent.{Sent}
use Rattle.replay_world.specs.declared.traffic.Traffic.{Traffic}
use Rattle.replay_world.specs.declared.fault.WorldFault.{WorldFault}
use Rattle.replay_world.specs.declared.fault.WorldFault.TheVariants.{TooMuchSent}
use Rattle.replay_world.specs.Traffic.{Carries, sent, delivery, numbers, sends_all, IsTooMuch}
use Rattle.replay_world.specs.Handing.{handed_frames}
use Rattle.replay_world.proofs.Sums.{bytes_of, bytes_more, sum_passes}
use Rattle.replay_world.proofs.Sends.{Outgoing, sends_extend, too_much_later}

-- ---- those who are addressed

-- the first of them, or not
abbrev pub waits_for : ℕ → List ℕ → List ℕ → List (ℕ × ℕ)
waits_for frame to ps = map (λ p. (frame, p)) (filter (has to) ps)

pub waits_first : (frame p : ℕ) (to ps : List ℕ) (b : Bool) → has to p ≡ b
    → waits_for frame to (p ∷ ps) ≡ cond b ((frame, p) ∷ waits_for frame to ps) (waits_for frame to ps)
waits_first frame p to ps true e = ap (λ b. map (λ q. (frame, q)) (cond b (p ∷ filter (has to) ps) (filter (has to) ps))) e
waits_first frame p to ps false e = ap (λ b. map (λ q. (frame, q)) (cond b (p ∷ filter (has to) ps) (filter (has to) ps))) e

-- one of them, and those behind it
waits_one : (frame p : ℕ) (to ps : List ℕ) (before : List (ℕ × ℕ)) (b : Bool) → has to p ≡ b
    → (before ++ cond (has to p) ((frame, p) ∷ []) []) ++ waits_for frame to ps ≡ before ++ waits_for frame to (p ∷ ps)
waits_one frame p to ps before true e =
    ap (λ b. (before ++ cond b ((frame, p) ∷ []) []) ++ waits_for frame to ps) e
    ∙ (append_assoc before ((frame, p) ∷ []) (waits_for frame to ps) ∙ ap (λ ds. before ++ ds) (sym (waits_first frame p to ps true e)))
waits_one frame p to ps before false e =
    ap (λ b. (before ++ cond b ((frame, p) ∷ []) []) ++ waits_for frame to ps) e
    ∙ (ap (λ ds. ds ++ waits_for frame to ps) (append-nil before) ∙ ap (λ ds. before ++ ds) (sym (waits_first frame p to ps false e)))

-- the player at a place, and those behind it
pub waits_next : (frame : ℕ) (to : List ℕ) (ps : List Player) (i : ℕ) (p : Player) (before after all : List (ℕ × ℕ)) → i < length ps
    → p ≡ get_or ps i p
    → before ++ waits_for frame to (map process_of (drop i ps)) ≡ all
    → after ≡ before ++ (if has to p.process then (frame, p.process) ∷ [] else [])
    → after ++ waits_for frame to (map process_of (drop (i + 1) ps)) ≡ all
waits_next frame to ps i p before after all low at so_far more =
    let first : drop i ps ≡ p ∷ drop (i + 1) ps = drop_more ps i p low ∙ ap (λ (x : Player). x ∷ drop (i + 1) ps) (sym at) in
    ap (λ ds. ds ++ waits_for frame to (map process_of (drop (i + 1) ps))) more
    ∙ (waits_one frame p.process to (map process_of (drop (i + 1) ps)) before (has to p.process) refl
    ∙ (ap (λ xs. before ++ waits_for frame to (map process_of xs)) (sym first) ∙ so_far))

-- none is left
pub waits_done : (frame : ℕ) (to : List ℕ) (ps : List Player) (i : ℕ) (before all : List (ℕ × ℕ)) → length ps ≤ i
    → before ++ waits_for frame to (map process_of (drop i ps)) ≡ all → before ≡ all
waits_done frame to ps i before all past so_far =
    sym (append-nil before) ∙ (ap (λ xs. before ++ waits_for frame to (map process_of xs)) (sym (drop_all i ps past)) ∙ so_far)

-- ---- a frame more

pub send_carries : (players : List Player) (old new : Traffic) (v : plain.World) (sender : ℕ) (to bytes : List ℕ) (f : Sent) → Carries old v
    → map process_of players ≡ numbers v
    → f.sender ≡ sender → f.bytes ≡ bytes → new.frames.items ≡ old.frames.items ++ f ∷ []
    → map delivery (deque_items new.pending) ≡ map delivery (deque_items old.pending)
    ++ waits_for (length old.frames.items) to (map process_of players)
    → new.bytes ≡ old.bytes + length bytes → new.bytes ≤ most_sent
    → Carries new (plain.send sender (has to) v bytes)
send_carries players old new v sender to bytes f carried same by spelled frames pending sum within = record {
  frames = ap (map sent) frames ∙
      (map_push sent old.frames.items f ∙
      (ap (λ fs. fs ++ sent f ∷ []) carried.frames ∙ (λ i. v.frames ++ record { sender = by i; bytes = spelled i } ∷ [])));
  pending = pending ∙ (ap (λ ds. ds ++ waits_for (length old.frames.items) to (map process_of players)) carried.pending
      ∙ (ap (λ n. v.pending ++ waits_for n to (map process_of players)) (sym (length-map old.frames.items sent) ∙ ap length carried.frames)
      ∙ ap (λ ps. v.pending ++ waits_for (length v.frames) to ps) same));
  bytes = sum ∙ (ap (λ n. n + length bytes) carried.bytes ∙ sym (bytes_more v.frames (record { sender = sender; bytes = bytes })));
  within = within;
}

-- too much
pub send_exceeds : (old : Traffic) (v : plain.World) (sender event total : ℕ) (to bytes : List ℕ) → Carries old v → event ≡ v.count
    → total ≡ old.bytes + length bytes → most_sent < total
    → IsTooMuch (TooMuchSent event total) (plain.send sender (has to) v bytes)
send_exceeds old v sender event total to bytes carried at is over = (
  at,
  λ more.
      let f : plain.Sent = record { sender = sender; bytes = bytes } in
      let passes : sum_above 0 (v.frames ++ f ∷ more) ≡ Some (0 + bytes_of v.frames + length bytes) =
      sum_passes 0 v.frames f more (omega (arith, carried.bytes, carried.within)) (omega (arith, carried.bytes, is, over)) in
      let same : 0 + bytes_of v.frames + length bytes ≡ total = omega (arith, carried.bytes, is) in
      ap (sum_above 0) (append_assoc v.frames (f ∷ []) more) ∙ (passes ∙ ap Some same),
)

-- a frame that nobody took yet
pub handed_push : (fs : List Sent) (f : Sent) → f.handed ≡ false → handed_frames (fs ++ f ∷ []) ≡ handed_frames fs
handed_push fs f untaken =
    ap (map (λ (g : Sent). g.bytes)) (filter-append (λ (g : Sent). g.handed) fs (f ∷ []))
    ∙ (ap (λ b. map (λ (g : Sent). g.bytes) (filter (λ (g : Sent). g.handed) fs ++ cond b (f ∷ []) [])) untaken
    ∙ ap (map (λ (g : Sent). g.bytes)) (append-nil (filter (λ (g : Sent). g.handed) fs)))

-- ---- frame after frame

-- the traffic of a world from which these frames lead where all lead from v
pub record Underway (players : List Player) (sender : ℕ) (all left : Outgoing) (now : Traffic) (v : plain.World) : Type 0 where
  pub world : plain.World
  pub leads : sends_all sender left world ≡ sends_all sender all v
  pub carried : Carries now world
  pub same : map process_of players ≡ numbers world
  pub count : world.count ≡ v.count

abbrev pub SendsOn : List Player → ℕ → Outgoing → Traffic → Outgoing → Traffic → Type 0
SendsOn players sender all first left now = (v : plain.World) → Carries first v → map process_of players ≡ numbers v
    → Underway players sender all left now v

pub sends_begin : (players : List Player) (sender : ℕ) (all : Outgoing) (first : Traffic) → SendsOn players sender all first all first
sends_begin players sender all first = λ v carried same. record { world = v; leads = refl; carried = carried; same = same; count = refl }

pub sends_on : (players : List Player) (sender : ℕ) (all : Outgoing) (d : List ℕ × List ℕ) (left : Outgoing) (first old new : Traffic)
    → SendsOn players sender all first (d ∷ left) old
    → ((v : plain.World) → Carries old v → map process_of players ≡ numbers v → Carries new (plain.send sender (has d.0) v d.1))
    → SendsOn players sender all first left new
sends_on players sender all d left first old new on sends = λ v carried same.
    let way = on v carried same in
    record {
      world = plain.send sender (has d.0) way.world d.1;
      leads = way.leads;
      carried = sends way.world way.carried way.same;
      same = way.same;
      count = way.count;
    }

pub sends_done : (players : List Player) (sender : ℕ) (all : Outgoing) (first now : Traffic) → SendsOn players sender all first [] now
    → (v : plain.World) → Carries first v → map process_of players ≡ numbers v → Carries now (sends_all sender all v)
sends_done players sender all first now on v carried same =
    let way = on v carried same in
    let P : plain.World → Type 0 = λ w. Carries now w in
    subst P way.leads way.carried

-- too much at one frame is too much of all
pub sends_exceed : (players : List Player) (sender event : ℕ) (all : Outgoing) (d : List ℕ × List ℕ) (left : Outgoing) (first old : Traffic)
    (fault : WorldFault) → SendsOn players sender all first (d ∷ left) old
    → ((v : plain.World) → Carries old v → map process_of players ≡ numbers v → event ≡ v.count
    → IsTooMuch fault (plain.send sender (has d.0) v d.1))
    → (v : plain.World) → Carries first v → map process_of players ≡ numbers v → event ≡ v.count → IsTooMuch fault (sends_all sender all v)
sends_exceed players sender event all d left first old fault on exceeds v carried same at =
    let way = on v carried same in
    let one : plain.World = plain.send sender (has d.0) way.world d.1 in
    let P : plain.World → Type 0 = λ w. IsTooMuch fault w in
    subst P way.leads (too_much_later fault one (sends_all sender left one) (sends_extend sender left one)
    (exceeds way.world way.carried way.same (at ∙ sym way.count)))
