-- What each change of a world refuses, and what is told of it.
use Rattle.std.proofs.Common.{◌≡◌, ℕ, zero, suc, ◌+◌, ◌==◌, nat_lt, Bool, true, false, cond, List, [], ◌∷◌, ◌++◌, length, map, drop, Option, Some, None, Ok, Err, refl, sym, ap, subst, ◌∙◌, append_assoc}
use Rattle.std.specs.Prelude.{Result, if◌then◌else◌, fold, find, slice_get}
use Rattle.std.specs.List.{flat_map}
use Rattle.std.proofs.lemmas.Bool.{eqb-true}
use Rattle.std.proofs.lemmas.List.{append-nil}
use Rattle.std.proofs.lemmas.Grind.{flat_map-append}
use Rattle.byte_defs.specs.Fields.{◌>>=◌}
use Rattle.byte_defs.specs.Members.{has}
use Rattle.message_defs.specs.Statements.{Statement}
use Rattle.message_defs.specs.Reading.{statement_of}
use Rattle.message_defs.specs.declared.FrameFault.{FrameFault}
use Rattle.group_defs.specs.Process.{Setting}
use Rattle.group_defs.specs.Sending.{Sending, Bundle, frames_of}
use Rattle.group_defs.specs.Events as group
use Rattle.group_defs.specs.Events.{EventFault, Turn, Outcome, outcome}
use Rattle.replay_defs.specs.Signers.{key_total}
use Rattle.replay_defs.specs.Schedules.{Listed, ScheduleEvent, Submit, Raw, Pass, Drain, Lie, Suspect, Join, Renew, Tick, Header}
use Rattle.replay_defs.specs.Worlds.{World, WorldFault, NoSuchFrame, TooMuchSent, Player, takes, hands_frame, Sent, Refused, setting_of, send, send_all, turn_of, turns_out, refused_if, steps, hands, delivers, next_delivery, drains, is_in, lies_of, lie_claim, sends_lie, lies, happens, counts, after_event, run_events, sum_above, player_of}
use Rattle.trace_defs.specs.Happenings.{Handed, Payload, Bytes, Suspects, Joins, Renews, Ticks, Happening, Takes, Loses, Lies, Silent, Frame}
use Rattle.trace_defs.specs.Outcomes.{seen}
use Rattle.rp_base.specs.Pids.{members}
use Rattle.message_defs.specs.Claims.{frame_said}
use Rattle.reported_defs.specs.Reported.{takes_in, gets_frame, loses, next_tells, drain_tells, lie_tells, liar_tells, tells}
use Rattle.reported_laws.specs.Refusals.{refusal_reported, refusals_in, event_refusals, run_refusals}

-- ---- sending refuses nothing

-- the new world refuses what the old one refused, in the same event
pub record Keeps (v w : World) : Type 0 where
  pub refused : w.refused ≡ v.refused
  pub count : w.count ≡ v.count

keeps-trans : (u v w : World) → Keeps u v → Keeps v w → Keeps u w
keeps-trans u v w a b = record { refused = b.refused ∙ a.refused; count = b.count ∙ a.count }

sends_keep : (p : ℕ) (to : ℕ → Bool) (frames : List (List ℕ)) (w : World) → Keeps w (fold (send p to) w frames)
sends_keep p to [] w = record { refused = refl; count = refl }
sends_keep p to (b ∷ bs) w =
    let rest = sends_keep p to bs (send p to w b) in
    record { refused = rest.refused; count = rest.count }

all_keep : (p : ℕ) (outs : List Sending) (w : World) → Keeps w (fold (send_all p) w outs)
all_keep p [] w = record { refused = refl; count = refl }
all_keep p (o ∷ os) w = keeps-trans w (send_all p w o) (fold (send_all p) (send_all p w o) os)
    (sends_keep p (has o.to) (frames_of o.parcel) w) (all_keep p os (send_all p w o))

-- ---- a change of a world, and what is told of it

-- the new world refuses what is told beside what the old one refused, in the same event
pub record HasReported (v w : World) (reported : List Happening) : Type 0 where
  pub refused : w.refused ≡ v.refused ++ flat_map (refusals_in v.count) reported
  pub count : w.count ≡ v.count

silent : (v w : World) → Keeps v w → HasReported v w []
silent v w k = record { refused = k.refused ∙ sym (append-nil v.refused); count = k.count }

same : (v : World) → HasReported v v []
same v = record { refused = sym (append-nil v.refused); count = refl }

-- one change after another
both : (u v w : World) (xs ys : List Happening) → HasReported u v xs → HasReported v w ys → HasReported u w (xs ++ ys)
both u v w xs ys a b = record {
  refused =
      b.refused
      ∙ (ap (λ (rs : List Refused). rs ++ flat_map (refusals_in v.count) ys) a.refused
      ∙ (ap (λ (n : ℕ). (u.refused ++ flat_map (refusals_in u.count) xs) ++ flat_map (refusals_in n) ys) a.count
      ∙ (append_assoc u.refused (flat_map (refusals_in u.count) xs) (flat_map (refusals_in u.count) ys)
      ∙ ap (λ (rs : List Refused). u.refused ++ rs) (sym (flat_map-append (refusals_in u.count) xs ys)))));
  count = b.count ∙ a.count;
}

-- ---- an event at a process

refusal_same : (w : World) (p : ℕ) (v : Option EventFault) → refused_if w p v ≡ refusal_reported w.count p v
refusal_same w p None = refl
refusal_same w p (Some fault) = refl

found_first : (p : ℕ) (x c : Player) (rest : Option Player) (b : Bool) → (x.listed.process == p) ≡ b
    → (rest ≡ Some c → c.listed.process ≡ p) → cond b (Some x) rest ≡ Some c → c.listed.process ≡ p
found_first p x c rest true t h e =
    let is : x ≡ c = cc in
    ap (λ (y : Player). y.listed.process) (sym is) ∙ eqb-true x.listed.process p t
found_first p x c rest false t h e = h e

found_is : (p : ℕ) (cs : List Player) (c : Player) → find (λ d. d.listed.process == p) cs ≡ Some c → c.listed.process ≡ p
found_is p [] c e = absurd cc
found_is p (x ∷ xs) c e = found_first p x c (find (λ d. d.listed.process == p) xs) (x.listed.process == p) refl (found_is p xs c) e

-- the world in which the player has taken its turn, before its frames are sent
abbrev turned : Setting → World → ℕ → Turn → Outcome → World
turned s w p t o = record w {
  players = map (takes s p t) w.players;
  refused = w.refused ++ refused_if w p o.verdict;
  spent = if o.spent then w.spent ++ p ∷ [] else w.spent;
}

steps_tell : (s : Setting) (w : World) (p : ℕ) (handed : Handed) (e : group.Event) (c : Player) → c.listed.process ≡ p
    → HasReported w (steps s w e c) (Takes p handed (length w.frames) (seen (outcome s c.now (turn_of c e))) ∷ [])
steps_tell s w p handed e c is =
    let t : Turn = turn_of c e in
    let o : Outcome = outcome s c.now t in
    let kept = all_keep c.listed.process o.sends (turned s w c.listed.process t o) in
    record {
      refused =
          kept.refused
          ∙ ap (λ (rs : List Refused). w.refused ++ rs)
          (refusal_same w c.listed.process o.verdict ∙
          (ap (λ (q : ℕ). refusal_reported w.count q o.verdict) is ∙ sym (append-nil (refusal_reported w.count p o.verdict))));
      count = kept.count;
    }

hands_tell_by : (s : Setting) (w : World) (p : ℕ) (handed : Handed) (e : group.Event) (r : Option Player)
    → ((c : Player) → r ≡ Some c → c.listed.process ≡ p)
    → HasReported w (elim r as (λ x. World) [ None ↦ w | Some c ↦ steps s w e c ])
    (elim r as (λ x. List Happening) [ None ↦ [] | Some c ↦ Takes p handed (length w.frames) (seen (outcome s c.now (turn_of c e))) ∷ [] ])
hands_tell_by s w p handed e None is = same w
hands_tell_by s w p handed e (Some c) is = steps_tell s w p handed e c (is c refl)

hands_tell : (s : Setting) (w : World) (p : ℕ) (handed : Handed) (e : group.Event) → HasReported w (hands s w p e) (takes_in s w p handed e)
hands_tell s w p handed e = hands_tell_by s w p handed e (player_of w p) (found_is p w.players)

-- ---- deliveries

delivers_tell_by : (s : Setting) (w : World) (to frame : ℕ) (r : Option Sent)
    → HasReported w (elim r as (λ x. World) [ None ↦ w | Some f ↦ hands_frame s w to f ])
    (elim r as (λ x. List Happening) [
      | None ↦ []
      | Some f ↦ takes_in s w to (Frame frame f.sender)
          (group.Hand f.sender (frame_said f.bytes))
    ])
delivers_tell_by s w to frame None = same w
delivers_tell_by s w to frame (Some f) = hands_tell s w to (Frame frame f.sender) (group.Hand f.sender (frame_said f.bytes))

delivers_tell : (s : Setting) (w : World) (to frame : ℕ) → HasReported w (delivers s w to frame) (gets_frame s w to frame)
delivers_tell s w to frame = delivers_tell_by s w to frame (slice_get w.frames frame)

abbrev without_first : World → World
without_first w = record w { pending = drop 1 w.pending }

lost_tells : (w : World) (d : ℕ × ℕ) (r : Option Sent)
    → flat_map (refusals_in w.count) (elim r as (λ x. List Happening) [ None ↦ [] | Some f ↦ Loses d.0 f.sender d.1 ∷ [] ]) ≡ []
lost_tells w d None = refl
lost_tells w d (Some f) = refl

next_tell_by : (s : Setting) (w : World) (d : ℕ × ℕ) (b : Bool)
    → HasReported w (cond b (delivers s (without_first w) d.1 d.0) (without_first w))
    (cond b (gets_frame s (without_first w) d.1 d.0) (loses (without_first w) d))
next_tell_by s w d true =
    let t = delivers_tell s (without_first w) d.1 d.0 in
    record { refused = t.refused; count = t.count }
next_tell_by s w d false = record {
  refused = sym (ap (λ (rs : List Refused). w.refused ++ rs)
      (lost_tells (without_first w) d (slice_get w.frames d.0)) ∙ append-nil w.refused);
  count = refl;
}

next_tell : (s : Setting) (mask : ℕ) (w : World) (d : ℕ × ℕ) → HasReported w (next_delivery s mask w d) (next_tells s mask w d)
next_tell s mask w d = next_tell_by s w d (is_in mask d.1)

drain_tell_by : (s : Setting) (mask more : ℕ) (w : World) (r : Option (ℕ × ℕ))
    → ((d : ℕ × ℕ) → HasReported (next_delivery s mask w d) (drains s mask more (next_delivery s mask w d))
    (drain_tells s mask more (next_delivery s mask w d)))
    → HasReported w (elim r as (λ x. World) [ None ↦ w | Some d ↦ drains s mask more (next_delivery s mask w d) ])
    (elim r as (λ x. List Happening) [ None ↦ [] | Some d ↦ next_tells s mask w d ++ drain_tells s mask more (next_delivery s mask w d) ])
drain_tell_by s mask more w None rest = same w
drain_tell_by s mask more w (Some d) rest =
    let v : World = next_delivery s mask w d in
    both w v (drains s mask more v) (next_tells s mask w d) (drain_tells s mask more v) (next_tell s mask w d) (rest d)

drain_tell : (s : Setting) (mask n : ℕ) (w : World) → HasReported w (drains s mask n w) (drain_tells s mask n w)
unfolding drains drain_tells
drain_tell s mask zero w = same w
drain_tell s mask (suc more) w = drain_tell_by s mask more w (slice_get w.pending 0)
    (λ d. drain_tell s mask more (next_delivery s mask w d))

-- ---- lies

lie_tell_by : (h : Header) (w : World) (mask : ℕ) (l : Listed) (st : Statement) (statement : List ℕ) (b : Bool)
    → HasReported w (cond b (fold (send l.process (is_in mask)) w (frames_of (Bundle (lie_claim h w l st ∷ [])))) w)
    (cond b (Lies l.process statement (length w.frames) (members mask) ∷ []) (Silent l.process ∷ []))
lie_tell_by h w mask l st statement true =
    let kept = sends_keep l.process (is_in mask) (frames_of (Bundle (lie_claim h w l st ∷ []))) w in
    record { refused = kept.refused ∙ sym (append-nil w.refused); count = kept.count }
lie_tell_by h w mask l st statement false = record { refused = sym (append-nil w.refused); count = refl }

read_tell_by : (h : Header) (w : World) (mask : ℕ) (l : Listed) (statement : List ℕ) (r : Result Statement FrameFault)
    → HasReported w (elim r as (λ x. World) [ Ok st ↦ sends_lie h w mask l st | Err fault ↦ w ])
    (elim r as (λ x. List Happening) [ Ok st ↦ lie_tells w mask l statement | Err fault ↦ [] ])
read_tell_by h w mask l statement (Ok st) = lie_tell_by h w mask l st statement (nat_lt (lies_of w l.process) (key_total l.key))
read_tell_by h w mask l statement (Err fault) = same w

liar_tell_by : (h : Header) (w : World) (mask : ℕ) (statement : List ℕ) (r : Option Listed)
    → HasReported w (elim r as (λ x. World) [
      | None ↦ w
      | Some l ↦ elim (statement_of statement) as
          (λ x. World) [ Ok st ↦ sends_lie h w mask l st | Err fault ↦ w ]
    ])
    (elim r as (λ x. List Happening) [
      | None ↦ []
      | Some l ↦ elim (statement_of statement) as
          (λ x. List Happening) [ Ok st ↦ lie_tells w mask l statement | Err fault ↦ [] ]
    ])
liar_tell_by h w mask statement None = same w
liar_tell_by h w mask statement (Some l) = read_tell_by h w mask l statement (statement_of statement)

lie_tell : (h : Header) (w : World) (signer mask : ℕ) (statement : List ℕ)
    → HasReported w (lies h w signer mask statement) (liar_tells h w signer mask statement)
lie_tell h w signer mask statement = liar_tell_by h w mask statement (find (λ l. l.process == signer) h.processes)

-- ---- events

onto : (v a x : World) (reported : List Happening) → HasReported v a reported → (let r : Result World WorldFault = Ok a in r ≡ Ok x) → HasReported v x reported
onto v a x reported t e =
    let is : a ≡ x = cc in
    let P : World → Type 0 = λ y. HasReported v y reported in
    subst P is t

pass_tell : (h : Header) (w x : World) (to frame : ℕ) (r : Option Sent)
    → (elim r as (λ y. Result World WorldFault) [
      | None ↦ Err (NoSuchFrame w.count frame (length w.frames))
      | Some f ↦ Ok
          (hands_frame (setting_of h) w to f)
    ]) ≡ Ok x
    → HasReported w x (elim r as (λ y. List Happening) [
      | None ↦ []
      | Some f ↦ takes_in (setting_of h) w to (Frame frame f.sender)
          (group.Hand f.sender (frame_said f.bytes))
    ])
pass_tell h w x to frame None e = absurd cc
pass_tell h w x to frame (Some f) e =
    onto w (hands_frame (setting_of h) w to f) x
    (takes_in (setting_of h) w to (Frame frame f.sender) (group.Hand f.sender (frame_said f.bytes)))
    (hands_tell (setting_of h) w to (Frame frame f.sender) (group.Hand f.sender (frame_said f.bytes))) e

hands_on : (h : Header) (w x : World) (p : ℕ) (handed : Handed) (e : group.Event)
    → (let r : Result World WorldFault = Ok (hands (setting_of h) w p e) in r ≡ Ok x)
    → HasReported w x (takes_in (setting_of h) w p handed e)
hands_on h w x p handed e is = onto w (hands (setting_of h) w p e) x (takes_in (setting_of h) w p handed e)
    (hands_tell (setting_of h) w p handed e) is

happens_tell : (h : Header) (w x : World) (e : ScheduleEvent) → happens h w e ≡ Ok x → HasReported w x (tells h w e)
happens_tell h w x (Submit p payload) is = hands_on h w x p Payload (group.Submit payload) is
happens_tell h w x (Raw to from bytes) is = hands_on h w x to (Bytes from) (group.Hand from (frame_said bytes)) is
happens_tell h w x (Pass frame to) is = pass_tell h w x to frame (slice_get w.frames frame) is
happens_tell h w x (Drain n mask) is = onto w (drains (setting_of h) mask n w) x (drain_tells (setting_of h) mask n w)
    (drain_tell (setting_of h) mask n w) is
happens_tell h w x (Lie signer mask statement) is = onto w (lies h w signer mask statement) x (liar_tells h w signer mask statement)
    (lie_tell h w signer mask statement) is
happens_tell h w x (Suspect p q) is = hands_on h w x p (Suspects q) (group.Suspect q) is
happens_tell h w x (Join p q) is = hands_on h w x p (Joins q) (group.Join q) is
happens_tell h w x (Renew p) is = hands_on h w x p Renews group.RenewView is
happens_tell h w x (Tick p) is = hands_on h w x p Ticks group.Tick is

counted : (y x : World) (m : Option ℕ)
    → (elim m as (λ z. Result World WorldFault) [
      | None ↦ Ok (record y { count = y.count + 1 })
      | Some bytes ↦ Err
          (TooMuchSent y.count bytes)
    ]) ≡ Ok x
    → x.refused ≡ y.refused
counted y x None e =
    let older : World = record y { count = y.count + 1 } in
    let is : older ≡ x = cc in
    ap (λ (z : World). z.refused) (sym is)
counted y x (Some bytes) e = absurd cc

after_tell_by : (w x : World) (reported : List Happening) (r : Result World WorldFault) → ((y : World) → r ≡ Ok y → HasReported w y reported)
    → (r >>= counts) ≡ Ok x
    → x.refused ≡ w.refused ++ flat_map (refusals_in w.count) reported
after_tell_by w x reported (Ok y) t e = counted y x (sum_above 0 y.frames) e ∙ (t y refl).refused
after_tell_by w x reported (Err fault) t e = absurd cc

after_tell : (h : Header) (w x : World) (e : ScheduleEvent) → after_event h w e ≡ Ok x → x.refused ≡ w.refused ++ event_refusals h w e
after_tell h w x e is = after_tell_by w x (tells h w e) (happens h w e) (λ y. happens_tell h w y e) is

-- ---- runs

run_tell_by : (h : Header) (w x : World) (first : List Refused) (es : List ScheduleEvent) (r : Result World WorldFault)
    → ((v : World) → r ≡ Ok v → v.refused ≡ w.refused ++ first)
    → ((v : World) → run_events h v es ≡ Ok x → x.refused ≡ v.refused ++ run_refusals h v es) → (r >>= λ v. run_events h v es) ≡ Ok x
    → x.refused ≡ w.refused ++ (first ++ elim r as (λ y. List Refused) [ Ok v ↦ run_refusals h v es | Err fault ↦ [] ])
run_tell_by h w x first es (Ok v) one rest e =
    rest v e ∙ (ap (λ (rs : List Refused). rs ++ run_refusals h v es) (one v refl) ∙ append_assoc w.refused first (run_refusals h v es))
run_tell_by h w x first es (Err fault) one rest e = absurd cc

pub run_tell : (h : Header) (es : List ScheduleEvent) (w x : World) → run_events h w es ≡ Ok x
    → x.refused ≡ w.refused ++ run_refusals h w es
unfolding run_events run_refusals
run_tell h [] w x e =
    let is : w ≡ x = cc in
    ap (λ (y : World). y.refused) (sym is) ∙ sym (append-nil w.refused)
run_tell h (e ∷ es) w x is =
    run_tell_by h w x (event_refusals h w e) es (after_event h w e) (λ v. after_tell h w v e) (λ v. run_tell h es v x) is
