-- What sending leaves of a world.
use Rattle.std.proofs.Common.{◌≡◌, ℕ, List, [], ◌∷◌, ◌++◌, map, refl, sym, ap, ◌∙◌, append-nil, append_assoc}
use Rattle.std.specs.Prelude.{fold}
use Rattle.std.specs.List.{flat_map}
use Rattle.byte_defs.specs.Members.{has}
use Rattle.group_defs.specs.Sending.{Sending, frames_of}
use Rattle.replay_defs.specs.Worlds as plain
use Rattle.replay_defs.specs.Worlds.{World, Sent, Player}
use Rattle.happenings.specs.Events.{frames_to}
use Rattle.replay_world.specs.Traffic.{sends_all, IsTooMuch}
use Rattle.replay_world.specs.declared.fault.WorldFault.{WorldFault}
use Rattle.replay_world.specs.declared.fault.WorldFault.TheVariants.{NoSuchFrame, TooMuchSent, NoMemory}

-- frames with those to whom they go
abbrev pub Outgoing : Type 0
Outgoing = List (List ℕ × List ℕ)

-- ---- in parts

one_sending : (p : ℕ) (to : List ℕ) (frames : List (List ℕ)) (v : World)
    → fold (plain.send p (has to)) v frames ≡ sends_all p (map (λ bytes. (to, bytes)) frames) v
one_sending p to [] v = refl
one_sending p to (b ∷ bs) v = one_sending p to bs (plain.send p (has to) v b)

-- the first part, and then the second
pub sends_parts : (p : ℕ) (ds es : Outgoing) (v : World) → sends_all p (ds ++ es) v ≡ sends_all p es (sends_all p ds v)
sends_parts p [] es v = refl
sends_parts p (d ∷ ds) es v = sends_parts p ds es (plain.send p (has d.0) v d.1)

-- the sendings of a process, frame by frame
pub sends_flat : (p : ℕ) (outs : List Sending) (v : World) → fold (plain.send_all p) v outs ≡ sends_all p (flat_map frames_to outs) v
sends_flat p [] v = refl
sends_flat p (o ∷ os) v =
    sends_flat p os (plain.send_all p v o)
    ∙ (ap (sends_all p (flat_map frames_to os)) (one_sending p o.to (frames_of o.parcel) v)
    ∙ sym (sends_parts p (frames_to o) (flat_map frames_to os) v))

-- ---- what stays

pub sends_players : (p : ℕ) (ds : Outgoing) (v : World) → (sends_all p ds v).players ≡ v.players
sends_players p [] v = refl
sends_players p (d ∷ ds) v = sends_players p ds (plain.send p (has d.0) v d.1)

pub sends_refused : (p : ℕ) (ds : Outgoing) (v : World) → (sends_all p ds v).refused ≡ v.refused
sends_refused p [] v = refl
sends_refused p (d ∷ ds) v = sends_refused p ds (plain.send p (has d.0) v d.1)

pub sends_spent : (p : ℕ) (ds : Outgoing) (v : World) → (sends_all p ds v).spent ≡ v.spent
sends_spent p [] v = refl
sends_spent p (d ∷ ds) v = sends_spent p ds (plain.send p (has d.0) v d.1)

pub sends_count : (p : ℕ) (ds : Outgoing) (v : World) → (sends_all p ds v).count ≡ v.count
sends_count p [] v = refl
sends_count p (d ∷ ds) v = sends_count p ds (plain.send p (has d.0) v d.1)

-- the frame, by its sender
abbrev pub sent_by : ℕ → List ℕ × List ℕ → Sent
sent_by p d = record { sender = p; bytes = d.1 }

-- the frames stand behind the others
pub sends_frames : (p : ℕ) (ds : Outgoing) (v : World) → (sends_all p ds v).frames ≡ v.frames ++ map (sent_by p) ds
sends_frames p [] v = sym (append-nil v.frames)
sends_frames p (d ∷ ds) v =
    sends_frames p ds (plain.send p (has d.0) v d.1)
    ∙ append_assoc v.frames (sent_by p d ∷ []) (map (sent_by p) ds)

-- ---- too much

-- the later world has the frames of the earlier one and more behind them, in the same event
pub record Extends (v w : World) : Type 0 where
  pub more : List Sent
  pub frames : w.frames ≡ v.frames ++ more
  pub count : w.count ≡ v.count

pub extends-refl : (v w : World) → w.frames ≡ v.frames → w.count ≡ v.count → Extends v w
extends-refl v w same count = record { more = []; frames = same ∙ sym (append-nil v.frames); count = count }

pub extends-trans : (u v w : World) → Extends u v → Extends v w → Extends u w
extends-trans u v w a b = record {
  more = a.more ++ b.more;
  frames = b.frames ∙ (ap (λ fs. fs ++ b.more) a.frames ∙ append_assoc u.frames a.more b.more);
  count = b.count ∙ a.count;
}

pub sends_extend : (p : ℕ) (ds : Outgoing) (v : World) → Extends v (sends_all p ds v)
sends_extend p ds v = record { more = map (sent_by p) ds; frames = sends_frames p ds v; count = sends_count p ds v }

-- what is too much stays too much
pub too_much_later : (fault : WorldFault) (v w : World) → Extends v w → IsTooMuch fault v → IsTooMuch fault w
too_much_later NoMemory v w x h = tt
too_much_later (TooMuchSent event bytes) v w x h = (
  h.0 ∙ sym x.count,
  λ more. ap (λ fs. plain.sum_above 0 (fs ++ more)) x.frames ∙
      (ap (plain.sum_above 0) (append_assoc v.frames x.more more) ∙ h.1 (x.more ++ more)),
)
too_much_later (NoSuchFrame event frame sent) v w x h = absurd h
