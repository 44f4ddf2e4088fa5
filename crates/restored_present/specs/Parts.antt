-- What an image tells of its process in the view in which that is, in the parts in which a member asks for it.
use Rattle.std.specs.Prelude.{◌≡◌, ◌≢◌, ℕ, ◌<◌, List, [], All, AllPairs, Some, is_some, IsTrue, IsFalse}
use Rattle.message_defs.specs.Statements.{Claim, slot_of, view_of}
use Rattle.group_defs.specs.Views.{View, is_member}
use Rattle.group_defs.specs.Process.{Setting, Pool, Delivered, Process, keyed, places_in}
use Rattle.group_defs.specs.Certified.{heard_on, payload_at, place_at}
use Rattle.group_defs.specs.Accounts.{batch_at}
use Rattle.image_defs.specs.Images.{Image}
use Rattle.image_defs.specs.Kept.{AreHeard}
use Rattle.restored_left.specs.Facts.{AreAccepted, AreConflicts, AreOwn, ArePerceived, IsDecidedSo, IsHaltedSo, own_delivered}
use Rattle.own_place.specs.declared.own.Own.{Own}
use Rattle.own_place.specs.Owns.{IsOwnOf}
use Rattle.restored_left.specs.Members.{IsIn, Phase}

-- what is accepted, perceived, signed, and kept as conflicts, by a process in this view
pub record IsReportedSo (s : Setting) (v : View) (i : Image) : Type 0 where
  pub accepted : AreAccepted i.accepted (own_delivered i.me i.delivered)
  pub perceived : ArePerceived (keyed s) v i.perceived
  pub conflicts : AreConflicts s i.conflicts
  pub own : AreOwn s i.me v i.signed

-- the pool shows that the process of this number has delivered so: nothing where it is no member, and else what is certified
pub record IsShown (h : Pool) (me : ℕ) (ds : List Delivered) : Type 0 where
  pub outside : IsFalse (is_member h.view me) → ds ≡ []
  pub placed : (k : ℕ) → k < places_in ds → place_at h k ≡ Some (batch_at k ds)
  pub paid : All (λ d. payload_at h d.message ≡ Some d.payload) ds

-- each slot is signed once, and what is signed in the pool's view is heard there of the process of this number
pub record IsSaid (h : Pool) (me : ℕ) (cs : List Claim) : Type 0 where
  pub once : AllPairs (λ c d. slot_of c.statement ≢ slot_of d.statement) cs
  pub heard_own : All (λ c. view_of c.statement ≡ h.view.number → IsTrue (is_some (heard_on h me (slot_of c.statement)))) cs

-- what the process p has heard, delivered, signed and decided in its view
pub record IsPresentSo (s : Setting) (p : Process) : Type 0 where
  pub heard : AreHeard s p
  pub shown : IsShown p.pool p.me p.delivered
  pub said : IsSaid p.pool p.me p.signed
  pub decided : IsDecidedSo p.pool (keyed s) p.me (places_in p.delivered) p.decision
  pub halted : IsHaltedSo p.halted (places_in p.delivered) p.decision

-- the own place, the pool and the phase are those of this process
pub record HasPresent (s : Setting) (p : Process) (own : Own) (h : Pool) (phase : Phase) : Type 0 where
  pub pool : p.pool ≡ h
  pub place : IsOwnOf s p p.pool own
  pub phase_is : IsIn phase p
