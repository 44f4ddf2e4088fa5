-- Taking in leaves what is signed and delivered.
use Rattle.std.proofs.Common.{◌≡◌, ℕ, List, [], ◌∷◌, Bool, true, false, refl, ap, ◌∙◌}
use Rattle.std.specs.Prelude.{if◌then◌else◌}
use Rattle.byte_defs.specs.Orders.{put}
use Rattle.message_defs.specs.Updates.{Update, Remove, Add, Renew}
use Rattle.message_defs.specs.Statements.{Claim}
use Rattle.message_defs.specs.Claims.{Claims, Wants, Faulty}
use Rattle.group_defs.specs.Process.{Setting, Process}
use Rattle.group_defs.specs.Due.{is_perceived}
use Rattle.group_defs.specs.Hearing.{Verdict, Old, Early, Stranger, OutOfWindow, Known, Unsigned, Conflict, Heard, verdict, with_verdict, hear, hear_all}
use Rattle.group_defs.specs.Events.{Submit, Hand, Suspect, Join, RenewView, Tick, perceived_numbers, perceives, take_in}
use Rattle.event_laws.specs.Parts.{HasTakenIn, TakingInLeaves}

-- one after the other
both-in : (p q r : Process) → HasTakenIn p q → HasTakenIn q r → HasTakenIn p r
both-in p q r a b = b ∙ ap (λ (x : Process). record x {
  pool = record { view = x.pool.view; heard = r.pool.heard };
  conflicts = r.conflicts;
  accepted = r.accepted;
  perceived = r.perceived;
}) a

hears-one : (p : Process) (c : Claim) (v : Verdict) → HasTakenIn p (with_verdict v p c)
hears-one p c Heard = refl
hears-one p c Conflict = refl
hears-one p c Old = refl
hears-one p c Early = refl
hears-one p c Stranger = refl
hears-one p c OutOfWindow = refl
hears-one p c Known = refl
hears-one p c Unsigned = refl

hears-all : (s : Setting) (cs : List Claim) (p : Process) → HasTakenIn p (hear_all s p cs)
unfolding hear_all
hears-all s [] p = refl
hears-all s (c ∷ cs) p = both-in p (hear s p c) (hear_all s (hear s p c) cs) (hears-one p c (verdict s p c)) (hears-all s cs (hear s p c))

asks : (p : Process) (u : Update) → HasTakenIn p (perceives p u)
asks p u = go (is_perceived p (p.pool.view.number, u))
  where
    go : (b : Bool) → HasTakenIn p (if b then p else record p { perceived = put perceived_numbers (p.pool.view.number, u) p.perceived })
    go true = refl
    go false = refl

pub taking_in_leaves : TakingInLeaves
taking_in_leaves s p (Submit payload) = refl
taking_in_leaves s p (Hand from (Claims claims)) = hears-all s claims p
taking_in_leaves s p (Hand from (Wants x k)) = refl
taking_in_leaves s p (Hand from (Faulty fault)) = refl
taking_in_leaves s p (Suspect q) = asks p (Remove q)
taking_in_leaves s p (Join q) = asks p (Add q)
taking_in_leaves s p RenewView = asks p Renew
taking_in_leaves s p Tick = refl
