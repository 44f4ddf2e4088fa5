-- An event that comes to nothing.
use Rattle.std.proofs.Common.{◌≡◌, true, Option, None, Some, refl, sym, subst, is_none}
use Rattle.std.specs.Option.{MatchOption}
use Rattle.std.proofs.Math.Logic.{∥∥₁_elim}
use Rattle.std.proofs.Props.{props}
use Rattle.std.proofs.lemmas.Grind.{merely}
use Rattle.message_defs.specs.Updates.{Update as Asked, Remove, Add, Renew}
use Rattle.group_defs.specs.Process.{Setting, Process}
use Rattle.rp_base.specs.Views.{update as update_of}
use Rattle.member_sending.specs.Taking.{asking}
use Rattle.member_signing.specs.States.{LeftView, Before, ProcessState, IsReal, IsStateOf, Stays, HasLeft, Since}
use Rattle.member_sending.specs.Taking.{Input, Payload, Claims, Want, Update, Tick, handed, asks}
use Rattle.member_core.specs.Outcomes.{is_asked}

-- where each process with the one state has the other, some process has the other
pub real-so : (a b : ProcessState) → ((s : Setting) (p : Process) → IsStateOf s p a → IsStateOf s p b) → IsReal a → IsReal b
real-so a b same real = ∥∥₁_elim real (hlevel props)
    (λ has. merely (record { setting = has.setting; process = has.process; state = same has.setting has.process has.state }))

-- no view was left
pub none-left : (o : Option LeftView) → is_none o ≡ true → o ≡ None
none-left None e = refl
none-left (Some left) e = absurd cc

-- in its view it is as it is since the mark
pub since-stays : (b : Before) (was now : ProcessState) → now.left ≡ None → Stays b was now → Since b was now
since-stays b was now none is =
    subst (λ (l : Option LeftView). MatchOption l (Stays b was now) (λ left. HasLeft b was left now)) (sym none) is

-- who goes back to the mark is the process again that it was before
pub undone-so : (b : Before) (first was st at new : ProcessState) → was ≡ first → at ≡ st
    → ((s : Setting) (p : Process) → IsStateOf s p was → Since b was st)
    → ((w : ProcessState) → Since b w at → (s : Setting) (p : Process) → IsStateOf s p w → IsStateOf s p new)
    → (s : Setting) (p : Process) → IsStateOf s p first → IsStateOf s p new
undone-so b first was st at new same here since back s p is =
    let then : IsStateOf s p was = subst (IsStateOf s p) (sym same) is in
    back was (subst (Since b was) (sym here) (since s p then)) s p then

asked-so : (u : Asked) → is_asked (asking u) ≡ true
asked-so (Remove q) = refl
asked-so (Add q) = refl
asked-so Renew = refl

-- an update is asked for exactly by what hands one over
pub asks-so : (i : Input) → is_asked (handed i) ≡ asks i
asks-so (Payload payload) = refl
asks-so (Claims from claims) = refl
asks-so (Want from x k) = refl
asks-so (Update u) = asked-so (update_of u)
asks-so Tick = refl
