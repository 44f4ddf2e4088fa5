-- Two correct processes in one view see the same certified.
use Rattle.std.proofs.Common.{◌≡◌, ℕ, List, Some, true, refl, sym, ap, ◌∙◌}
use Rattle.group_defs.specs.Views.{View}
use Rattle.group_defs.specs.Below.{Message, Statement, Echo, Place, slot_of}
use Rattle.group_defs.specs.Process.{Process}
use Rattle.group_defs.specs.Certified.{is_certified, payload_at}
use Rattle.group_defs.specs.Family.{Family, ends}
use Rattle.group_defs.specs.Laws.{Premises, StoodSo, IsOneView, OnePayload, OnePayloadAtTheEnd, OneBatch}
use Rattle.safety_laws.proofs.CertifiedIsBacked.{certified_is_backed}
use Rattle.safety_laws.proofs.Decisions.{end_stood, settled_stood}
use Rattle.pool_laws.proofs.Heard.{payload-certified, place-certified}
use Rattle.pool_laws.proofs.Members.{Contains-mem}
use Rattle.safety_laws.proofs.Moments.{is-one}
use Rattle.safety_laws.proofs.OneContent.{one_content}
use Rattle.pool_laws.proofs.Slots.{echo-payload, place-batch}
use Rattle.safety_laws.proofs.ViewsAgree.{installed-one}
use Rattle.safety_laws.proofs.ViewsOf.{moment-view}

two-stood : (f : Family) (q q' : Process) → Premises f → StoodSo f q → StoodSo f q' → q.pool.view.number ≡ q'.pool.view.number
    → (st st' : Statement) → is_certified q.pool st ≡ true → is_certified q'.pool st' ≡ true → slot_of st ≡ slot_of st' → st ≡ st'
two-stood f q q' premises stood stood' number st st' e e' slot =
    let v : View = q.pool.view in
    let one : IsOneView f v = installed-one f premises stood.by (Contains-mem (ends f) stood.by stood.correct) v
    (moment-view q stood.by stood.grown) in
    let is : q'.pool.view ≡ v = is-one f v one stood'.by (Contains-mem (ends f) stood'.by stood'.correct) q'.pool.view
    (moment-view q' stood'.by stood'.grown) (sym number) in
    one_content f v st st' one (certified_is_backed f v q st one stood refl e) (certified_is_backed f v q' st' one stood' is e') slot

one-payload : (f : Family) (q q' : Process) (m : Message) (b b' : List ℕ) → Premises f → StoodSo f q → StoodSo f q'
    → q.pool.view.number ≡ q'.pool.view.number
    → payload_at q.pool m ≡ Some b → payload_at q'.pool m ≡ Some b' → b ≡ b'
one-payload f q q' m b b' premises stood stood' number e e' =
    let same = two-stood f q q' premises stood stood' number (Echo q.pool.view.number m b) (Echo q'.pool.view.number m b')
    (payload-certified q.pool m b e) (payload-certified q'.pool m b' e') (ap (λ x. slot_of (Echo x m b)) number) in
    echo-payload q.pool.view.number m m b b' (same ∙ ap (λ x. Echo x m b') (sym number))

pub one_payload : OnePayload
one_payload f q q' m b b' premises so so' number e e' = one-payload f q q' m b b' premises (settled_stood f q so)
    (settled_stood f q' so') number e e'

pub one_payload_at_the_end : OnePayloadAtTheEnd
one_payload_at_the_end f p q m b c premises in_p in_q number e e' = one-payload f p q m b c premises (end_stood f p in_p)
    (end_stood f q in_q) number e e'

pub one_batch : OneBatch
one_batch f q q' k b b' premises so so' number e e' =
    let same = two-stood f q q' premises (settled_stood f q so) (settled_stood f q' so') number (Place q.pool.view.number k b)
    (Place q'.pool.view.number k b') (place-certified q.pool k b e) (place-certified q'.pool k b' e')
    (ap (λ x. slot_of (Place x k b)) number) in
    place-batch q.pool.view.number k b b' (same ∙ ap (λ x. Place x k b') (sym number))
