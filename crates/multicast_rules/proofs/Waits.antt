-- What waits, by the slots that are signed, is what the rules say.
use Rattle.std.proofs.Common.{◌≡◌, ℕ, ◌+◌, [], length, Option, Some, None, Bool, true, false, refl, sym, ap, ◌∙◌, subst}
use Rattle.std.specs.Prelude.{is_some, not, ◌&&◌, nat_lt, if◌then◌else◌, option_and_then, option_map, slice_get}
use Rattle.message_defs.specs.Limits.{most_places}
use Rattle.message_defs.specs.Statements.{Init, Echo, Keep, InitAt, KeepAt}
use Rattle.group_defs.specs.Views.{is_member}
use Rattle.group_defs.specs.Process.{Echoes, Inits, Keeps, Setting, Pool, Process, delivered_from}
use Rattle.group_defs.specs.Certified.{heard_on, placed}
use Rattle.group_defs.specs.Due.{window, least_due}
use Rattle.stmt_codec.specs.Views.{message}
use Rattle.own_place.specs.declared.own.Own.{Own}
use Rattle.own_place.specs.Owns.{IsOwnOf, HasSigned, HasDelivered}
use Rattle.own_place.specs.Signed.{has_slot}
use Rattle.pool_laws.specs.Least.{IsLeastBelow}
use Rattle.rule_laws.specs.Heard.{IsPool}
use Rattle.rule_laws.specs.Messages as rules
use Rattle.rule_laws.specs.Messages.{waits, echo_to, own_init, is_init_open, has_payload}
use Rattle.rule_laws.specs.Placing.{is_keep_open}
use Rattle.rule_laws.proofs.Echoing.{init_is_least, echo_is_least}
use Rattle.rule_laws.proofs.Keeping.{keep_is_least}
use Rattle.rule_laws.proofs.Numbers.{least-same}
use Rattle.multicast_rules.specs.Waiting.{is_init_waiting, IsFirstWaiting}
use Rattle.multicast_rules.proofs.Telling.{is-member, is-open}

module _ (s : Setting) (p : Process) (own : Own) (signed : HasSigned own p) where
  waits-is : (m l : ℕ) → is_init_waiting p.pool own.signed m l ≡ waits p m l
  waits-is m l = ap (λ b. is_some (heard_on p.pool m (InitAt p.pool.view.number l)) && not b)
      (sym (signed.slots (Echo p.pool.view.number (message m l) []) refl))

  least-waits : (m : ℕ) (o : Option ℕ) → IsLeastBelow most_places (is_init_waiting p.pool own.signed m) o
      → IsLeastBelow most_places (waits p m) o
  least-waits m o least = least-same 0 most_places (is_init_waiting p.pool own.signed m) (waits p m) o (λ l le lt. waits-is m l) least

  pub first-waits : (o : Option (ℕ × ℕ)) → IsFirstWaiting p.pool own.signed o → rules.IsFirstWaiting p o
  first-waits None none = λ r m at. least-waits m None (none r m at)
  first-waits (Some e) first = (first.0, first.1, least-waits e.0 (Some e.1) first.2, λ r m lt at. least-waits m None (first.3 r m lt at))

  pub open-inits : (o : Option ℕ) → IsLeastBelow most_places (λ l. not (has_slot own.signed (InitAt p.pool.view.number l))) o
      → IsLeastBelow most_places (is_init_open p) o
  open-inits o least = least-same 0 most_places _ (is_init_open p) o
      (λ l le lt. ap not (sym (signed.slots (Init p.pool.view.number l []) refl))) least

  pub open-keeps : (o : Option ℕ) → IsLeastBelow most_places (λ k. not (has_slot own.signed (KeepAt p.pool.view.number k))) o
      → IsLeastBelow most_places (is_keep_open p) o
  open-keeps o least = least-same 0 most_places _ (is_keep_open p) o
      (λ k le lt. ap not (sym (signed.slots (Keep p.pool.view.number k []) refl))) least

-- the Echo that is due is that of what waits first
pub echo-due : (s : Setting) (p : Process) (h : Pool) (own : Own) (r : ℕ) (o : Option (ℕ × ℕ)) → IsPool h → IsOwnOf s p h own
    → own.position ≡ Some r → own.ended ≡ false → IsFirstWaiting h own.signed o → least_due s p Echoes ≡ option_map (echo_to p) o
echo-due s p h own r o pool tells at not_ended first =
    echo_is_least s p o (subst IsPool (sym tells.pool) pool) (is-member s p h own tells r at) (is-open s p h own tells not_ended)
    (first-waits s p own tells.signed o (subst (λ h. IsFirstWaiting h own.signed o) (sym tells.pool) first))

-- the Init that is due is the least one not signed, where that has a payload
init-due : (s : Setting) (p : Process) (h : Pool) (own : Own) (r x : ℕ) (o : Option ℕ) → x ≡ h.view.number → IsOwnOf s p h own
    → own.position ≡ Some r → IsLeastBelow most_places (λ l. not (has_slot own.signed (InitAt x l))) o
    → least_due s p Inits ≡ option_map (own_init p) (option_and_then (λ l. if has_payload p l then Some l else None) o)
init-due s p h own r x o same tells at least =
    let current : x ≡ p.pool.view.number = same ∙ ap (λ (h : Pool). h.view.number) (sym tells.pool) in
    init_is_least s p o (is-member s p h own tells r at)
    (open-inits s p own tells.signed o
    (subst (λ x. IsLeastBelow most_places (λ l. not (has_slot own.signed (InitAt x l))) o) current least))

pub no-init-due : (s : Setting) (p : Process) (h : Pool) (own : Own) (r x : ℕ) → x ≡ h.view.number → IsOwnOf s p h own → own.position ≡ Some r
    → IsLeastBelow most_places (λ l. not (has_slot own.signed (InitAt x l))) None → least_due s p Inits ≡ None
no-init-due s p h own r x same tells at least = init-due s p h own r x None same tells at least

-- what is delivered of the own messages
abbrev pub CountsOwn : Own → Pool → ℕ → Type 0
CountsOwn own h delivered = is_member h.view own.me ≡ true → (p : Process) → HasDelivered own p → p.pool ≡ h
    → delivered ≡ delivered_from own.me p.delivered

pub this-init-due : (s : Setting) (p : Process) (h : Pool) (own : Own) (r x l delivered accepted : ℕ) (t : Bool) → x ≡ h.view.number
    → IsOwnOf s p h own → own.position ≡ Some r → IsLeastBelow most_places (λ l. not (has_slot own.signed (InitAt x l))) (Some l)
    → CountsOwn own h delivered → length p.accepted ≡ accepted → t ≡ (nat_lt l (delivered + window) && nat_lt (own.earlier + l) accepted)
    → least_due s p Inits ≡ (if t then Some (own_init p l) else None)
this-init-due s p h own r x l delivered accepted t same tells at least counts all e =
    let member : is_member h.view own.me
    ≡ true = (λ i. is_member (sym tells.pool i).view (sym tells.number i)) ∙ is-member s p h own tells r at in
    let count : delivered ≡ delivered_from p.me p.delivered = counts member p tells.delivered tells.pool ∙ ap
    (λ q. delivered_from q p.delivered) (sym tells.number) in
    let ready : t ≡ has_payload p l = e ∙ (λ i. nat_lt l (count i + window) && nat_lt (sym tells.before i + l) (sym all i)) in
    init-due s p h own r x (Some l) same tells at least ∙ ap (λ t. option_map (own_init p) (if t then Some l else None)) (sym ready) ∙ go t
  where
    go : (t : Bool) → option_map (own_init p) (if t then Some l else None) ≡ (if t then Some (own_init p l) else None)
    go true = refl
    go false = refl

-- the Keep that is due is the least one not signed, where its place is placed
pub keep-due : (s : Setting) (p : Process) (h : Pool) (own : Own) (r x : ℕ) (o : Option ℕ) → x ≡ h.view.number → IsOwnOf s p h own
    → own.position ≡ Some r → own.ended ≡ false → IsLeastBelow most_places (λ k. not (has_slot own.signed (KeepAt x k))) o
    → least_due s p Keeps ≡ option_and_then (λ k. option_map (Keep h.view.number k) (slice_get (placed h) k)) o
keep-due s p h own r x o same tells at not_ended least =
    let current : x ≡ p.pool.view.number = same ∙ ap (λ (h : Pool). h.view.number) (sym tells.pool) in
    keep_is_least s p o (is-member s p h own tells r at) (is-open s p h own tells not_ended)
    (open-keeps s p own tells.signed o
    (subst (λ x. IsLeastBelow most_places (λ k. not (has_slot own.signed (KeepAt x k))) o) current least))
    ∙ ap (λ (h : Pool). option_and_then (λ k. option_map (Keep h.view.number k) (slice_get (placed h) k)) o) tells.pool
