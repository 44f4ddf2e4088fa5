-- Delivering place by place, up to a limit.
use Rattle.std.proofs.Common.{◌≡◌, ℕ, suc, ◌+◌, ◌-◌, ◌<◌, ◌≤◌, List, [], ◌++◌, map, Option, Some, None, true, false, refl, sym, ap, ◌∙◌, subst, arith, append_assoc}
use Rattle.std.specs.Prelude.{if◌then◌else◌, nat_lt, drop, length}
use Rattle.std.specs.Option.{option_map}
use Rattle.std.proofs.lemmas.Bool.{lt-ltb}
use Rattle.std.proofs.lemmas.List.{append-nil, map-append}
use Rattle.std.proofs.Math.Seq.{drop-append_seam}
use Rattle.message_defs.specs.Statements.{Batch}
use Rattle.group_defs.specs.Views.{is_member}
use Rattle.group_defs.specs.Process as defs
use Rattle.group_defs.specs.Process.{Setting, Process, places_in}
use Rattle.group_defs.specs.Events.{Note, Delivers}
use Rattle.group_defs.specs.Settle.{deliverable, deliver, deliver_more, limit}
use Rattle.pool_laws.proofs.Tests.{map-some}
use Rattle.member_events.specs.declared.events.Note as code
use Rattle.own_place.specs.Owns.{HasDelivered}
use Rattle.member_state.specs.Below.{batch_in}
use Rattle.member_state.specs.declared.state.ProcessState.{ProcessState}
use Rattle.member_state.specs.Events.{note}
use Rattle.member_state.specs.States.{IsStateOf, HasProcess}
use Rattle.member_settling.specs.Reported.{ReportsDelivered}
use Rattle.member_settling.specs.Steps as steps
use Rattle.member_settling.specs.Steps.{ComesNext}
use Rattle.member_settling.proofs.Bounded.{is-next}
use Rattle.member_settling.proofs.Deliveries.{no-more, none-more, one-more, member-delivers, outsider-delivers}

-- ---- what is told

pub tells-nothing : (p : Process) (was : List code.Note) → ReportsDelivered p p was was
tells-nothing p was = record { more = []; delivered = sym (append-nil p.delivered); reported = sym (append-nil (map note was)) }

pub tells-both : (p q r : Process) (was now then_ : List code.Note) → q.pool.view.number ≡ p.pool.view.number → ReportsDelivered p q was now
    → ReportsDelivered q r now then_ → ReportsDelivered p r was then_
tells-both p q r was now then_ same a b = record {
  more = a.more ++ b.more;
  delivered = b.delivered ∙ ap (λ (ds : List defs.Delivered). ds ++ b.more) a.delivered ∙ append_assoc p.delivered a.more b.more;
  reported =
      b.reported
      ∙ ap (λ x. map note now ++ map (Delivers x) b.more) same
      ∙ ap (λ (ns : List Note). ns ++ map (Delivers p.pool.view.number) b.more) a.reported
      ∙ append_assoc (map note was) (map (Delivers p.pool.view.number) a.more) (map (Delivers p.pool.view.number) b.more)
      ∙ ap (λ (ns : List Note). map note was ++ ns) (sym (map-append (Delivers p.pool.view.number) a.more b.more));
}

-- ---- the next place

-- what is answered of the next place: its batch, where it is below the limit and may be delivered
abbrev pub IsAnswer : ProcessState → ℕ → Option Batch → Type 0
IsAnswer st most o = (p : Process) → HasDelivered st.own p → p.pool ≡ st.pool.pool
    → o ≡ (if nat_lt (places_in p.delivered) most then option_map batch_in (deliverable p) else None)

-- q came of p by deliveries up to place i, and goes on to where p goes
pub record GoesOn (s : Setting) (p : Process) (most i : ℕ) (st : ProcessState) (was now : List code.Note) : Type 0 where
  pub q : Process
  pub delivers : steps.Delivers s p q st was now
  pub rest : deliver_more (most - i) q ≡ deliver_more (most - places_in p.delivered) p
  pub place : places_in q.delivered ≡ i
  pub limit : most ≡ limit q
  pub view : q.pool.view.number ≡ p.pool.view.number

pub begins : (s : Setting) (p : Process) (most : ℕ) (st : ProcessState) (was : List code.Note) → most ≡ limit p → IsStateOf s p st
    → GoesOn s p most st.own.delivered st was was
begins s p most st was lim ok = record {
  q = p;
  delivers = record { state = ok; reported = tells-nothing p was };
  rest = ap (λ n. deliver_more (most - n) p) (sym ok.place.delivered.places);
  place = ok.place.delivered.places;
  limit = lim;
  view = refl;
}

answered : (q : Process) (most : ℕ) (o : Option Batch) → places_in q.delivered < most
    → o ≡ (if nat_lt (places_in q.delivered) most then option_map batch_in (deliverable q) else None)
    → option_map batch_in (deliverable q) ≡ o
answered q most o below e = ap (λ b. if b then option_map batch_in (deliverable q) else None)
    (sym (lt-ltb (places_in q.delivered) most below)) ∙ sym e

pub comes-next : (s : Setting) (q : Process) (st : ProcessState) (most : ℕ) (b : Batch) → IsStateOf s q st → most ≡ limit q
    → places_in q.delivered < most → IsAnswer st most (Some b) → (ds : List defs.Delivered) × ComesNext q ds b
comes-next s q st most b ok lim below answer =
    let some = map-some batch_in (deliverable q) b (answered q most (Some b) below (answer q ok.place.delivered ok.place.pool)) in
    (some.0, record { below = subst (λ n. places_in q.delivered < n) lim below; delivers = some.1; batch = some.2 })

-- one place more
pub goes-on : (s : Setting) (p : Process) (most i : ℕ) (st st' : ProcessState) (was now now' : List code.Note) (b : Batch) → i < most
    → IsAnswer st most (Some b) → (on : GoesOn s p most i st was now)
    → ((ds : List defs.Delivered) → ComesNext on.q ds b
    → steps.Delivers s on.q (record on.q { delivered = on.q.delivered ++ ds }) st' now now') → GoesOn s p most (i + 1) st' was now'
goes-on s p most i st st' was now now' b lt answer on step =
    let below : places_in on.q.delivered < most = (let at = on.place in omega (arith, at, lt)) in
    let next = comes-next s on.q st most b on.delivers.state on.limit below answer in
    let made = step next.0 next.1 in
    let is = is-next on.q next.0 on.delivers.state.lawful.pool next.1.delivers in
    record {
      q = record on.q { delivered = on.q.delivered ++ next.0 };
      delivers = record { state = made.state; reported = tells-both p on.q _ was now now' on.view on.delivers.reported made.reported };
      rest = sym (one-more (most - (i + 1)) on.q next.0 next.1.delivers) ∙ ap (λ n. deliver_more n on.q)
          (let same : suc (most - (i + 1)) ≡ most - i = omega (arith, lt) in same) ∙ on.rest;
      place = (let more = is.more in let at = on.place in omega (arith, more, at));
      limit = on.limit;
      view = on.view;
    }

-- where the next place may not be delivered
pub stops : (s : Setting) (p : Process) (most i : ℕ) (st : ProcessState) (was now : List code.Note) → i < most → IsAnswer st most None
    → GoesOn s p most i st was now
    → steps.Delivers s p (deliver_more (most - places_in p.delivered) p) st was now
stops s p most i st was now lt answer on =
    let below : places_in on.q.delivered < most = (let at = on.place in omega (arith, at, lt)) in
    let none = none-there (deliverable on.q)
    (answered on.q most None below (answer on.q on.delivers.state.place.delivered on.delivers.state.place.pool)) in
    subst (λ q. steps.Delivers s p q st was now) (sym (none-more (most - i) on.q none) ∙ on.rest) on.delivers
  where
    none-there : (o : Option (List defs.Delivered)) → option_map batch_in o ≡ None → o ≡ None
    none-there None e = refl
    none-there (Some ds) e = absurd cc

-- at the limit
pub ends : (s : Setting) (p : Process) (most i : ℕ) (st : ProcessState) (was now : List code.Note) → most ≤ i → GoesOn s p most i st was now
    → steps.Delivers s p (deliver_more (most - places_in p.delivered) p) st was now
ends s p most i st was now le on =
    let none : most - i ≡ 0 = omega (arith, le) in
    subst (λ q. steps.Delivers s p q st was now) (sym (no-more on.q) ∙ ap (λ n. deliver_more n on.q) (sym none) ∙ on.rest) on.delivers

-- the state is a process's
pub has-process : (s : Setting) (p : Process) (most i : ℕ) (st : ProcessState) (was now : List code.Note) → GoesOn s p most i st was now
    → HasProcess st
has-process s p most i st was now on = record { setting = s; process = on.q; state = on.delivers.state }

-- ---- the whole

seat : (s : Setting) (p : Process) (st : ProcessState) → IsStateOf s p st
    → is_member p.pool.view p.me ≡ is_member st.pool.pool.view st.own.me
seat s p st ok = λ i. is_member (ok.place.pool i).view (ok.place.number i)

-- what was delivered stands behind what was there
pub reported-behind : (p q : Process) (was now : List code.Note) → (reported : ReportsDelivered p q was now)
    → map note now ≡ map note was ++ map (Delivers p.pool.view.number) (drop (length p.delivered) q.delivered)
reported-behind p q was now reported =
    reported.reported ∙ ap (λ (ds : List defs.Delivered). map note was ++ map (Delivers p.pool.view.number) ds)
    (sym (ap (drop (length p.delivered)) reported.delivered ∙ drop-append_seam p.delivered reported.more))

pub outsider_so : (s : Setting) (p : Process) (st : ProcessState) (was : List code.Note) → IsStateOf s p st
    → is_member st.pool.pool.view st.own.me ≡ false → steps.Delivers s p (deliver p) st was was
outsider_so s p st was ok outside = subst (λ q. steps.Delivers s p q st was was) (sym (outsider-delivers p (seat s p st ok ∙ outside)))
    (record { state = ok; reported = tells-nothing p was })

pub member_so : (s : Setting) (p : Process) (st st' : ProcessState) (was now : List code.Note) → IsStateOf s p st
    → is_member st.pool.pool.view st.own.me ≡ true → (most : ℕ) → most ≡ limit p
    → steps.Delivers s p (deliver_more (most - places_in p.delivered) p) st' was now → steps.Delivers s p (deliver p) st' was now
member_so s p st st' was now ok inside most lim delivers =
    subst (λ q. steps.Delivers s p q st' was now)
    (ap (λ n. deliver_more (n - places_in p.delivered) p) lim ∙ sym (member-delivers p (seat s p st ok ∙ inside))) delivers
