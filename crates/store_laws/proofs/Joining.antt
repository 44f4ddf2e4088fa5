-- What a joiner takes is the store of the views below its own.
use Rattle.std.proofs.Common.{◌≡◌, ◌⊎◌, inl, inr, ℕ, zero, suc, ◌+◌, ◌<◌, ◌≤◌, List, [], length, Option, Some, Bool, true, refl, sym, ap, ◌∙◌, subst, arith, Ok}
use Rattle.std.specs.Prelude.{◌&&◌, ◌==◌, All, Contains, IsTrue, filter, count_by}
use Rattle.std.proofs.lemmas.Bool.{eqb-true}
use Rattle.std.proofs.lemmas.List.Sums.{length-filter}
use Rattle.byte_defs.specs.Equality.{same_bytes}
use Rattle.byte_defs.proofs.Fields.{ok_is}
use Rattle.group_defs.specs.Views.{View, faulty}
use Rattle.group_defs.specs.Process.{Process, views_of}
use Rattle.group_defs.specs.Accounts.{Group, account_of, group_of}
use Rattle.group_defs.specs.Family.{Correct, Family, accounts, end_of, ends}
use Rattle.group_defs.specs.Laws.{IsOneView, Premises}
use Rattle.pool_laws.proofs.Members.{All-mem, Contains-mem, Mem, list_any-mem, map-mem, mem-All}
use Rattle.pool_laws.proofs.Tests.{and-first, and-second}
use Rattle.safety_laws.proofs.Quorums.{in-ends, me-end_of, some-correct}
use Rattle.safety_laws.proofs.ViewsAgree.{one-view}
use Rattle.store_defs.specs.Stores.{Store, empty, store_bytes, store_of, IsStore}
use Rattle.store_defs.specs.Records.{StateRecord}
use Rattle.store_defs.specs.Holding.{Beginning, Gives, genesis, payloads_in, store_at, store_below, store_over}
use Rattle.store_defs.specs.Transfers.{is_signed}
use Rattle.store_defs.specs.Laws.{Begins, IsOwnState, JoinersHoldTheStore, Joining, MadeState, ServicePremises, Services, TookIn, attests, state_of}
use Rattle.store_laws.proofs.Grammar.{store_is_read}
use Rattle.store_laws.proofs.Holding.{store-is}
use Rattle.store_laws.proofs.Maps.{same-is}
use Rattle.store_laws.proofs.Staying.{empty-store, stays-after}
use Rattle.store_laws.proofs.Transferring.{ready_is_attested}

-- the store of the group is within its limits
over-store : (payloads : ℕ → List (List ℕ)) (n : ℕ) → IsStore (store_over payloads empty 0 n)
unfolding store_over
over-store payloads zero = empty-store
over-store payloads (suc n) = stays-after (payloads (0 + n)) (store_over payloads empty 0 n) (over-store payloads n)

below-store : (g : Group) (x : ℕ) → IsStore (store_below g x)
below-store g x = over-store (λ z. payloads_in (g.sequence z)) x

module _ (sv : Services) (premises : ServicePremises sv) where
  abbrev f : Family
  f = sv.family

  abbrev group : Group
  group = group_of (accounts sv.family)

  abbrev Right : Beginning → Type 0
  Right b = b.store ≡ store_below group b.view

  genesis-right : (b : Beginning) → b ≡ genesis → Right b
  unfolding store_over
  genesis-right b is = subst Right (sym is) refl

  -- one who attests a state made it
  module _ (c : Correct) (m : Mem c f.correct) (j : Joining) (offered : Contains (sv.joinings (end_of f.setting c).me) j) where
    abbrev p : Process
    p = end_of f.setting c

    joined : Mem j (sv.joinings p.me)
    joined = Contains-mem (sv.joinings p.me) j offered

    one : IsOneView f j.view
    one = one-view f premises.family c m j.view
        (Contains-mem (views_of p) j.view
        (All-mem (λ j. Contains (views_of p) j.view) (sv.joinings p.me) j
        (All-mem (λ (q : Process). All (λ j. Contains (views_of q) j.view) (sv.joinings q.me)) (ends f) p premises.views (in-ends f c m)) joined))

    record Attested (state : List ℕ) : Type 0 where
      pub by : Correct
      pub correct : Mem by f.correct
      pub item : StateRecord
      pub view : item.view ≡ j.view.number
      pub state_is : state ≡ item.state
      pub made : MadeState sv (end_of f.setting by) item

    attested : (state : List ℕ) → state_of sv j ≡ Some state → Attested state
    attested state ready =
        let many = ready_is_attested f.setting.valid f.setting.group j.view j.offered state ready in
        let test : ℕ → Bool = attests f.setting.valid f.setting.group j.view j.offered state in
        let by = some-correct f j.view one test
        (subst (λ k. faulty (length j.view.members) < k) (sym (length-filter test j.view.members)) many) in
        let found = list_any-mem (λ r. (r.1.signer == by.0.me) && ((r.1.view == j.view.number)
        && (is_signed f.setting.valid f.setting.group r.0 r.1 && same_bytes state r.1.state))) j.offered by.2 in
        let r : Option (List ℕ) × StateRecord = found.0 in
        let signer : r.1.signer ≡ by.0.me = eqb-true r.1.signer by.0.me (and-first (r.1.signer == by.0.me) _ found.2) in
        let rest = and-second (r.1.signer == by.0.me) _ found.2 in
        let view : r.1.view ≡ j.view.number = eqb-true r.1.view j.view.number (and-first (r.1.view == j.view.number) _ rest) in
        let rest' = and-second (r.1.view == j.view.number) _ rest in
        let signed = and-first (is_signed f.setting.valid f.setting.group r.0 r.1) _ rest' in
        let own = All-mem (IsOwnState sv) j.offered r
        (All-mem (λ (j : Joining). All (IsOwnState sv) j.offered) (sv.joinings p.me) j
        (All-mem (λ (q : Process). All (λ j. All (IsOwnState sv) j.offered) (sv.joinings q.me)) (ends f) p premises.honest (in-ends f c m)) joined)
        found.1 in
        record {
          by = by.0;
          correct = by.1;
          item = r.1;
          view = view;
          state_is = same-is state r.1.state (and-second (is_signed f.setting.valid f.setting.group r.0 r.1) _ rest');
          made = All-mem (λ q. q.me ≡ r.1.signer → MadeState sv q r.1) (ends f) (end_of f.setting by.0) (own signed) (in-ends f by.0 by.1)
              (me-end_of f.setting by.0 ∙ sym signer);
        }

  -- from view to view
  below : (n : ℕ) (c : Correct) → Mem c f.correct → (b : Beginning) → Begins sv (end_of f.setting c).me b → b.view < n → Right b
  below zero c m b from lt = absurd (omega (arith, lt))
  below (suc n) c m b (inl is) lt = genesis-right b is
  below (suc n) c m b (inr t) lt =
      let made = attested c m t.joining t.offered t.state t.ready in
      let gives = made.made.gives in
      let b' : Beginning = made.made.beginning in
      let x : ℕ = made.item.view in
      let right : Right b' = earlier made.made.beginning x (made.view ∙ sym t.view) made.by made.correct (below n) made.made.from in
      let store : store_at (account_of (end_of f.setting made.by)) b' x ≡ store_below group x =
      store-is f premises.family made.by made.correct b' right x gives.holds in
      let spelled : t.state ≡ store_bytes (store_below group x) = made.state_is ∙ gives.state ∙ ap store_bytes store in
      let read : store_of t.state ≡ Ok (store_below group x) = ap store_of spelled ∙ store_is_read (store_below group x) (below-store group x) in
      ok_is b.store (store_below group x) (sym t.store ∙ read) ∙ ap (store_below group) (made.view ∙ sym t.view)
    where
      earlier : (b' : Beginning) (x : ℕ) → x ≡ b.view → (by : Correct) → Mem by f.correct
          → ((c : Correct) → Mem c f.correct → (b : Beginning) → Begins sv (end_of f.setting c).me b → b.view < n → Right b)
          → (b' ≡ genesis) ⊎ (TookIn sv (end_of f.setting by).me b' × (b'.view < x)) → Right b'
      earlier b' x is by correct before (inl first) = genesis-right b' first
      earlier b' x is by correct before (inr took) =
          before by correct b' (inr took.0) (let a = took.1 in omega (arith, a, is, lt))

  pub right : (c : Correct) → Mem c f.correct → (b : Beginning) → Begins sv (end_of f.setting c).me b → Right b
  right c m b from = below (suc b.view) c m b from (omega arith)

pub joiners_hold_the_store : JoinersHoldTheStore
joiners_hold_the_store sv premises =
    mem-All (λ p. (b : Beginning) → Begins sv p.me b → b.store ≡ store_below (group_of (accounts sv.family)) b.view) (ends sv.family)
    (λ p there b from.
    let c = map-mem (end_of sv.family.setting) sv.family.correct p there in
    right sv premises c.0 c.1 b (subst (λ (q : Process). Begins sv q.me b) (sym c.2) from))
