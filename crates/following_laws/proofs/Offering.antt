-- A server follows its process through offers of states.
use Rattle.std.proofs.Common.{◌≡◌, ◌≢◌, ℕ, zero, suc, ◌+◌, ◌-◌, ◌<◌, List, [], ◌∷◌, ◌++◌, length, Option, Some, None, Ok, Err, Bool, true, false, refl, sym, ap, ◌∙◌, subst, arith}
use Rattle.std.specs.Prelude.{if◌then◌else◌, ◌&&◌, ◌||◌, ◌==◌, not, nat_lt, is_some, Contains}
use Rattle.std.specs.List.{list_any}
use Rattle.std.specs.Option.{option_or, unwrap_or}
use Rattle.std.specs.Int.{w32}
use Rattle.std.proofs.lemmas.Bool.{eqb-true, le-leb, le-ltb}
use Rattle.byte_defs.specs.Choices.{first_that_holds}
use Rattle.byte_defs.specs.Fields.{◌>>=◌, refuse_if, number_at, bytes_at}
use Rattle.byte_defs.proofs.Fields.{bind_ok, ok_is, refuse_ok}
use Rattle.message_defs.specs.Limits.{last_process, most_signature_bytes}
use Rattle.group_defs.specs.Views.{is_member}
use Rattle.group_defs.specs.Process.{Process, views_of}
use Rattle.group_defs.specs.Accounts.{account_of, delivered_in}
use Rattle.pool_laws.proofs.Places.{Compared, ahead, behind, compared, level, take-one}
use Rattle.safety_laws.proofs.ViewsOf.{current-at}
use Rattle.store_defs.specs.Stores.{Reading, Store, store_after, store_of, text_within}
use Rattle.store_defs.specs.Records.{StateRecord, short_at, small_at, state_at, state_record_of}
use Rattle.store_defs.specs.declared.Taken.{Taken}
use Rattle.store_defs.specs.declared.Taken.TheVariants as taken
use Rattle.store_defs.specs.Transfers.{Transfer, new_transfer, offer, transfer_after, with_record}
use Rattle.store_defs.specs.Votes.{Valid}
use Rattle.store_defs.specs.Holding.{Beginning, holds, payloads_of, stayed, store_at, store_over, was_member}
use Rattle.store_defs.specs.Serving.{Grammar, Held, OfferWord, OtherView, Place, Ready, Server, after_offer, after_taken, handed_key, held, offer_word, store_from, taken_by, word_of_taken}
use Rattle.store_defs.specs.Laws.{Follows, Services, TookIn, given_now}
use Rattle.store_laws.proofs.Staying.{broken, done}
use Rattle.store_laws.proofs.Tests.{or-none}
use Rattle.following_laws.specs.Laws.{Collects, OfferFollows, Offered, TakesOver, with_offer}

-- ---- the state of a record is a store's

record Spells (state : List ℕ) : Type 0 where
  pub store : Store
  pub is : store_of state ≡ Ok store

state-spells : (bytes : List ℕ) (out : List ℕ × List ℕ) → state_at bytes ≡ Ok out → Spells out.0
unfolding state_at
state-spells bytes out e =
    let n = bind_ok (number_at broken w32 bytes)
    (λ len. bytes_at broken len.0 len.1 >>= λ state. store_of state.0 >>= λ _. done state) out e in
    let b = bind_ok (bytes_at broken n.0.0 n.0.1) (λ state. store_of state.0 >>= λ _. done state) out n.2 in
    let s = bind_ok (store_of b.0.0) (λ _. done b.0) out b.2 in
    subst (λ (z : List ℕ × List ℕ). Spells z.0) (ok_is b.0 out s.2) (record { store = s.0; is = s.1 })

abbrev state_so : ℕ → ℕ → List ℕ → List ℕ → StateRecord
state_so g x t s = record { signer = g; view = x; state = t; signature = s }

abbrev end_state : ℕ → ℕ → List ℕ → List ℕ × List ℕ → Reading StateRecord
end_state g x t s = refuse_if (nat_lt 0 (length s.1)) broken >>= λ _. done (state_so g x t s.0)

abbrev then_state : ℕ → ℕ → List ℕ × List ℕ → Reading StateRecord
then_state g x t = text_within most_signature_bytes t.1 >>= end_state g x t.0

abbrev then_number : ℕ → ℕ × List ℕ → Reading StateRecord
then_number g x = state_at x.1 >>= then_state g x.0

abbrev then_giver : ℕ × List ℕ → Reading StateRecord
then_giver g = short_at g.1 >>= then_number g.0

record-spells : (bytes : List ℕ) (r : StateRecord) → state_record_of bytes ≡ Ok r → Spells r.state
unfolding state_record_of
record-spells bytes r e =
    let g = bind_ok (small_at last_process bytes) then_giver r e in
    let x = bind_ok (short_at g.0.1) (then_number g.0.0) r g.2 in
    let t = bind_ok (state_at x.0.1) (then_state g.0.0 x.0.0) r x.2 in
    let s = bind_ok (text_within most_signature_bytes t.0.1) (end_state g.0.0 x.0.0 t.0.0) r t.2 in
    let end = refuse_ok (nat_lt 0 (length s.0.1)) broken (λ _. done (state_so g.0.0 x.0.0 t.0.0 s.0.0)) r s.2 in
    subst (λ (z : StateRecord). Spells z.state) (ok_is (state_so g.0.0 x.0.0 t.0.0 s.0.0) r end.1) (state-spells x.0.1 t.0 t.1)

-- ---- lists of offers

transfer-more : (valid : Valid) (group : List ℕ) (rs : List Offered) (r : Offered) (t : Transfer)
    → transfer_after valid group t (rs ++ r ∷ [])
    ≡ with_record (transfer_after valid group t rs) r.1 (offer valid group r.0 (transfer_after valid group t rs) r.1)
unfolding transfer_after
transfer-more valid group [] r t = refl
transfer-more valid group (s ∷ rs) r t = transfer-more valid group rs r (with_record t s.1 (offer valid group s.0 t s.1))

none-is : {A : Type 0} (o : Option A) → is_some o ≡ false → o ≡ None
none-is None e = refl
none-is (Some x) e = absurd cc

held-none : {A : Type 0} (h : Bool) (x : A) → held h x ≡ None → h ≡ false
held-none true x e = absurd cc
held-none false x e = refl

held-true : {A : Type 0} (h : Bool) (x : A) → h ≡ true → held h x ≡ Some x
held-true true x e = refl
held-true false x e = absurd cc

held-false : {A : Type 0} (h : Bool) (x : A) → h ≡ false → held h x ≡ None
held-false true x e = absurd cc
held-false false x e = refl

-- ---- where a process has the store from its own view on

own-member : (p : Process) → was_member (account_of p) (length p.left) ≡ is_member p.pool.view p.me
own-member p = ap (list_any (λ v. is_member v p.me)) (take-one (views_of p) (length p.left) p.pool.view (current-at p))
    ∙ or-none (is_member p.pool.view p.me)

module _ (p : Process) (numbered : p.pool.view.number ≡ length p.left) (member : is_member p.pool.view p.me ≡ true) (b : Beginning)
    (own : b.view ≡ p.pool.view.number) where
  holds-own : holds (account_of p) b p.pool.view.number ≡ true
  unfolding stayed
  holds-own =
      let one : p.pool.view.number - b.view + 1 ≡ suc zero = omega (arith, own) in
      let here : b.view + zero ≡ length p.left = omega (arith, own, numbered) in
      (λ i. le-leb b.view p.pool.view.number (omega (arith, own)) i && stayed (account_of p) b.view (one i))
      ∙ ap (was_member (account_of p)) here
      ∙ own-member p
      ∙ member

  store-own : store_at (account_of p) b p.pool.view.number ≡ b.store
  unfolding store_over
  store-own =
      let none : p.pool.view.number - b.view ≡ zero = omega (arith, own) in
      ap (store_over (λ z. payloads_of (delivered_in (account_of p) z)) b.store b.view) none

-- ---- an offer

module _ (sv : Services) (p : Process) (q : Place) (b : Beginning) (s : Server) (offered : List Offered) (bytes : List ℕ)
    (numbered : p.pool.view.number ≡ length p.left) (me : q.me ≡ p.me) (group : q.group ≡ sv.family.setting.group) (ok : Follows p b s)
    (collected : Collects sv.family.setting.valid q.group offered s) where
  abbrev valid : Valid
  valid = sv.family.setting.valid

  abbrev here : List (List ℕ)
  here = payloads_of p.delivered

  -- what it answers, what comes of the server and of the records, by what the bytes say, whether it has the store, and is a member
  abbrev word_by : Reading StateRecord → Bool → Bool → OfferWord
  word_by o h m = elim o [
    | Err fault ↦ Grammar
    | Ok r ↦ unwrap_or (first_that_holds ((h, Held) ∷ (not m, OtherView) ∷ [])) (word_of_taken (taken_by valid q s r))
  ]

  abbrev server_by : Reading StateRecord → Bool → Bool → Server
  server_by o h m = elim o [ Err fault ↦ s | Ok r ↦ if h || not m then s else after_taken here s r (taken_by valid q s r) ]

  abbrev list_by : Reading StateRecord → Bool → Bool → List Offered
  list_by o h m = elim o [ Err fault ↦ offered | Ok r ↦ if h || not m then offered else offered ++ (handed_key s r.signer, r) ∷ [] ]

  record Goes (rs : List Offered) (word : OfferWord) (s' : Server) : Type 0 where
    pub collects : Collects valid q.group rs s'
    pub ready : word ≡ Ready → TakesOver sv p s'
    pub other : word ≢ Ready → Follows p b s'

  stays : (word : OfferWord) → (word ≡ Ready → ⊥) → Goes offered word s
  stays word not-ready = record { collects = collected; ready = λ e. absurd (not-ready e); other = λ e. ok }

  -- of a record that reaches the transfer
  module _ (r : StateRecord) (spells : Spells r.state) (none : s.store ≡ None) (member : is_member s.view q.me ≡ true)
      (joining : Contains (sv.joinings p.me) (record { view = p.pool.view; offered = offered ++ (handed_key s r.signer, r) ∷ [] })) where
    abbrev rs : List Offered
    rs = offered ++ (handed_key s r.signer, r) ∷ []

    is-member : is_member p.pool.view p.me ≡ true
    is-member = (λ i. is_member (sym ok.view i) (sym me i)) ∙ member

    next-transfer : with_record s.transfer r (taken_by valid q s r) ≡ transfer_after valid q.group (new_transfer s.view) rs
    next-transfer =
        ap (λ t. with_record t r (offer valid q.group (handed_key s r.signer) t r)) collected.transfer
        ∙ sym (transfer-more valid q.group offered (handed_key s r.signer, r) (new_transfer s.view))

    not-held : holds (account_of p) b p.pool.view.number ≡ false
    not-held = held-none (holds (account_of p) b p.pool.view.number) _ (sym ok.store ∙ none)

    -- it would hold the store in its own view, had it begun there
    earlier : b.view < p.pool.view.number
    earlier = go (compared b.view p.pool.view.number)
      where
        no : {c : Bool} → c ≡ false → c ≡ true → ⊥
        no e f = cc

        go : Compared b.view p.pool.view.number → b.view < p.pool.view.number
        go (ahead lt) = lt
        go (level is) = absurd (no not-held (holds-own p numbered is-member b is))
        go (behind gt) = absurd (let le = ok.begun in omega (arith, le, gt))

    -- with a state more, and no more than that
    counts : (k : Taken) → taken_by valid q s r ≡ k → (with_record s.transfer r k).state ≡ None
        → Collects valid q.group rs (record s { transfer = with_record s.transfer r k })
    counts k e none' = record {
      transfer = ap (with_record s.transfer r) (sym e) ∙ next-transfer;
      waiting = λ empty. none';
    }

    goes-on : (k : Taken) → Follows p b (record s { transfer = with_record s.transfer r k })
    goes-on k = record { begun = ok.begun; view = ok.view; delivered = ok.delivered; store = ok.store; gives = ok.gives }

    waits : (k : Taken) → taken_by valid q s r ≡ k → (with_record s.transfer r k).state ≡ None → (word_of_taken k ≡ Ready → ⊥)
        → Goes rs (word_of_taken k) (record s { transfer = with_record s.transfer r k })
    waits k e none' not-ready = record {
      collects = counts k e none';
      ready = λ word. absurd (not-ready word);
      other = λ word. goes-on k;
    }

    still : s.transfer.state ≡ None
    still = collected.waiting none

    -- ---- ready

    abbrev from : Beginning
    from = record { view = p.pool.view.number; store = spells.store }

    abbrev ready_transfer : Transfer
    ready_transfer = with_record s.transfer r taken.Ready

    abbrev ready_server : Server
    ready_server = after_taken here s r taken.Ready

    ready-state : ready_transfer.state ≡ Some r.state
    ready-state = ap (λ o. option_or o (Some r.state)) still

    ready-store : ready_server.store ≡ Some (store_after spells.store here)
    ready-store =
        ap (λ (o : Option (List ℕ)). elim o [ None ↦ None | Some state ↦ store_from state here ]) ready-state
        ∙ ap (λ (o : Reading Store). elim o [ Ok store ↦ Some (store_after store here) | Err fault ↦ None ]) spells.is

    ready-transfer : taken_by valid q s r ≡ taken.Ready → ready_transfer ≡ transfer_after valid q.group (new_transfer s.view) rs
    ready-transfer e = ap (with_record s.transfer r) (sym e) ∙ next-transfer

    gives-none : given_now p from ≡ None
    gives-none = held-false _ _ (both (holds (account_of p) from p.pool.view.number) (p.pool.view.number == 0) refl
        (le-ltb p.pool.view.number p.pool.view.number (omega arith)))
      where
        both : (h z : Bool) → (p.pool.view.number == 0) ≡ z → nat_lt p.pool.view.number p.pool.view.number ≡ false
            → (h && (z || nat_lt p.pool.view.number p.pool.view.number)) ≡ false
        both h true e f = absurd (let is = eqb-true p.pool.view.number 0 e in let lt = earlier in omega (arith, is, lt))
        both true false e f = f
        both false false e f = refl

    follows-ready : Follows p from ready_server
    follows-ready = record {
      begun = omega arith;
      view = ok.view;
      delivered = ok.delivered;
      store = ready-store
          ∙ ap (λ t. Some (store_after t here)) (sym (store-own p numbered is-member from refl))
          ∙ sym (held-true (holds (account_of p) from p.pool.view.number) _ (holds-own p numbered is-member from refl));
      gives = ok.gives
          ∙ held-false _ _ (ap (λ h. h && (b.view == 0 || nat_lt b.view p.pool.view.number)) not-held)
          ∙ sym gives-none;
    }

    took : taken_by valid q s r ≡ taken.Ready → TookIn sv p.me from
    took e = record {
      joining = record { view = p.pool.view; offered = rs };
      offered = joining;
      view = refl;
      state = r.state;
      ready =
          (λ i. (transfer_after valid (sym group i) (new_transfer (sym ok.view i)) rs).state)
          ∙ ap (λ (t : Transfer). t.state) (sym (ready-transfer e))
          ∙ ready-state;
      store = spells.is;
    }

    takes-over : taken_by valid q s r ≡ taken.Ready → TakesOver sv p ready_server
    takes-over e = record {
      beginning = from;
      view = refl;
      later = (let lt = earlier in omega (arith, lt));
      took = took e;
      follows = follows-ready;
    }

    some-none : {A : Type 0} {x : A} {o : Option A} → o ≡ Some x → o ≡ None → ⊥
    some-none e f = cc

    counted : (k : Taken) → taken_by valid q s r ≡ k → Goes rs (word_of_taken k) (after_taken here s r k)
    counted taken.Ready e = record {
      collects = record { transfer = ready-transfer e; waiting = λ empty. absurd (some-none ready-store empty) };
      ready = λ word. takes-over e;
      other = λ not-ready. absurd (not-ready refl);
    }
    counted (taken.Counted n) e = waits (taken.Counted n) e still (λ word. cc)
    counted taken.OtherView e = waits taken.OtherView e still (λ word. cc)
    counted taken.Stranger e = waits taken.Stranger e still (λ word. cc)
    counted taken.Unsigned e = waits taken.Unsigned e still (λ word. cc)
    counted taken.Known e = waits taken.Known e still (λ word. cc)

  goes : (o : Reading StateRecord) → state_record_of bytes ≡ o → (h : Bool) → is_some s.store ≡ h → (m : Bool) → is_member s.view q.me ≡ m
      → Contains (sv.joinings p.me) (record { view = p.pool.view; offered = list_by o h m })
      → Goes (list_by o h m) (word_by o h m) (server_by o h m)
  goes (Err fault) e h has m is joining = stays Grammar (λ f. cc)
  goes (Ok r) e true has m is joining = stays Held (λ f. cc)
  goes (Ok r) e false has false is joining = stays OtherView (λ f. cc)
  goes (Ok r) e false has true is joining =
      counted r (record-spells bytes r e) (none-is s.store has) is joining (taken_by valid q s r) refl

pub offer_follows : OfferFollows
unfolding offer_word after_offer with_offer
offer_follows sv p q b s offered bytes numbered me group ok collects joining =
    let it = goes sv p q b s offered bytes numbered me group ok collects (state_record_of bytes) refl (is_some s.store) refl
    (is_member s.view q.me) refl joining in
    record { collects = it.collects; ready = it.ready; other = it.other }

-- an offer is no message
pub last-kept : (valid : Valid) (q : Place) (here : List (List ℕ)) (s : Server) (bytes : List ℕ)
    → (after_offer valid q here s bytes).last ≡ s.last
unfolding after_offer
last-kept valid q here s bytes = go (state_record_of bytes)
  where
    by : (r : StateRecord) (k : Taken) → (after_taken here s r k).last ≡ s.last
    by r taken.Ready = refl
    by r (taken.Counted n) = refl
    by r taken.OtherView = refl
    by r taken.Stranger = refl
    by r taken.Unsigned = refl
    by r taken.Known = refl

    either : (r : StateRecord) (b : Bool) (s' : Server) → s'.last ≡ s.last
        → (if b then s else s').last ≡ s.last
    either r true s' e = refl
    either r false s' e = e

    go : (o : Reading StateRecord) → let s' : Server = elim o [
      | Err fault ↦ s
      | Ok r ↦ if is_some s.store || not (is_member s.view q.me) then s else after_taken here s r (taken_by valid q s r)
    ] in s'.last ≡ s.last
    go (Err fault) = refl
    go (Ok r) = either r (is_some s.store || not (is_member s.view q.me)) (after_taken here s r (taken_by valid q s r))
        (by r (taken_by valid q s r))
