-- Along a run a server follows its process, so what it signs is its process's.
use Rattle.std.proofs.Common.{◌≡◌, ◌≢◌, ◌⊎◌, inl, inr, ℕ, suc, ◌<◌, ◌≤◌, List, [], ◌∷◌, ◌++◌, map, length, Option, Some, None, Bool, true, false, refl, sym, ap, ◌∙◌, subst, arith}
use Rattle.std.specs.Prelude.{if◌then◌else◌, ◌&&◌, ◌||◌, ◌==◌, nat_le, nat_lt, option_map, Contains}
use Rattle.std.proofs.lemmas.Bool.{eqb-true, ltb-true}
use Rattle.std.proofs.lemmas.List.{append_assoc}
use Rattle.message_defs.specs.Statements.{Claim}
use Rattle.group_defs.specs.Views.{View}
use Rattle.group_defs.specs.Process.{Setting, Delivered, Process, start}
use Rattle.group_defs.specs.Accounts.{Account, IsPrefixOf, account_of, group_of}
use Rattle.group_defs.specs.Family.{Correct, accounts, end_of, ends, handed_to}
use Rattle.group_defs.specs.Settle.{install}
use Rattle.group_defs.specs.Events.{Delivers, Installs, Turn, after, note_if, outcome, run}
use Rattle.pool_laws.proofs.Members.{All-mem, Contains-mem}
use Rattle.pool_laws.proofs.Places.{length-snoc}
use Rattle.pool_laws.proofs.Tests.{and-first, and-second}
use Rattle.safety_laws.proofs.GroupGrows.{run-append}
use Rattle.safety_laws.proofs.Induction.{Keeps, run-keeps}
use Rattle.safety_laws.proofs.Quorums.{in-ends}
use Rattle.store_defs.specs.Stores.{Store, applied, store_after, store_bytes}
use Rattle.store_defs.specs.Records.{Reply, StateRecord, reply_body, state_body}
use Rattle.store_defs.specs.Transfers.{Transfer, new_transfer, transfer_after}
use Rattle.store_defs.specs.Holding.{Beginning, Gives, Replies, genesis, holds, payloads_of, store_at, store_below}
use Rattle.store_defs.specs.Serving.{Given, Grammar, Held, Known, NoState, NoStateLeaf, OfferWord, OtherView, Place, Ready, Server, Stranger, TakenSoFar, Unsigned, after_message, after_note, after_notes, after_offer, after_view, held, offer_word, position_at, server_of, signed_state, state_given, unsigned_state}
use Rattle.store_defs.specs.Words.{Give, State, StateKey}
use Rattle.store_defs.specs.Services.{worded}
use Rattle.store_defs.specs.Laws.{Begins, Follows, MadeReply, MadeState, ServicePremises, Services, TookIn}
use Rattle.store_laws.proofs.Following.{begins_following, turn_follows}
use Rattle.store_laws.proofs.Holding as laws
use Rattle.store_laws.proofs.Joining.{right}
use Rattle.store_laws.proofs.Leaves.{one_reply_per_leaf, one_state_per_leaf}
use Rattle.following_laws.specs.Laws.{Collects, FollowsOffers, OpensPlaces, with_offer}
use Rattle.following_laws.specs.Runs.{Happens, Moment, RunGives, RunHolds, RunReplies, RunsGiveOnce, RunsReplyOnce, TakesWord, ServedRun, Step, WritesReply, WritesState, after_step, begin, reached, turns_in}
use Rattle.following_laws.proofs.Growing.{Extends, as-it-is, gives_stay, holds-is, keeps, on-along, replies_stay, store-is}
use Rattle.following_laws.proofs.Turns.{TurnSo, turn-so}
use Rattle.following_laws.proofs.Replying.{notes-more, quiet-stays, turn_opens_places, turn_replies}
use Rattle.following_laws.proofs.Offering.{last-kept, offer_follows}

-- ---- views are numbered by how many were left

abbrev Numbered : Process → Type 0
Numbered p = p.pool.view.number ≡ length p.left

numbered-keeps : (s : Setting) (from : List Claim) → Keeps s from Numbered
numbered-keeps s from = record {
  accepts = λ p payload ok. ok;
  perceives = λ p e ok. ok;
  hears = λ p c m e ok. ok;
  doubts = λ p conflicts ok. ok;
  signs = λ p signer st next none ok. ok;
  decides = λ p ok. ok;
  delivers = λ p ds member room e ok. ok;
  installs = λ p d decided whole ok.
      (let longer : length (install d p).left ≡ suc (length p.left) = length-snoc p.left _ in omega (arith, longer, ok));
  halts = λ p d decided member ok. ok;
}

-- ---- what notes leave of a transfer

record Waits (s r : Server) : Type 0 where
  pub view : r.view ≡ s.view
  pub transfer : r.transfer ≡ s.transfer
  pub store : r.store ≡ None → s.store ≡ None

unmapped : {A B : Type 0} (f : A → B) (o : Option A) → option_map f o ≡ None → o ≡ None
unmapped f None e = refl
unmapped f (Some x) e = absurd cc

messages-wait : (q : Place) (x : ℕ) (ds : List Delivered) (s : Server) → Waits s (after_notes q s (map (Delivers x) ds))
unfolding after_notes after_note
messages-wait q x [] s = record { view = refl; transfer = refl; store = λ e. e }
messages-wait q x (d ∷ ds) s =
    let rest = messages-wait q x ds (after_message s d) in
    record {
      view = rest.view;
      transfer = rest.transfer;
      store = λ e. unmapped (λ (t : Store). (applied t d.payload).1) s.store (rest.store e);
    }

module _ (setting : Setting) (q : Place) (m : Moment) (t : Turn) (valid : List ℕ → List ℕ → List ℕ → Bool) (group : List ℕ)
    (collects : Collects valid group m.offered m.server) where
  abbrev p : Process
  p = m.process

  abbrev r : Process
  r = after setting m.process t

  abbrev so : TurnSo m.process (after setting m.process t) (outcome setting m.process t).notes
  so = turn-so setting m.process t

  abbrev reported : Server
  reported = after_notes q m.server (map (Delivers m.process.pool.view.number) so.on.more)

  collects-by : (i : Bool) → Collects valid group (if i then [] else m.offered)
      (after_notes q reported (note_if i (Installs r.pool.view) ++ so.rest))
  unfolding after_notes after_note transfer_after
  collects-by true = subst (Collects valid group []) (sym (quiet-stays q (after_view q reported r.pool.view) so.rest so.quiet)) (record {
    transfer = refl;
    waiting = λ e. refl;
  })
  collects-by false =
      let waits = messages-wait q p.pool.view.number so.on.more m.server in
      subst (Collects valid group m.offered) (sym (quiet-stays q reported so.rest so.quiet)) (record {
        transfer = waits.transfer ∙ collects.transfer ∙ ap (λ v. transfer_after valid group (new_transfer v) m.offered) (sym waits.view);
        waiting = λ e. ap (λ (t : Transfer). t.state) waits.transfer ∙ collects.waiting (waits.store e);
      })

  collects-on : Collects valid group (if nat_lt (length p.left) (length r.left) then [] else m.offered)
      (after_notes q m.server (outcome setting p t).notes)
  collects-on =
      let i : Bool = nat_lt (length p.left) (length r.left) in
      subst (λ ns. Collects valid group (if i then [] else m.offered) (after_notes q m.server ns)) (sym so.notes)
      (subst (Collects valid group (if i then [] else m.offered))
      (sym (notes-more q m.server (map (Delivers p.pool.view.number) so.on.more) _))
      (collects-by i))

-- ---- a moment of a run

-- where the process has the store from: a state was taken in no view but a later one
abbrev HasFrom : Services → ℕ → Beginning → Type 0
HasFrom sv me b = (b ≡ genesis) ⊎ (TookIn sv me b × (0 < b.view))

begins : (sv : Services) (me : ℕ) (b : Beginning) → HasFrom sv me b → Begins sv me b
begins sv me b (inl is) = inl is
begins sv me b (inr took) = inr took.0

record Serves (sv : Services) (q : Place) (m : Moment) : Type 0 where
  pub numbered : Numbered m.process
  pub me : q.me ≡ m.process.me
  pub beginning : Beginning
  pub from : HasFrom sv m.process.me beginning
  pub follows : Follows m.process beginning m.server
  pub opens : OpensPlaces m.process m.server
  pub collects : Collects sv.family.setting.valid q.group m.offered m.server

begins-so : (sv : Services) (q : Place) (p : Process) → Numbered p → q.me ≡ p.me → Serves sv q (begin p)
unfolding server_of transfer_after
begins-so sv q p numbered me = record {
  numbered = numbered;
  me = me;
  beginning = genesis;
  from = inl refl;
  follows = begins_following p;
  opens = λ k le. refl;
  collects = record { transfer = refl; waiting = λ e. refl };
}

-- what each turn keeps, this one does
turn-keeps : (setting : Setting) (P : Process → Type 0) → ((from : List Claim) → Keeps setting from P) → (p : Process) (t : Turn) → P p
    → P (after setting p t)
unfolding run
turn-keeps setting P k p t ok = run-keeps setting P (t ∷ []) (k (handed_to (t ∷ []))) p ok

is-ready : (w : OfferWord) → (w ≡ Ready) ⊎ (w ≢ Ready)
is-ready Ready = inl refl
is-ready Grammar = inr (λ e. cc)
is-ready Held = inr (λ e. cc)
is-ready OtherView = inr (λ e. cc)
is-ready Stranger = inr (λ e. cc)
is-ready Unsigned = inr (λ e. cc)
is-ready Known = inr (λ e. cc)
is-ready (TakenSoFar n) = inr (λ e. cc)

module _ (sv : Services) (q : Place) (group : q.group ≡ sv.family.setting.group) where
  abbrev setting : Setting
  setting = sv.family.setting

  abbrev IsJoining : Moment → Type 0
  IsJoining m = Contains (sv.joinings q.me) (record { view = m.process.pool.view; offered = m.offered })

  -- where the step offers a state
  abbrev JoinsBy : Moment → Step → Type 0
  JoinsBy m (Happens t) = Unit {0}
  JoinsBy m (TakesWord Give) = Unit {0}
  JoinsBy m (TakesWord (State bytes)) = IsJoining (after_step setting q m (TakesWord (State bytes)))
  JoinsBy m (TakesWord (StateKey p key)) = Unit {0}

  module _ (m : Moment) (ok : Serves sv q m) where
    with-event : (t : Turn) → Serves sv q (after_step setting q m (Happens t))
    unfolding after_step
    with-event t =
        let same : (after setting m.process t).me ≡ m.process.me =
        (turn-keeps setting (Extends m.process) (λ from. keeps setting from m.process) m.process t (as-it-is m.process)).me in
        record {
          numbered = turn-keeps setting Numbered (numbered-keeps setting) m.process t ok.numbered;
          me = ok.me ∙ sym same;
          beginning = ok.beginning;
          from = subst (λ n. HasFrom sv n ok.beginning) (sym same) ok.from;
          follows = turn_follows setting m.process t q ok.beginning m.server ok.numbered ok.me ok.follows;
          opens = turn_opens_places setting m.process t q m.server ok.opens;
          collects = collects-on setting q m t setting.valid q.group ok.collects;
        }

    module _ (bytes : List ℕ) (joining : Contains (sv.joinings q.me)
        (record { view = m.process.pool.view; offered = with_offer q m.server bytes m.offered })) where
      abbrev offered_server : Server
      offered_server = after_offer setting.valid q (payloads_of m.process.delivered) m.server bytes

      it : FollowsOffers sv m.process q ok.beginning m.server m.offered bytes
      it = offer_follows sv m.process q ok.beginning m.server m.offered bytes ok.numbered ok.me group ok.follows ok.collects
          (subst (λ n. Contains (sv.joinings n) (record { view = m.process.pool.view; offered = with_offer q m.server bytes m.offered }))
          ok.me joining)

      opens-still : OpensPlaces m.process offered_server
      opens-still k le =
          ap (λ last. position_at last k) (last-kept setting.valid q (payloads_of m.process.delivered) m.server bytes) ∙ ok.opens k le

      offered-so : (b : Beginning) → HasFrom sv m.process.me b → Follows m.process b offered_server
          → Serves sv q (record { process = m.process; server = offered_server; offered = with_offer q m.server bytes m.offered })
      offered-so b from follows = record {
        numbered = ok.numbered;
        me = ok.me;
        beginning = b;
        from = from;
        follows = follows;
        opens = opens-still;
        collects = it.collects;
      }

      with-offered : Serves sv q (record { process = m.process; server = offered_server; offered = with_offer q m.server bytes m.offered })
      with-offered = by (is-ready (offer_word setting.valid q m.server bytes))
        where
          by : (offer_word setting.valid q m.server bytes ≡ Ready) ⊎ (offer_word setting.valid q m.server bytes ≢ Ready)
              → Serves sv q (record { process = m.process; server = offered_server; offered = with_offer q m.server bytes m.offered })
          by (inl e) =
              let over = it.ready e in
              let later = over.later in
              let view = over.view in
              offered-so over.beginning (inr (over.took, omega (arith, later, view))) over.follows
          by (inr e) = offered-so ok.beginning ok.from (it.other e)

    with-step : (step : Step) → JoinsBy m step → Serves sv q (after_step setting q m step)
    unfolding after_step worded
    with-step (Happens t) joining = with-event t
    with-step (TakesWord Give) joining = record {
      numbered = ok.numbered;
      me = ok.me;
      beginning = ok.beginning;
      from = ok.from;
      follows = ok.follows;
      opens = ok.opens;
      collects = ok.collects;
    }
    with-step (TakesWord (State bytes)) joining = with-offered bytes joining
    with-step (TakesWord (StateKey p key)) joining = record {
      numbered = ok.numbered;
      me = ok.me;
      beginning = ok.beginning;
      from = ok.from;
      follows = record {
        begun = ok.follows.begun;
        view = ok.follows.view;
        delivered = ok.follows.delivered;
        store = ok.follows.store;
        gives = ok.follows.gives;
      };
      opens = ok.opens;
      collects = record { transfer = ok.collects.transfer; waiting = ok.collects.waiting };
    }

  abbrev AreJoinings : Moment → List Step → Type 0
  AreJoinings m steps = (front : List Step) (bytes : List ℕ) → IsPrefixOf (front ++ TakesWord (State bytes) ∷ []) steps
      → IsJoining (reached setting q m (front ++ TakesWord (State bytes) ∷ []))

  first-joins : (m : Moment) (step : Step) (steps : List Step) → AreJoinings m (step ∷ steps) → JoinsBy m step
  unfolding reached
  first-joins m (Happens t) steps joinings = tt
  first-joins m (TakesWord Give) steps joinings = tt
  first-joins m (TakesWord (State bytes)) steps joinings = joinings [] bytes (steps, refl)
  first-joins m (TakesWord (StateKey p key)) steps joinings = tt

  along : (steps : List Step) (m : Moment) → Serves sv q m → AreJoinings m steps → Serves sv q (reached setting q m steps)
  unfolding reached
  along [] m ok joinings = ok
  along (step ∷ steps) m ok joinings =
      along steps (after_step setting q m step) (with-step m ok step (first-joins m step steps joinings))
      (λ front bytes is. joinings (step ∷ front) bytes (is.0, ap (λ l. step ∷ l) is.1))

  -- the process of a moment
  process-is : (steps : List Step) (m : Moment) → (reached setting q m steps).process ≡ run setting m.process (turns_in steps)
  unfolding reached after_step run
  process-is [] m = refl
  process-is (Happens t ∷ steps) m = process-is steps (after_step setting q m (Happens t))
  process-is (TakesWord word ∷ steps) m = process-is steps (after_step setting q m (TakesWord word))

turns-append : (front back : List Step) → turns_in (front ++ back) ≡ turns_in front ++ turns_in back
turns-append [] back = refl
turns-append (Happens t ∷ front) back = ap (λ ts. t ∷ ts) (turns-append front back)
turns-append (TakesWord word ∷ front) back = turns-append front back

-- ---- a run of a correct process

module _ (sv : Services) (c : Correct) (q : Place) (steps : List Step) (it : ServedRun sv c q steps)
    (zeroth : sv.family.setting.genesis.number ≡ 0) where
  abbrev s : Setting
  s = sv.family.setting

  abbrev end : Process
  end = end_of sv.family.setting c

  abbrev started : Process
  started = start sv.family.setting c.me c.batch_limit

  abbrev begun : Process
  begun = run sv.family.setting (start sv.family.setting c.me c.batch_limit) it.earlier

  abbrev at : List Step → Moment
  at front = reached sv.family.setting q (begin (run sv.family.setting (start sv.family.setting c.me c.batch_limit) it.earlier)) front

  serves-at : (front rest : List Step) → steps ≡ front ++ rest → Serves sv q (at front)
  serves-at front rest parts = along sv q it.group front (begin begun)
      (begins-so sv q begun (run-keeps s Numbered it.earlier (numbered-keeps s _) started zeroth)
      (it.me ∙ sym (on-along s started it.earlier).me))
      (λ f bytes is. let g : List Step = f ++ TakesWord (State bytes) ∷ [] in
      subst (λ n. Contains (sv.joinings n) (record { view = (at g).process.pool.view; offered = (at g).offered })) (sym it.me)
      (it.joinings f bytes (is.0 ++ rest, sym (append_assoc g is.0 rest) ∙ ap (λ l. l ++ rest) is.1 ∙ sym parts)))

  -- the process at the end, from a moment on
  end-is : (front rest : List Step) → steps ≡ front ++ rest → end ≡ run s (at front).process (turns_in rest ++ it.later)
  end-is front rest parts =
      ap (run s started) it.turns
      ∙ run-append s started it.earlier (turns_in steps ++ it.later)
      ∙ ap (λ ts. run s begun (ts ++ it.later)) (ap turns_in parts ∙ turns-append front rest)
      ∙ ap (run s begun) (append_assoc (turns_in front) (turns_in rest) it.later)
      ∙ run-append s begun (turns_in front) (turns_in rest ++ it.later)
      ∙ ap (λ p. run s p (turns_in rest ++ it.later)) (sym (process-is sv q it.group front (begin begun)))

  module _ (leaf : ℕ) (r : Reply) (w : WritesReply sv.family.setting q
      (begin (run sv.family.setting (start sv.family.setting c.me c.batch_limit) it.earlier)) steps leaf r) where
    abbrev m : Moment
    m = at w.before

    ok : Serves sv q (at w.before)
    ok = serves-at w.before (Happens w.turn ∷ w.behind) w.steps_are

    abbrev turned : Process
    turned = after sv.family.setting (at w.before).process w.turn

    -- the reply is the process's as the turn leaves it
    replies-then : Replies (account_of turned) ok.beginning leaf r
    replies-then = subst (λ n. Replies (account_of turned) ok.beginning n r) (sym w.leaf_is)
        (turn_replies s m.process w.turn q ok.beginning m.server w.front w.rest w.view w.delivered r ok.numbered ok.me ok.follows ok.opens
        w.notes_are w.reported)

    end-turned : end ≡ run s turned (turns_in w.behind ++ it.later)
    unfolding run
    end-turned = end-is w.before (Happens w.turn ∷ w.behind) w.steps_are

    same-me : (run s turned (turns_in w.behind ++ it.later)).me ≡ m.process.me
    same-me = (on-along s turned (turns_in w.behind ++ it.later)).me
        ∙ (turn-keeps s (Extends m.process) (λ from. keeps s from m.process) m.process w.turn (as-it-is m.process)).me

    made-reply : MadeReply sv end leaf r
    made-reply = subst (λ (p : Process). MadeReply sv p leaf r) (sym end-turned) (record {
      beginning = ok.beginning;
      from = subst (λ n. Begins sv n ok.beginning) (sym same-me) (begins sv m.process.me ok.beginning ok.from);
      replies = replies_stay s turned (turns_in w.behind ++ it.later) ok.beginning leaf r replies-then;
    })

pub run_replies : RunReplies
run_replies sv c q steps it leaf r zeroth w = made-reply sv c q steps it zeroth leaf r w

-- ---- states

-- the state record that is made over this store
abbrev given_record : Place → Server → Store → StateRecord
given_record q s t = signed_state q (unsigned_state q.me s.view.number t)

given-is : (q : Place) (s : Server) (r : StateRecord) → state_given q s ≡ Given r
    → (t : Store) × (s.gives ≡ Some t) × (given_record q s t ≡ r)
unfolding state_given
given-is q s r e = go s.gives refl e
  where
    by : (w : StateRecord) (spent : Bool) → (if spent then NoStateLeaf else Given w) ≡ Given r → w ≡ r
    by w true e = absurd cc
    by w false e = cc

    go : (o : Option Store) → s.gives ≡ o
        → (elim o [ None ↦ NoState | Some t ↦ if nat_le q.states.total s.view.number then NoStateLeaf else Given (given_record q s t) ])
        ≡ Given r
        → (t : Store) × (s.gives ≡ Some t) × (given_record q s t ≡ r)
    go None is e = absurd cc
    go (Some t) is e = (t, is, by (given_record q s t) (nat_le q.states.total s.view.number) e)

held-is : {A : Type 0} (h : Bool) (x y : A) → held h x ≡ Some y → (h ≡ true) × (y ≡ x)
held-is true x y e = (refl, cc)
held-is false x y e = absurd cc

-- where it gives a store that it took, it took it in an earlier view
earlier-where : (b x : ℕ) → 0 < b → (b == 0 || nat_lt b x) ≡ true → b < x
earlier-where b x some e = go (b == 0) refl e
  where
    go : (z : Bool) → (b == 0) ≡ z → (z || nat_lt b x) ≡ true → b < x
    go true is e = absurd (let none = eqb-true b 0 is in omega (arith, none, some))
    go false is e = ltb-true b x e

module _ (sv : Services) (q : Place) (m : Moment) (ok : Serves sv q m) (r : StateRecord) (e : state_given q m.server ≡ Given r) where
  abbrev x : ℕ
  x = m.process.pool.view.number

  abbrev mine : Account
  mine = account_of m.process

  parts : (t : Store) × (m.server.gives ≡ Some t) × (given_record q m.server t ≡ r)
  parts = given-is q m.server r e

  given-so : ((holds mine ok.beginning x && (ok.beginning.view == 0 || nat_lt ok.beginning.view x)) ≡ true)
      × (parts.0 ≡ store_at mine ok.beginning x)
  given-so = held-is _ (store_at mine ok.beginning x) parts.0 (sym ok.follows.gives ∙ parts.1)

  view-so : m.server.view.number ≡ x
  view-so = ap (λ (v : View). v.number) ok.follows.view

  gives-then : Gives mine ok.beginning r
  gives-then = subst (Gives mine ok.beginning) parts.2 (record {
    holds = ap (λ n. holds mine ok.beginning n) view-so ∙ and-first (holds mine ok.beginning x) _ given-so.0;
    signer = ok.me;
    state = ap store_bytes given-so.1 ∙ ap (λ n. store_bytes (store_at mine ok.beginning n)) (sym view-so);
  })

  own-view : r.view ≡ x
  own-view = ap (λ (w : StateRecord). w.view) (sym parts.2) ∙ view-so

  given-from : (ok.beginning ≡ genesis) ⊎ (TookIn sv m.process.me ok.beginning × (ok.beginning.view < r.view))
  given-from = by ok.from
    where
      by : HasFrom sv m.process.me ok.beginning
          → (ok.beginning ≡ genesis) ⊎ (TookIn sv m.process.me ok.beginning × (ok.beginning.view < r.view))
      by (inl is) = inl is
      by (inr took) = inr (
        took.0,
        (let lt = earlier-where ok.beginning.view x took.1 (and-second (holds mine ok.beginning x) _ given-so.0) in
            let is = own-view in omega (arith, lt, is)),
      )

module _ (sv : Services) (c : Correct) (q : Place) (steps : List Step) (it : ServedRun sv c q steps)
    (zeroth : sv.family.setting.genesis.number ≡ 0) (r : StateRecord) (w : WritesState sv.family.setting q
    (begin (run sv.family.setting (start sv.family.setting c.me c.batch_limit) it.earlier)) steps r) where
  abbrev given_at : Moment
  given_at = at sv c q steps it zeroth w.before

  serving : Serves sv q (at sv c q steps it zeroth w.before)
  serving = serves-at sv c q steps it zeroth w.before (TakesWord Give ∷ w.behind) w.steps_are

  abbrev behind_it : List Turn
  behind_it = turns_in w.behind ++ it.later

  made-state : MadeState sv (end_of sv.family.setting c) r
  made-state =
      let p : Process = given_at.process in
      let on = on-along sv.family.setting p behind_it in
      subst (λ (p : Process). MadeState sv p r) (sym (end-is sv c q steps it zeroth w.before (TakesWord Give ∷ w.behind) w.steps_are)) (record {
        beginning = serving.beginning;
        from = subst (λ n. (serving.beginning ≡ genesis) ⊎ (TookIn sv n serving.beginning × (serving.beginning.view < r.view))) (sym on.me)
            (given-from sv q given_at serving r w.given);
        gives = gives_stay sv.family.setting p behind_it serving.beginning r (gives-then sv q given_at serving r w.given);
      })

pub run_gives : RunGives
run_gives sv c q steps it r zeroth w = made-state sv c q steps it zeroth r w

-- ---- one body for each leaf

module _ (sv : Services) (premises : ServicePremises sv) (c : Correct) (in_ : Contains sv.family.correct c) where
  abbrev zero_th : sv.family.setting.genesis.number ≡ 0
  zero_th = premises.family.first

  run-reply-once : (group : List ℕ) (leaf : ℕ) (r s : Reply) → MadeReply sv (end_of sv.family.setting c) leaf r
      → MadeReply sv (end_of sv.family.setting c) leaf s → reply_body group r ≡ reply_body group s
  run-reply-once group leaf r s one two = All-mem
      (λ p. (leaf : ℕ) (r s : Reply) → MadeReply sv p leaf r → MadeReply sv p leaf s → reply_body group r ≡ reply_body group s)
      (ends sv.family) (end_of sv.family.setting c) (one_reply_per_leaf sv group premises)
      (in-ends sv.family c (Contains-mem sv.family.correct c in_)) leaf r s one two

  run-state-once : (group : List ℕ) (r s : StateRecord) → MadeState sv (end_of sv.family.setting c) r
      → MadeState sv (end_of sv.family.setting c) s → r.view ≡ s.view → state_body group r ≡ state_body group s
  run-state-once group r s one two view = All-mem
      (λ p. (r s : StateRecord) → MadeState sv p r → MadeState sv p s → r.view ≡ s.view → state_body group r ≡ state_body group s)
      (ends sv.family) (end_of sv.family.setting c) (one_state_per_leaf sv group premises)
      (in-ends sv.family c (Contains-mem sv.family.correct c in_)) r s one two view

pub runs_reply_once : RunsReplyOnce
runs_reply_once sv c q q' steps steps' it that group leaf r r' premises in_ w w' =
    run-reply-once sv premises c in_ group leaf r r' (run_replies sv c q steps it leaf r premises.family.first w)
    (run_replies sv c q' steps' that leaf r' premises.family.first w')

pub runs_give_once : RunsGiveOnce
runs_give_once sv c q q' steps steps' it that group r r' premises in_ w w' view =
    run-state-once sv premises c in_ group r r' (run_gives sv c q steps it r premises.family.first w)
    (run_gives sv c q' steps' that r' premises.family.first w') view

-- ---- the store of a server

module _ (sv : Services) (c : Correct) (q : Place) (steps front rest : List Step) (it : ServedRun sv c q steps) (premises : ServicePremises sv)
    (in_ : Contains sv.family.correct c) (parts : steps ≡ front ++ rest) where
  abbrev first_view : sv.family.setting.genesis.number ≡ 0
  first_view = premises.family.first

  abbrev held_at : Moment
  held_at = at sv c q steps it first_view front

  serves_then : Serves sv q held_at
  serves_then = serves-at sv c q steps it first_view front rest parts

  abbrev from : Beginning
  from = serves_then.beginning

  abbrev number : ℕ
  number = held_at.process.pool.view.number

  abbrev at_end : Process
  at_end = run sv.family.setting held_at.process (turns_in rest ++ it.later)

  on : Extends held_at.process at_end
  on = on-along sv.family.setting held_at.process (turns_in rest ++ it.later)

  last : end_of sv.family.setting c ≡ at_end
  last = end-is sv c q steps it first_view front rest parts

  low : number ≤ length held_at.process.left
  low = let same = serves_then.numbered in omega (arith, same)

  begun-right : from.store ≡ store_below (group_of (accounts sv.family)) from.view
  begun-right = right sv premises c (Contains-mem sv.family.correct c in_) from
      (subst (λ (n : ℕ). Begins sv n from) (sym (ap (λ (p : Process). p.me) last ∙ on.me)) (begins sv held_at.process.me from serves_then.from))

  store-right : (held_so : holds (account_of held_at.process) from number ≡ true)
      → store_at (account_of held_at.process) from number ≡ store_below (group_of (accounts sv.family)) number
  store-right held_so =
      let begun = serves_then.follows.begun in
      sym (store-is held_at.process at_end on from number low begun)
      ∙ ap (λ (p : Process). store_at (account_of p) from number) (sym last)
      ∙ laws.store-is sv.family premises.family c (Contains-mem sv.family.correct c in_) from begun-right number
      (ap (λ (p : Process). holds (account_of p) from number) last ∙ holds-is held_at.process at_end on from number low begun ∙ held_so)

  holds-right : (t : Store) → held_at.server.store ≡ Some t
      → t ≡ store_after (store_below (group_of (accounts sv.family)) number) (payloads_of held_at.process.delivered)
  holds-right t e =
      let so = held-is (holds (account_of held_at.process) from number)
      (store_after (store_at (account_of held_at.process) from number) (payloads_of held_at.process.delivered)) t
      (sym serves_then.follows.store ∙ e) in
      so.1 ∙ ap (λ (s : Store). store_after s (payloads_of held_at.process.delivered)) (store-right so.0)

pub run_holds : RunHolds
run_holds sv c q steps front rest it t premises in_ parts e = holds-right sv c q steps front rest it premises in_ parts t e
