-- A server that is told of a turn follows its process.
use Rattle.std.proofs.Common.{◌≡◌, ℕ, zero, suc, ◌+◌, ◌-◌, ◌<◌, ◌≤◌, List, [], ◌∷◌, ◌++◌, map, length, take, drop, Option, Some, None, Bool, true, false, refl, sym, ap, ◌∙◌, subst, arith, slice_get}
use Rattle.std.specs.Prelude.{if◌then◌else◌, ◌&&◌, ◌||◌, ◌==◌, not, nat_le, nat_lt, option_map, slice_index_or}
use Rattle.std.specs.List.{list_any}
use Rattle.std.specs.Option.{option_map_or}
use Rattle.std.proofs.lemmas.Bool.{eq-eqb, le-leb, le-ltb, lt-ltb, leb-true}
use Rattle.std.proofs.lemmas.List.{append-nil, append_assoc, length-append, length-map, map-append, drop_at}
use Rattle.message_defs.specs.Updates.{Value}
use Rattle.message_defs.specs.Statements.{Claim}
use Rattle.group_defs.specs.Views.{View, is_member, next_view}
use Rattle.group_defs.specs.Process.{Setting, Delivered, Left, Process, deliveries_of, places_in, views_of}
use Rattle.group_defs.specs.Accounts.{Account, account_of, delivered_in}
use Rattle.group_defs.specs.Settle.{decide, deliver, deliver_more, deliverable, install, leave, leave_by, limit, settle}
use Rattle.group_defs.specs.Signing.{Signing, sign_all}
use Rattle.group_defs.specs.Events.{EventFault, Note, Delivers, Installs, Liar, Spent, Halts, Turn, after, answered, note_if, notes, Outcome, outcome, refusal, signing, take_in}
use Rattle.event_laws.proofs.Taken.{taking_in_leaves}
use Rattle.event_laws.proofs.Signed.{signing_leaves}
use Rattle.pool_laws.proofs.Places.{get-some, index-is, length-snoc, slice_get-front, slice_get-index, slice_get-last, take-one}
use Rattle.pool_laws.proofs.Tests.{and-first}
use Rattle.store_defs.specs.Stores.{Store, applied, store_after}
use Rattle.store_defs.specs.Holding.{Beginning, delivered_below, genesis, holds, payloads_of, stayed, store_at, store_over, was_member}
use Rattle.store_defs.specs.Serving.{Place, Server, after_message, after_note, after_notes, after_view, held, server_of}
use Rattle.store_defs.specs.Laws.{BeginsFollowing, Follows, TurnFollows, given_now, store_now}
use Rattle.store_laws.proofs.Tests.{or-none, or-second}

-- ---- where a run begins

always : (a : Bool) → a ≡ (a && true)
always true = refl
always false = refl

pub begins_following : BeginsFollowing
unfolding server_of
begins_following p = record {
  begun = omega arith;
  view = refl;
  delivered = refl;
  store = refl;
  gives = ap (λ h. held h (store_at (account_of p) genesis p.pool.view.number)) (always (holds (account_of p) genesis p.pool.view.number));
}

-- ---- two accounts that say the same of the views below n

module _ (a a' : Account) (n : ℕ) where
  stayed-same : ((z : ℕ) → z < n → was_member a' z ≡ was_member a z) → (y k : ℕ) → y + k ≤ n → stayed a' y k ≡ stayed a y k
  unfolding stayed
  stayed-same same y zero le = refl
  stayed-same same y (suc k) le =
      let before = stayed-same same y k (omega (arith, le)) in let here = same (y + k) (omega (arith, le)) in λ i. before i && here i

  module _ (same : (z : ℕ) → z < n → delivered_in a' z ≡ delivered_in a z) where
    over-same : (s : Store) (y k : ℕ) → y + k ≤ n
        → store_over (λ z. payloads_of (delivered_in a' z)) s y k ≡ store_over (λ z. payloads_of (delivered_in a z)) s y k
    unfolding store_over
    over-same s y zero le = refl
    over-same s y (suc k) le =
        let before = over-same s y k (omega (arith, le)) in
        let here = same (y + k) (omega (arith, le)) in λ i. store_after (before i) (payloads_of (here i))

    below-same : (x : ℕ) → x ≤ n → delivered_below a' x ≡ delivered_below a x
    unfolding delivered_below
    below-same zero le = refl
    below-same (suc x) le =
        let before = below-same x (omega (arith, le)) in
        let here = same x (omega (arith, le)) in λ i. before i + length (here i)

-- ---- lists

index-front : {A : Type 0} (xs ys : List A) (z : ℕ) (d : A) → z < length xs → slice_index_or (xs ++ ys) z d ≡ slice_index_or xs z d
index-front xs ys z d lt = index-is (xs ++ ys) z d (slice_index_or xs z d)
    (slice_get-front xs ys z (slice_index_or xs z d) (slice_get-index xs z d lt))

after-more : (s : Store) (xs ys : List (List ℕ)) → store_after (store_after s xs) ys ≡ store_after s (xs ++ ys)
unfolding store_after
after-more s [] ys = refl
after-more s (x ∷ xs) ys = after-more (applied s x).1 xs ys

held-map : {A B : Type 0} (f : A → B) (h : Bool) (x : A) → option_map f (held h x) ≡ held h (f x)
held-map f true x = refl
held-map f false x = refl

-- ---- notes

notes-more : (q : Place) (s : Server) (ns ms : List Note) → after_notes q s (ns ++ ms) ≡ after_notes q (after_notes q s ns) ms
unfolding after_notes
notes-more q s [] ms = refl
notes-more q s (n ∷ ns) ms = notes-more q (after_note q s n) ns ms

-- what messages change
record HasHeard (s : Server) (ds : List Delivered) (r : Server) : Type 0 where
  pub view : r.view ≡ s.view
  pub gives : r.gives ≡ s.gives
  pub delivered : r.delivered ≡ s.delivered + length ds
  pub store : r.store ≡ option_map (λ t. store_after t (payloads_of ds)) s.store

map-same : (o : Option Store) → o ≡ option_map (λ t. store_after t []) o
unfolding store_after
map-same None = refl
map-same (Some t) = refl

map-twice : (o : Option Store) (payload : List ℕ) (ps : List (List ℕ))
    → option_map (λ t. store_after t ps) (option_map (λ t. (applied t payload).1) o) ≡ option_map (λ t. store_after t (payload ∷ ps)) o
unfolding store_after
map-twice None payload ps = refl
map-twice (Some t) payload ps = refl

heard : (q : Place) (x : ℕ) (ds : List Delivered) (s : Server) → HasHeard s ds (after_notes q s (map (Delivers x) ds))
unfolding after_notes after_note
heard q x [] s = record { view = refl; gives = refl; delivered = omega arith; store = map-same s.store }
heard q x (d ∷ ds) s =
    let rest = heard q x ds (after_message s d) in
    let n = rest.delivered in
    record {
      view = rest.view;
      gives = rest.gives;
      delivered = omega (arith, n);
      store = rest.store ∙ map-twice s.store d.payload (payloads_of ds);
    }

-- the other notes change nothing
quiet : (q : Place) (s : Server) (pairs : List (Claim × Claim)) (spent halted : Bool) (k m : ℕ)
    → after_notes q s (map (λ (pair : Claim × Claim). Liar pair.1.signer) pairs ++ note_if spent Spent ++ note_if halted (Halts k m)) ≡ s
unfolding after_notes after_note
quiet q s [] true true k m = refl
quiet q s [] true false k m = refl
quiet q s [] false true k m = refl
quiet q s [] false false k m = refl
quiet q s (p ∷ pairs) spent halted k m = quiet q s pairs spent halted k m

-- ---- the process in its view

-- it stays, and delivers more
record GoesOn (p r : Process) (ds : List Delivered) : Type 0 where
  pub me : r.me ≡ p.me
  pub left : r.left ≡ p.left
  pub view : r.pool.view ≡ p.pool.view
  pub delivered : r.delivered ≡ p.delivered ++ ds

module _ (p r : Process) (ds : List Delivered) (on : GoesOn p r ds) (numbered : p.pool.view.number ≡ length p.left) (b : Beginning) (s s' : Server)
    (ok : Follows p b s) (reported : HasHeard s ds s') where
  abbrev a : Account
  a = account_of p

  abbrev a' : Account
  a' = account_of r

  abbrev x : ℕ
  x = p.pool.view.number

  same-number : r.pool.view.number ≡ p.pool.view.number
  same-number = ap (λ (v : View). v.number) on.view

  same-member : (z : ℕ) → was_member a' z ≡ was_member a z
  same-member z = λ i. list_any (λ v. is_member v (on.me i)) (take 1 (drop z (map (λ (l : Left). l.view) (on.left i) ++ on.view i ∷ [])))

  same-delivered : (z : ℕ) → z < length p.left → delivered_in a' z ≡ delivered_in a z
  same-delivered z lt =
      let long : length (map (λ (l : Left). l.delivered) p.left) ≡ length p.left = length-map p.left (λ (l : Left). l.delivered) in
      let lt' : z < length (map (λ (l : Left). l.delivered) p.left) = omega (arith, lt, long) in
      (λ i. slice_index_or (map (λ (l : Left). l.delivered) (on.left i) ++ r.delivered ∷ []) z [])
      ∙ index-front (map (λ (l : Left). l.delivered) p.left) (r.delivered ∷ []) z [] lt'
      ∙ sym (index-front (map (λ (l : Left). l.delivered) p.left) (p.delivered ∷ []) z [] lt')

  same-holds : holds a' b x ≡ holds a b x
  same-holds = ap (λ h. nat_le b.view x && h)
      (stayed-same a a' (b.view + (x - b.view + 1)) (λ z lt. same-member z) b.view (x - b.view + 1) (omega arith))

  same-store : store_at a' b x ≡ store_at a b x
  same-store = over-same a a' (length p.left) same-delivered b.store b.view (x - b.view) (let le = ok.begun in omega (arith, le, numbered))

  goes-on : Follows r b s'
  goes-on = record {
    begun = subst (λ n. b.view ≤ n) (sym same-number) ok.begun;
    view = reported.view ∙ ok.view ∙ sym on.view;
    delivered = (
        let n = reported.delivered in
        let m = ok.delivered in
        let long = ap length on.delivered in
        let parts = length-append p.delivered ds in
        let below : delivered_below a' r.pool.view.number ≡ delivered_below a x = ap (delivered_below a') same-number
        ∙ below-same a a' (length p.left) same-delivered x (omega (arith, numbered)) in
        omega (arith, n, m, long, parts, below)
        );
    store = reported.store
        ∙ ap (option_map (λ t. store_after t (payloads_of ds))) ok.store
        ∙ held-map (λ t. store_after t (payloads_of ds)) (holds a b x) (store_after (store_at a b x) (payloads_of p.delivered))
        ∙ ap (held (holds a b x)) (after-more (store_at a b x) (payloads_of p.delivered) (payloads_of ds)
        ∙ ap (store_after (store_at a b x)) (sym (map-append (λ (d : Delivered). d.payload) p.delivered ds) ∙ ap payloads_of (sym on.delivered)))
        ∙ (λ i. held (sym same-holds i) (store_after (sym same-store i) (payloads_of r.delivered)))
        ∙ ap (λ n. held (holds a' b n) (store_after (store_at a' b n) (payloads_of r.delivered))) (sym same-number);
    gives = reported.gives
        ∙ ok.gives
        ∙ (λ i. held (sym same-holds i && (b.view == 0 || nat_lt b.view x)) (sym same-store i))
        ∙ ap (λ n. held (holds a' b n && (b.view == 0 || nat_lt b.view n)) (store_at a' b n)) (sym same-number);
  }

-- ---- the next view

-- what is kept where it is a member
kept-held : {A : Type 0} (m h : Bool) (o : Option A) (x : A) → o ≡ held h x → (if m then o else None) ≡ held (h && m) x
kept-held true true o x e = e
kept-held true false o x e = e
kept-held false true o x e = refl
kept-held false false o x e = refl

module _ (p : Process) (d : ℕ × Value) (numbered : p.pool.view.number ≡ length p.left) (q : Place) (me : q.me ≡ p.me) (b : Beginning) (s : Server)
    (ok : Follows p b s) where
  abbrev r : Process
  r = install d p

  abbrev w : View
  w = next_view p.pool.view d.1.update

  abbrev was : Account
  was = account_of p

  abbrev now : Account
  now = account_of (install d p)

  abbrev at : ℕ
  at = p.pool.view.number

  views-now : now.views ≡ was.views ++ w ∷ []
  views-now = ap (λ vs. vs ++ w ∷ []) (map-append (λ (l : Left). l.view) p.left _)

  views-long : length was.views ≡ suc (length p.left)
  views-long = length-snoc (map (λ (l : Left). l.view) p.left) p.pool.view ∙ ap suc (length-map p.left (λ (l : Left). l.view))

  -- of each view before the new one
  member-before : (z : ℕ) → z < suc at → was_member now z ≡ was_member was z
  member-before z lt =
      let v = get-some was.views z (let long = views-long in omega (arith, lt, long, numbered)) in
      let here = take-one was.views z v.0 v.1 in
      let there : take 1 (drop z now.views) ≡ v.0 ∷ [] =
      ap (λ vs. take 1 (drop z vs)) views-now ∙ take-one (was.views ++ w ∷ []) z v.0 (slice_get-front was.views (w ∷ []) z v.0 v.1) in
      ap (list_any (λ v. is_member v p.me)) (there ∙ sym here)

  member-now : was_member now (suc at) ≡ is_member w q.me
  member-now =
      let long = views-long in
      let there : take 1 (drop (suc at) now.views) ≡ w ∷ [] =
      ap (λ vs. take 1 (drop (suc at) vs)) views-now
      ∙ take-one (was.views ++ w ∷ []) (suc at) w (slice_get-last was.views w (suc at) (omega (arith, long, numbered))) in
      ap (list_any (λ v. is_member v p.me)) there ∙ or-none (is_member w p.me) ∙ ap (is_member w) (sym me)

  delivered-before : (z : ℕ) → z < suc at → delivered_in now z ≡ delivered_in was z
  delivered-before z lt =
      let long = length-snoc (map (λ (l : Left). l.delivered) p.left) p.delivered in
      let long' = length-map p.left (λ (l : Left). l.delivered) in
      ap (λ dss. slice_index_or (dss ++ [] ∷ []) z []) (map-append (λ (l : Left). l.delivered) p.left _)
      ∙ index-front (map (λ (l : Left). l.delivered) p.left ++ p.delivered ∷ []) ([] ∷ []) z [] (omega (arith, lt, long, long', numbered))

  here-delivered : delivered_in was at ≡ p.delivered
  here-delivered = index-is (deliveries_of p) at [] p.delivered
      (slice_get-last (map (λ (l : Left). l.delivered) p.left) p.delivered at
      (numbered ∙ sym (length-map p.left (λ (l : Left). l.delivered))))

  next-number : (install d p).pool.view.number ≡ suc at
  next-number = omega arith

  -- the store at the beginning of the new view is the store as it was
  abbrev stood : Store
  stood = store_after (store_at was b at) (payloads_of p.delivered)

  store-next : store_at now b (suc at) ≡ stood
  unfolding store_over
  store-next =
      let le = ok.begun in
      let more : suc at - b.view ≡ suc (at - b.view) = omega (arith, le) in
      let end : b.view + (at - b.view) ≡ at = omega (arith, le) in
      ap (store_over (λ z. payloads_of (delivered_in now z)) b.store b.view) more
      ∙ (λ i. store_after (over-same was now (suc at) delivered-before b.store b.view (at - b.view) (omega (arith, le)) i)
      (payloads_of (delivered_in now (end i))))
      ∙ ap (λ ds. store_after (store_at was b at) (payloads_of ds)) (delivered-before at (omega arith) ∙ here-delivered)

  holds-next : holds now b (suc at) ≡ (holds was b at && is_member w q.me)
  unfolding stayed
  holds-next =
      let le = ok.begun in
      let more : suc at - b.view + 1 ≡ suc (at - b.view + 1) = omega (arith, le) in
      let end : b.view + (at - b.view + 1) ≡ suc at = omega (arith, le) in
      let one : nat_le b.view (suc at) ≡ true = le-leb b.view (suc at) (omega (arith, le)) in
      let two : nat_le b.view at ≡ true = le-leb b.view at le in
      let stays = stayed-same was now (suc at) member-before b.view (at - b.view + 1) (omega (arith, le)) in
      (λ i. one i && stayed now b.view (more i))
      ∙ (λ i. stays i && was_member now (end i))
      ∙ ap (λ m. stayed was b.view (at - b.view + 1) && m) member-now
      ∙ (λ i. (sym two i && stayed was b.view (at - b.view + 1)) && is_member w q.me)

  gives-all : (b.view == 0 || nat_lt b.view (suc at)) ≡ true
  gives-all = or-second (b.view == 0) _ (lt-ltb b.view (suc at) (let le = ok.begun in omega (arith, le)))

  kept-now : (if is_member w q.me then s.store else None) ≡ held (holds now b (suc at)) (store_at now b (suc at))
  kept-now =
      kept-held (is_member w q.me) (holds was b at) s.store stood ok.store
      ∙ (λ i. held (sym holds-next i) (sym store-next i))

  with-all : (h : Bool) (x : Store) → held h x ≡ held (h && (b.view == 0 || nat_lt b.view (suc at))) x
  with-all h x = ap (λ g. held g x) (always h ∙ ap (λ g. h && g) (sym gives-all))

  nothing-more : (n : ℕ) (h : Bool) (x : Store) → held h x ≡ held h (store_after x [])
  unfolding store_after
  nothing-more n h x = refl

  follows-on : Follows (install d p) b (after_view q s w)
  unfolding delivered_below
  follows-on = record {
    begun = (let le = ok.begun in let n = next-number in omega (arith, le, n));
    view = refl;
    delivered = (
        let n = ok.delivered in
        let here = ap length (delivered-before at (omega arith) ∙ here-delivered) in
        let below = below-same was now (suc at) delivered-before at (omega arith) in
        let next : delivered_below now (install d p).pool.view.number ≡ delivered_below now (suc at) = ap (delivered_below now) next-number in
        omega (arith, n, here, below, next)
        );
    store = kept-now
        ∙ nothing-more 0 (holds now b (suc at)) (store_at now b (suc at))
        ∙ ap (λ n. held (holds now b n) (store_after (store_at now b n) [])) (sym next-number);
    gives = kept-now
        ∙ with-all (holds now b (suc at)) (store_at now b (suc at))
        ∙ ap (λ n. held (holds now b n && (b.view == 0 || nat_lt b.view n)) (store_at now b n)) (sym next-number);
  }

-- ---- a turn

on-nothing : (p r : Process) → r.me ≡ p.me → r.left ≡ p.left → r.pool.view ≡ p.pool.view → r.delivered ≡ p.delivered → GoesOn p r []
on-nothing p r me left view delivered = record { me = me; left = left; view = view; delivered = delivered ∙ sym (append-nil p.delivered) }

reported-nothing : (s : Server) → HasHeard s [] s
reported-nothing s = record { view = refl; gives = refl; delivered = omega arith; store = map-same s.store }

-- delivering goes on
record Delivering (p r : Process) : Type 0 where
  pub more : List Delivered
  pub on : GoesOn p r more

places-on : (n : ℕ) (p : Process) → Delivering p (deliver_more n p)
unfolding deliver_more
places-on zero p = record { more = []; on = on-nothing p p refl refl refl refl }
places-on (suc n) p = go (deliverable p) (places-on n)
  where
    go : (o : Option (List Delivered)) → ((q : Process) → Delivering q (deliver_more n q))
        → Delivering p (elim o [ None ↦ p | Some ds ↦ deliver_more n (record p { delivered = p.delivered ++ ds }) ])
    go None next = record { more = []; on = on-nothing p p refl refl refl refl }
    go (Some ds) next =
        let rest = next (record p { delivered = p.delivered ++ ds }) in
        record {
          more = ds ++ rest.more;
          on = record {
            me = rest.on.me;
            left = rest.on.left;
            view = rest.on.view;
            delivered = rest.on.delivered ∙ append_assoc p.delivered ds rest.more;
          };
        }

delivers-on : (p : Process) → Delivering p (deliver p)
delivers-on p = go (is_member p.pool.view p.me)
  where
    go : (m : Bool) → Delivering p (if m then deliver_more (limit p - places_in p.delivered) p else p)
    go true = places-on (limit p - places_in p.delivered) p
    go false = record { more = []; on = on-nothing p p refl refl refl refl }

five : (a b c d e : List Note) → (((a ++ b) ++ c) ++ d) ++ e ≡ a ++ (b ++ ((c ++ d) ++ e))
five a b c d e =
    ap (λ l. (l ++ d) ++ e) (append_assoc a b c)
    ∙ ap (λ l. l ++ e) (append_assoc a (b ++ c) d)
    ∙ append_assoc a ((b ++ c) ++ d) e
    ∙ ap (λ l. a ++ l) (ap (λ l. l ++ e) (append_assoc b c d) ∙ append_assoc b (c ++ d) e)

-- what comes behind the messages that p delivers as it becomes `done`, where the event is signed as `one`
module _ (p done : Process) (more : List Delivered) (done-on : GoesOn p done more) (one : Signing) (q : Place) (b : Beginning) (s : Server)
    (numbered : p.pool.view.number ≡ length p.left) (me : q.me ≡ p.me) (ok : Follows p b s) where
  abbrev heard-server : Server
  heard-server = after_notes q s (map (Delivers p.pool.view.number) more)

  done-follows : Follows done b heard-server
  done-follows = goes-on p done more done-on numbered b s heard-server ok (heard q p.pool.view.number more s)

  done-numbered : done.pool.view.number ≡ length done.left
  done-numbered = ap (λ (v : View). v.number) done-on.view ∙ numbered ∙ sym (ap length done-on.left)

  rest-notes : Process → List Note
  rest-notes r = map (λ (pair : Claim × Claim). Liar pair.1.signer) (drop (length p.conflicts) r.conflicts) ++ note_if one.spent Spent
      ++ note_if r.halted (Halts (places_in r.delivered) (option_map_or (λ d. d.1.cut) r.decision 0))

  tail-notes : Process → List Note
  tail-notes r = note_if (nat_lt (length p.left) (length r.left)) (Installs r.pool.view) ++ rest-notes r

  rest-quiet : (r : Process) (s' : Server) → after_notes q s' (rest-notes r) ≡ s'
  unfolding rest-notes
  rest-quiet r s' = quiet q s' (drop (length p.conflicts) r.conflicts) one.spent r.halted (places_in r.delivered)
      (option_map_or (λ d. d.1.cut) r.decision 0)

  Claimed : Process → Type 0
  Claimed r = Follows r b (after_notes q heard-server (tail-notes r))

  by-length : (r : Process) (l : Bool) → nat_lt (length p.left) (length r.left) ≡ l
      → after_notes q heard-server (note_if l (Installs r.pool.view) ++ rest-notes r) ≡ after_notes q heard-server (tail-notes r)
  unfolding tail-notes
  by-length r l e = ap (λ l. after_notes q heard-server (note_if l (Installs r.pool.view) ++ rest-notes r)) (sym e)

  installed-first : (r : Process) → after_notes q heard-server (note_if true (Installs r.pool.view) ++ rest-notes r)
      ≡ after_notes q (after_view q heard-server r.pool.view) (rest-notes r)
  unfolding after_notes after_note
  installed-first r = refl

  stays : (r : Process) → GoesOn done r [] → Claimed r
  unfolding Claimed
  stays r on =
      let same : length r.left ≡ length p.left = ap length (on.left ∙ done-on.left) in
      subst (Follows r b) (sym (rest-quiet r heard-server) ∙ by-length r false (le-ltb _ _ (omega (arith, same))))
      (goes-on done r [] on done-numbered b heard-server heard-server done-follows (reported-nothing heard-server))

  installs : (d : ℕ × Value) → Claimed (install d done)
  unfolding Claimed
  installs d =
      let r : Process = install d done in
      let same : length done.left ≡ length p.left = ap length done-on.left in
      let longer : length r.left ≡ suc (length done.left) = length-snoc done.left _ in
      subst (Follows r b)
      (sym (rest-quiet r (after_view q heard-server r.pool.view)) ∙ sym (installed-first r)
      ∙ by-length r true (lt-ltb _ _ (omega (arith, same, longer))))
      (follows-on done d done-numbered q (me ∙ sym done-on.me) b heard-server done-follows)

  by : (d : ℕ × Value) (m whole : Bool)
      → Claimed (if m then (if whole then install d done else record done { halted = nat_lt d.1.cut (places_in done.delivered) }) else install d done)
  by d true true = installs d
  by d true false = stays (record done { halted = nat_lt d.1.cut (places_in done.delivered) }) (on-nothing done _ refl refl refl refl)
  by d false whole = installs d

  by-decision : (o : Option (ℕ × Value)) → Claimed (elim o [ None ↦ done | Some d ↦ leave_by d done ])
  by-decision None = stays done (on-nothing done done refl refl refl refl)
  by-decision (Some d) = by d (is_member done.pool.view done.me) (places_in done.delivered == d.1.cut)

  leaves : Follows (leave done) b (after_notes q s (notes p one done (leave done)))
  unfolding Claimed tail-notes rest-notes
  leaves =
      let behind : drop (length p.delivered) done.delivered ≡ more =
      ap (drop (length p.delivered)) done-on.delivered ∙ drop_at p.delivered more (length p.delivered) refl in
      let r : Process = leave done in
      let nested : notes p one done (leave done) ≡ map (Delivers p.pool.view.number) (drop (length p.delivered) done.delivered) ++ tail-notes r =
      five (map (Delivers p.pool.view.number) (drop (length p.delivered) done.delivered))
      (note_if (nat_lt (length p.left) (length r.left)) (Installs r.pool.view))
      (map (λ (pair : Claim × Claim). Liar pair.1.signer) (drop (length p.conflicts) r.conflicts))
      (note_if one.spent Spent) (note_if r.halted (Halts (places_in r.delivered) (option_map_or (λ d. d.1.cut) r.decision 0))) in
      subst (Follows (leave done) b)
      (sym (ap (after_notes q s) nested
      ∙ ap (λ ds. after_notes q s (map (Delivers p.pool.view.number) ds ++ tail-notes (leave done))) behind
      ∙ notes-more q s (map (Delivers p.pool.view.number) more) (tail-notes (leave done))))
      (by-decision done.decision)

-- signed, it is in its view as before
signed-on : (setting : Setting) (p : Process) (t : Turn) → GoesOn p (signing setting p t).now []
signed-on setting p t =
    let signed = (signing_leaves setting t.signer t.allowance (take_in setting p t.event)).rest in
    let taken = taking_in_leaves setting p t.event in
    on-nothing p (signing setting p t).now
    (ap (λ (x : Process). x.me) signed ∙ ap (λ (x : Process). x.me) taken)
    (ap (λ (x : Process). x.left) signed ∙ ap (λ (x : Process). x.left) taken)
    (ap (λ (x : Process). x.pool.view) signed ∙ ap (λ (x : Process). x.pool.view) taken)
    (ap (λ (x : Process). x.delivered) signed ∙ ap (λ (x : Process). x.delivered) taken)

-- settled up to leaving, it delivers more in its view
delivered-on : (setting : Setting) (p m : Process) → GoesOn p m [] → Delivering p (deliver (decide setting m))
delivered-on setting p m on =
    let rest = delivers-on (decide setting m) in
    record {
      more = rest.more;
      on = record {
        me = rest.on.me ∙ on.me;
        left = rest.on.left ∙ on.left;
        view = rest.on.view ∙ on.view;
        delivered = rest.on.delivered ∙ ap (λ ds. ds ++ rest.more) (on.delivered ∙ append-nil p.delivered);
      };
    }

-- of an event that is not refused, and is signed as `one`
not-refused : (setting : Setting) (p : Process) (t : Turn) (one : Signing) → GoesOn p one.now [] → (q : Place) (b : Beginning) (s : Server)
    → p.pool.view.number ≡ length p.left → q.me ≡ p.me → Follows p b s
    → Follows (settle setting one.now) b (after_notes q s (answered setting p t one).notes)
unfolding settle
not-refused setting p t one on q b s numbered me ok =
    let done = delivered-on setting p one.now on in
    leaves p (deliver (decide setting one.now)) done.more done.on one q b s numbered me ok

refused-or-not : (setting : Setting) (p : Process) (t : Turn) (q : Place) (b : Beginning) (s : Server) (o : Option EventFault)
    → Follows (settle setting (signing setting p t).now) b (after_notes q s (answered setting p t (signing setting p t)).notes)
    → Follows p b s
    → let out : Outcome = elim o [
      | None ↦ answered setting p t (signing setting p t)
      | Some fault ↦ record { verdict = Some fault; heard = 0; signed = []; spent = false; sends = []; notes = [] }
    ] in
    Follows (elim o [ None ↦ settle setting (signing setting p t).now | Some fault ↦ p ]) b (after_notes q s out.notes)
unfolding after_notes
refused-or-not setting p t q b s None settled ok = settled
refused-or-not setting p t q b s (Some fault) settled ok = ok

pub turn_follows : TurnFollows
unfolding after
turn_follows setting p t q b s numbered me ok = refused-or-not setting p t q b s (refusal setting p t.event)
    (not-refused setting p t (signing setting p t) (signed-on setting p t) q b s numbered me ok) ok
