-- Each reply that is written during a turn is the process's.
use Rattle.std.proofs.Common.{◌≡◌, ℕ, ◌+◌, ◌<◌, ◌≤◌, max, List, [], ◌∷◌, ◌++◌, map, length, Option, Some, None, Bool, true, false, refl, sym, ap, ◌∙◌, subst, arith}
use Rattle.std.specs.Prelude.{if◌then◌else◌, fold, nat_le, nat_lt, ◌==◌, option_map}
use Rattle.std.proofs.lemmas.Bool.{eqb-true, eqb-false, ltb-false}
use Rattle.std.proofs.lemmas.List.{append-nil, append_assoc, length-append, map-append}
use Rattle.std.proofs.lemmas.List.Elements.{filter-append}
use Rattle.std.proofs.lemmas.List.Sums.{fold-append}
use Rattle.group_defs.specs.Views.{View}
use Rattle.group_defs.specs.Process.{Setting, Delivered, Process, places_in}
use Rattle.group_defs.specs.Accounts.{Account, account_of, at_place, delivered_in}
use Rattle.group_defs.specs.Events.{Note, Delivers, Installs, Liar, Spent, Halts, Turn, after, note_if, outcome}
use Rattle.pool_laws.proofs.Places.{Compared, ahead, behind, compared, level}
use Rattle.safety_laws.proofs.ViewsOf.{current-delivered}
use Rattle.store_defs.specs.Stores.{Store, answer_bytes, answer_to, applied, store_after}
use Rattle.store_defs.specs.Records.{Reply}
use Rattle.store_defs.specs.Holding.{Beginning, Replies, delivered_below, holds, payloads_of, store_at}
use Rattle.store_defs.specs.Serving.{NoLeaf, NoStore, Place, ReplyWord, Server, Signed, ReportedReply, after_message, after_note, after_notes, held, position_at, reply_to, signed_reply, reported_of, unsigned_reply}
use Rattle.store_defs.specs.Laws.{Follows}
use Rattle.following_laws.specs.Laws.{OpensPlaces, TurnOpensPlaces, TurnReplies}
use Rattle.following_laws.proofs.Growing.{Extends, below-is, extends-in, holds-is, longer, still-replies, store-is}
use Rattle.following_laws.proofs.Turns.{GoesOn, Quiet, Rising, TurnSo, most-at-least, turn-so}

-- ---- positions

-- no message stands at a place that comes later
none-at : (j n : ℕ) (ds : List Delivered) → fold (λ (most : ℕ) (d : Delivered). max most (d.place + 1)) n ds ≤ j
    → length (at_place j ds) ≡ 0
none-at j n [] le = refl
none-at j n (d ∷ ds) le = go (d.place == j) refl (none-at j (max n (d.place + 1)) ds le)
  where
    go : (b : Bool) → (d.place == j) ≡ b → length (at_place j ds) ≡ 0 → length (if b then d ∷ at_place j ds else at_place j ds) ≡ 0
    go true e rest = absurd
        (let most = most-at-least (max n (d.place + 1)) ds in let is = eqb-true d.place j e in omega (arith, most, is, le))
    go false e rest = rest

-- From place k on the next position at a place is how many messages stand there, and at the places after k there are none. k is the place
-- of the last message of this run, or the next one.
record Placed (last : Option (ℕ × ℕ)) (ds : List Delivered) (k : ℕ) : Type 0 where
  pub within : k ≤ places_in ds
  pub here : (j : ℕ) → k ≤ j → position_at last j ≡ length (at_place j ds)
  pub none : (j : ℕ) → k < j → length (at_place j ds) ≡ 0

begin : (last : Option (ℕ × ℕ)) (ds : List Delivered) → ((j : ℕ) → places_in ds ≤ j → position_at last j ≡ 0)
    → Placed last ds (places_in ds)
begin last ds opens = record {
  within = omega arith;
  here = λ j le. opens j le ∙ sym (none-at j 0 ds le);
  none = λ j lt. none-at j 0 ds (omega (arith, lt));
}

opens-next : (last : Option (ℕ × ℕ)) (ds : List Delivered) (k : ℕ) → Placed last ds k → (j : ℕ) → places_in ds ≤ j → position_at last j ≡ 0
opens-next last ds k ok j le = (let in_ = ok.within in ok.here j (omega (arith, in_, le))) ∙ none-at j 0 ds le

one-more : (j : ℕ) (ds : List Delivered) (d : Delivered)
    → length (at_place j (ds ++ d ∷ [])) ≡ length (at_place j ds) + (if d.place == j then 1 else 0)
one-more j ds d = ap length (filter-append (λ (e : Delivered). e.place == j) ds (d ∷ []))
    ∙ length-append (at_place j ds) (at_place j (d ∷ [])) ∙ ap (λ n. length (at_place j ds) + n) (last (d.place == j))
  where
    last : (b : Bool) → length (if b then d ∷ [] else []) ≡ (if b then 1 else 0)
    last true = refl
    last false = refl

later-than : (a j : ℕ) → a ≤ j → (a ≡ j → ⊥) → a < j
later-than a j le other = go (compared a j)
  where
    go : Compared a j → a < j
    go (ahead lt) = lt
    go (level is) = absurd (other is)
    go (behind gt) = absurd (omega (arith, le, gt))

with-message : (last : Option (ℕ × ℕ)) (ds : List Delivered) (k : ℕ) (d : Delivered) → k ≤ d.place → Placed last ds k
    → Placed (Some (d.place, position_at last d.place)) (ds ++ d ∷ []) d.place
with-message last ds k d le ok = record {
  within = (let split = fold-append (λ (most : ℕ) (d : Delivered). max most (d.place + 1)) 0 ds (d ∷ []) in omega (arith, split));
  here = λ j from. at-it j (d.place == j) refl from ∙ sym (one-more j ds d);
  none = λ j lt. one-more j ds d ∙ beyond j (d.place == j) refl lt;
}
  where
    at-it : (j : ℕ) (b : Bool) → (d.place == j) ≡ b → d.place ≤ j
        → (if d.place == j then position_at last d.place + 1 else 0) ≡ length (at_place j ds) + (if d.place == j then 1 else 0)
    at-it j true e from =
        let was = ok.here d.place le in
        let same : length (at_place d.place ds) ≡ length (at_place j ds) = ap (λ j. length (at_place j ds)) (eqb-true d.place j e) in
        let sum : position_at last d.place + 1 ≡ length (at_place j ds) + 1 = omega (arith, was, same) in
        (λ i. if e i then position_at last d.place + 1 else 0) ∙ sum ∙ (λ i. length (at_place j ds) + (if sym e i then 1 else 0))
    at-it j false e from =
        let lt = later-than d.place j from (eqb-false d.place j e) in
        let none = ok.none j (omega (arith, lt, le)) in
        let sum : 0 ≡ length (at_place j ds) + 0 = omega (arith, none) in
        (λ i. if e i then position_at last d.place + 1 else 0) ∙ sum ∙ (λ i. length (at_place j ds) + (if sym e i then 1 else 0))

    beyond : (j : ℕ) (b : Bool) → (d.place == j) ≡ b → d.place < j → length (at_place j ds) + (if d.place == j then 1 else 0) ≡ 0
    beyond j true e lt = absurd (let is = eqb-true d.place j e in omega (arith, is, lt))
    beyond j false e lt =
        let none = ok.none j (omega (arith, le, lt)) in
        let sum : length (at_place j ds) + 0 ≡ 0 = omega (arith, none) in
        (λ i. length (at_place j ds) + (if e i then 1 else 0)) ∙ sum

-- ---- messages

-- after these messages of the view, where more may come
record HasHeard (s : Server) (before ds more : List Delivered) (r : Server) : Type 0 where
  pub delivered : r.delivered ≡ s.delivered + length ds
  pub store : r.store ≡ option_map (λ t. store_after t (payloads_of ds)) s.store
  pub place : ℕ
  pub placed : Placed r.last (before ++ ds) place
  pub rising : Rising place more

map-same : (o : Option Store) → o ≡ option_map (λ t. store_after t []) o
unfolding store_after
map-same None = refl
map-same (Some t) = refl

map-twice : (o : Option Store) (payload : List ℕ) (ps : List (List ℕ))
    → option_map (λ t. store_after t ps) (option_map (λ t. (applied t payload).1) o) ≡ option_map (λ t. store_after t (payload ∷ ps)) o
unfolding store_after
map-twice None payload ps = refl
map-twice (Some t) payload ps = refl

heard : (q : Place) (x k : ℕ) (before ds more : List Delivered) (s : Server) → Placed s.last before k → Rising k (ds ++ more)
    → HasHeard s before ds more (after_notes q s (map (Delivers x) ds))
unfolding after_notes after_note
heard q x k before [] more s ok rising = record {
  delivered = omega arith;
  store = map-same s.store;
  place = k;
  placed = subst (λ es. Placed s.last es k) (sym (append-nil before)) ok;
  rising = rising;
}
heard q x k before (d ∷ ds) more s ok rising =
    let rest = heard q x d.place (before ++ d ∷ []) ds more (after_message s d) (with-message s.last before k d rising.0 ok) rising.1 in
    let n = rest.delivered in
    record {
      delivered = omega (arith, n);
      store = rest.store ∙ map-twice s.store d.payload (payloads_of ds);
      place = rest.place;
      placed = subst (λ es. Placed (after_notes q (after_message s d) (map (Delivers x) ds)).last es rest.place)
          (append_assoc before (d ∷ []) ds) rest.placed;
      rising = rest.rising;
    }

pub notes-more : (q : Place) (s : Server) (ns ms : List Note) → after_notes q s (ns ++ ms) ≡ after_notes q (after_notes q s ns) ms
unfolding after_notes
notes-more q s [] ms = refl
notes-more q s (n ∷ ns) ms = notes-more q (after_note q s n) ns ms

pub quiet-stays : (q : Place) (s : Server) (ns : List Note) → Quiet ns → after_notes q s ns ≡ s
unfolding after_notes after_note
quiet-stays q s [] ok = refl
quiet-stays q s (Delivers x d ∷ ns) ok = absurd ok
quiet-stays q s (Installs v ∷ ns) ok = absurd ok
quiet-stays q s (Liar p ∷ ns) ok = quiet-stays q s ns ok
quiet-stays q s (Spent ∷ ns) ok = quiet-stays q s ns ok
quiet-stays q s (Halts k m ∷ ns) ok = quiet-stays q s ns ok

-- ---- the places that come next

module _ (setting : Setting) (p : Process) (t : Turn) (q : Place) (s : Server) (opens : OpensPlaces p s) where
  abbrev r : Process
  r = after setting p t

  abbrev so : TurnSo p (after setting p t) (outcome setting p t).notes
  so = turn-so setting p t

  abbrev reported : Server
  reported = after_notes q s (map (Delivers p.pool.view.number) so.on.more)

  whole : HasHeard s p.delivered so.on.more [] reported
  whole = heard q p.pool.view.number (places_in p.delivered) p.delivered so.on.more [] s (begin s.last p.delivered opens)
      (subst (Rising (places_in p.delivered)) (sym (append-nil so.on.more)) so.on.rising)

  -- where it stays in its view
  opens-here : nat_lt (length p.left) (length r.left) ≡ false → OpensPlaces r reported
  opens-here e k le =
      let kept = longer so.done.left r.left so.later.left in
      let same = ap length so.on.left in
      let most = ltb-false (length p.left) (length r.left) e in
      let here = so.still (omega (arith, kept, same, most)) ∙ so.on.delivered in
      opens-next reported.last (p.delivered ++ so.on.more) whole.place whole.placed k (subst (λ ds. places_in ds ≤ k) here le)

  opens-by : (i : Bool) → nat_lt (length p.left) (length r.left) ≡ i
      → OpensPlaces r (after_notes q reported (note_if i (Installs r.pool.view) ++ so.rest))
  unfolding after_notes after_note
  opens-by true e = subst (OpensPlaces r) (sym (quiet-stays q _ so.rest so.quiet)) (λ k le. refl)
  opens-by false e = subst (OpensPlaces r) (sym (quiet-stays q reported so.rest so.quiet)) (opens-here e)

  opens-all : OpensPlaces r (after_notes q s (outcome setting p t).notes)
  opens-all = subst (λ ns. OpensPlaces r (after_notes q s ns)) (sym so.notes)
      (subst (OpensPlaces r) (sym (notes-more q s (map (Delivers p.pool.view.number) so.on.more) _))
      (opens-by (nat_lt (length p.left) (length r.left)) refl))

pub turn_opens_places : TurnOpensPlaces
turn_opens_places = opens-all

-- ---- a note among the notes

quiet-front : (front back : List Note) (y : ℕ) (d : Delivered) → Quiet (front ++ Delivers y d ∷ back) → ⊥
quiet-front [] back y d ok = ok
quiet-front (Delivers x e ∷ front) back y d ok = ok
quiet-front (Installs v ∷ front) back y d ok = ok
quiet-front (Liar p ∷ front) back y d ok = quiet-front front back y d ok
quiet-front (Spent ∷ front) back y d ok = quiet-front front back y d ok
quiet-front (Halts k m ∷ front) back y d ok = quiet-front front back y d ok

head-is : {A : Type 0} (x y : A) (xs ys : List A) → x ∷ xs ≡ y ∷ ys → x ≡ y
head-is x y xs ys e = cc

tail-is : {A : Type 0} (x y : A) (xs ys : List A) → x ∷ xs ≡ y ∷ ys → xs ≡ ys
tail-is x y xs ys e = cc

view-is : (x y : ℕ) (m d : Delivered) → Delivers x m ≡ Delivers y d → x ≡ y
view-is x y m d e = cc

message-is : (x y : ℕ) (m d : Delivered) → Delivers x m ≡ Delivers y d → m ≡ d
message-is x y m d e = cc

no-message : (v : View) (y : ℕ) (d : Delivered) → Installs v ≡ Delivers y d → ⊥
no-message v y d e = cc

-- which of the messages it is
record IsAmong (x : ℕ) (more : List Delivered) (front : List Note) (y : ℕ) (d : Delivered) : Type 0 where
  pub before : List Delivered
  pub behind : List Delivered
  pub parts : more ≡ before ++ d ∷ behind
  pub reported : front ≡ map (Delivers x) before
  pub view : x ≡ y

among : (x : ℕ) (more : List Delivered) (i : Bool) (v : View) (rest : List Note) → Quiet rest
    → (front back : List Note) (y : ℕ) (d : Delivered)
    → map (Delivers x) more ++ (note_if i (Installs v) ++ rest) ≡ front ++ Delivers y d ∷ back → IsAmong x more front y d
among x [] true v rest quiet [] back y d e = absurd (no-message v y d (head-is _ _ _ _ e))
among x [] true v rest quiet (n ∷ front) back y d e = absurd (quiet-front front back y d (subst Quiet (tail-is _ _ _ _ e) quiet))
among x [] false v rest quiet front back y d e = absurd (quiet-front front back y d (subst Quiet e quiet))
among x (m ∷ more) i v rest quiet [] back y d e =
    let same = head-is (Delivers x m) (Delivers y d) (map (Delivers x) more ++ (note_if i (Installs v) ++ rest)) back e in
    record { before = []; behind = more; parts = ap (λ m. m ∷ more) (message-is x y m d same); reported = refl; view = view-is x y m d same }
among x (m ∷ more) i v rest quiet (n ∷ front) back y d e =
    let later = map (Delivers x) more ++ (note_if i (Installs v) ++ rest) in
    let first = head-is (Delivers x m) n later (front ++ Delivers y d ∷ back) e in
    let there = among x more i v rest quiet front back y d (tail-is (Delivers x m) n later (front ++ Delivers y d ∷ back) e) in
    record {
      before = m ∷ there.before;
      behind = there.behind;
      parts = ap (λ ds. m ∷ ds) there.parts;
      reported = λ j. sym first j ∷ there.reported j;
      view = there.view;
    }

-- ---- a reply

-- the reply that is made over this store
abbrev made : Place → Server → ℕ → Delivered → Store → Reply
made q s x d t = signed_reply q s.delivered (unsigned_reply q.me x (position_at s.last d.place) d (answer_bytes (applied t d.payload).0))

signed-is : (q : Place) (s : Server) (x : ℕ) (d : Delivered) (w : Reply) → reply_to q s x d ≡ Signed w
    → (t : Store) × (s.store ≡ Some t) × (made q s x d t ≡ w)
unfolding reply_to
signed-is q s x d w e = go s.store refl e
  where
    by : (r : Reply) (spent : Bool) → (if spent then NoLeaf else Signed r) ≡ Signed w → r ≡ w
    by r true e = absurd cc
    by r false e = cc

    go : (o : Option Store) → s.store ≡ o
        → (elim o [ None ↦ NoStore | Some t ↦ if nat_le q.replies.total s.delivered then NoLeaf else Signed (made q s x d t) ]) ≡ Signed w
        → (t : Store) × (s.store ≡ Some t) × (made q s x d t ≡ w)
    go None is e = absurd cc
    go (Some t) is e = (t, is, by (made q s x d t) (nat_le q.replies.total s.delivered) e)

word-is : (q : Place) (s : Server) (x : ℕ) (d : Delivered) (w : Reply) → reported_of q s (Delivers x d) ≡ ReportedReply (Signed w)
    → reply_to q s x d ≡ Signed w
unfolding reported_of
word-is q s x d w e = same (reply_to q s x d) (Signed w) e
  where
    same : (a b : ReplyWord) → ReportedReply a ≡ ReportedReply b → a ≡ b
    same a b e = cc

held-some : {A B : Type 0} (f : A → B) (h : Bool) (x : A) (y : B) → option_map f (held h x) ≡ Some y → (h ≡ true) × (y ≡ f x)
held-some f true x y e = (refl, cc)
held-some f false x y e = absurd cc

after-more : (s : Store) (xs ys : List (List ℕ)) → store_after (store_after s xs) ys ≡ store_after s (xs ++ ys)
unfolding store_after
after-more s [] ys = refl
after-more s (x ∷ xs) ys = after-more (applied s x).1 xs ys

-- of a message among those that p delivers as it becomes `done`
module _ (p done : Process) (on : GoesOn p done) (numbered : p.pool.view.number ≡ length p.left) (q : Place) (me : q.me ≡ p.me)
    (b : Beginning) (s : Server) (ok : Follows p b s) (opens : OpensPlaces p s) (before later : List Delivered) (d : Delivered)
    (parts : on.more ≡ before ++ d ∷ later) where
  abbrev x : ℕ
  x = p.pool.view.number

  abbrev was : Account
  was = account_of p

  abbrev now : Account
  now = account_of done

  abbrev heard-server : Server
  heard-server = after_notes q s (map (Delivers x) before)

  abbrev grown : Extends p done
  grown = extends-in p done on.more on.me on.left on.view on.delivered

  at-most : x ≤ length p.left
  at-most = omega (arith, numbered)

  hears : HasHeard s p.delivered before (d ∷ later) heard-server
  hears = heard q x (places_in p.delivered) p.delivered before (d ∷ later) s (begin s.last p.delivered opens)
      (subst (Rising (places_in p.delivered)) parts on.rising)

  here-parts : delivered_in now x ≡ (p.delivered ++ before) ++ d ∷ later
  here-parts =
      ap (delivered_in now) (numbered ∙ sym (ap length on.left))
      ∙ current-delivered done
      ∙ on.delivered
      ∙ ap (λ ds. p.delivered ++ ds) parts
      ∙ sym (append_assoc p.delivered before (d ∷ later))

  stored-so : (t : Store) → heard-server.store ≡ Some t
      → (holds was b x ≡ true) × (t ≡ store_after (store_after (store_at was b x) (payloads_of p.delivered)) (payloads_of before))
  stored-so t e = held-some (λ t. store_after t (payloads_of before)) (holds was b x)
      (store_after (store_at was b x) (payloads_of p.delivered)) t
      (ap (option_map (λ t. store_after t (payloads_of before))) (sym ok.store) ∙ sym hears.store ∙ e)

  store-so : (t : Store) → t ≡ store_after (store_after (store_at was b x) (payloads_of p.delivered)) (payloads_of before)
      → t ≡ store_after (store_at now b x) (payloads_of (p.delivered ++ before))
  store-so t is =
      is
      ∙ after-more (store_at was b x) (payloads_of p.delivered) (payloads_of before)
      ∙ ap (store_after (store_at was b x)) (sym (map-append (λ (d : Delivered). d.payload) p.delivered before))
      ∙ ap (λ t. store_after t (payloads_of (p.delivered ++ before))) (sym (store-is p done grown b x at-most ok.begun))

  leaf-is : heard-server.delivered ≡ delivered_below now x + length (p.delivered ++ before)
  leaf-is =
      let more = hears.delivered in
      let first = ok.delivered in
      let long = length-append p.delivered before in
      let below = below-is p done grown b x at-most in
      omega (arith, more, first, long, below)

  replies-so : (w : Reply) → reply_to q heard-server x d ≡ Signed w → Replies now b heard-server.delivered w
  replies-so w e =
      let it = signed-is q heard-server x d w e in
      let store = stored-so it.0 it.1 in
      subst (Replies now b heard-server.delivered) it.2 (record {
        delivery = record { before = p.delivered ++ before; at = d; behind = later; parts = here-parts };
        holds = holds-is p done grown b x at-most ok.begun ∙ store.0;
        signer = me ∙ sym on.me;
        place = refl;
        position = hears.placed.here d.place hears.rising.0;
        payload = refl;
        answer = ap (λ t. answer_to t d.payload) (store-so it.0 store.1);
        leaf_is = leaf-is;
      })

pub turn_replies : TurnReplies
turn_replies setting p t q b s front rest y d w numbered me ok opens notes e =
    let r : Process = after setting p t in
    let so = turn-so setting p t in
    let cut = among p.pool.view.number so.on.more (nat_lt (length p.left) (length r.left)) r.pool.view so.rest so.quiet front rest y d
    (sym so.notes ∙ notes) in
    let word = word-is q (after_notes q s front) y d w e in
    let word' : reply_to q (after_notes q s (map (Delivers p.pool.view.number) cut.before)) p.pool.view.number d ≡ Signed w =
    subst (λ x. reply_to q (after_notes q s (map (Delivers p.pool.view.number) cut.before)) x d ≡ Signed w) (sym cut.view)
    (subst (λ f. reply_to q (after_notes q s f) y d ≡ Signed w) cut.reported word) in
    subst (λ f. Replies (account_of r) b (after_notes q s f).delivered w) (sym cut.reported)
    (still-replies so.done r so.later b (after_notes q s (map (Delivers p.pool.view.number) cut.before)).delivered w
    (replies-so p so.done so.on numbered q me b s ok opens cut.before cut.behind d cut.parts w word'))
