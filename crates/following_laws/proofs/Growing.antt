-- What a process replies and gives, it still replies and gives as it goes on.
use Rattle.std.proofs.Common.{◌≡◌, ℕ, zero, suc, ◌+◌, ◌-◌, ◌<◌, ◌≤◌, List, [], ◌∷◌, ◌++◌, map, length, Some, true, refl, sym, ap, ◌∙◌, subst, arith, slice_get}
use Rattle.std.specs.Prelude.{◌&&◌, nat_le, slice_index_or}
use Rattle.std.specs.List.{list_any}
use Rattle.std.proofs.lemmas.Bool.{leb-true}
use Rattle.std.proofs.lemmas.List.{append-nil, append_assoc, length-append, length-map, map-append}
use Rattle.message_defs.specs.Updates.{Value}
use Rattle.message_defs.specs.Statements.{Claim}
use Rattle.group_defs.specs.Views.{View, is_member, next_view}
use Rattle.group_defs.specs.Process.{Setting, Delivered, Left, Process, views_of}
use Rattle.group_defs.specs.Settle.{install}
use Rattle.group_defs.specs.Family.{handed_to}
use Rattle.group_defs.specs.Events.{Turn, run}
use Rattle.group_defs.specs.Accounts.{Account, IsPrefixOf, account_of, delivered_in}
use Rattle.pool_laws.proofs.Places.{Compared, ahead, behind, compared, get-some, index-beyond, index-is, length-snoc, level, prefix-more, prefix-self, prefix-trans, slice_get-front, slice_get-index, slice_get-last, slice_get-length, take-one}
use Rattle.pool_laws.proofs.Tests.{and-first, and-second}
use Rattle.safety_laws.proofs.Induction.{Keeps, run-keeps}
use Rattle.safety_laws.proofs.ViewsOf.{length-views}
use Rattle.store_defs.specs.Stores.{Store, answer_to, store_after, store_bytes}
use Rattle.store_defs.specs.Records.{Reply, StateRecord}
use Rattle.store_defs.specs.Holding.{Beginning, Gives, Replies, IsDeliveredHere, delivered_below, holds, payloads_of, stayed, store_at, store_over, was_member}
use Rattle.store_laws.proofs.Holding.{stayed-in}
use Rattle.following_laws.specs.Laws.{GivesStay, RepliesStay}

-- ---- lists of lists

-- what stands at a place, or nothing
abbrev pub in_place : {A : Type 0} → List (List A) → ℕ → List A
in_place xss n = slice_index_or xss n []

-- of a list whose last element grows, each element is the front of what it was
last-grows : {A : Type 0} (xss : List (List A)) (xs ys : List A) (n : ℕ) → n ≤ length xss
    → IsPrefixOf (in_place (xss ++ xs ∷ []) n) (in_place (xss ++ (xs ++ ys) ∷ []) n)
last-grows [] xs ys zero le = (ys, refl)
last-grows [] xs ys (suc n) le = absurd (omega (arith, le))
last-grows (zs ∷ xss) xs ys zero le = prefix-self zs
last-grows (zs ∷ xss) xs ys (suc n) le = last-grows xss xs ys n (omega (arith, le))

in-front : {A : Type 0} (xss yss : List (List A)) (n : ℕ) → n < length xss → in_place (xss ++ yss) n ≡ in_place xss n
in-front xss yss n lt = index-is (xss ++ yss) n [] (in_place xss n)
    (slice_get-front xss yss n (in_place xss n) (slice_get-index xss n [] lt))

-- ---- a process and itself later

-- Later it is in its views as before and maybe in more, in each view that it had left it delivered the same, and in the view where it was
-- it delivered the same and maybe more. Of the later process these are its number, what it left, its view and what it delivered there.
pub record ExtendsAs (p : Process) (number : ℕ) (gone : List Left) (now : View) (ds : List Delivered) : Type 0 where
  pub me : number ≡ p.me
  pub left : IsPrefixOf p.left gone
  pub views : IsPrefixOf (views_of p) (map (λ (l : Left). l.view) gone ++ now ∷ [])
  pub here : IsPrefixOf p.delivered (in_place (map (λ (l : Left). l.delivered) gone ++ ds ∷ []) (length p.left))

abbrev pub Extends : Process → Process → Type 0
Extends p r = ExtendsAs p r.me r.left r.pool.view r.delivered

abbrev lists_of : List Left → List (List Delivered)
lists_of left = map (λ (l : Left). l.delivered) left

length-lists : (left : List Left) → length (lists_of left) ≡ length left
length-lists left = length-map left (λ (l : Left). l.delivered)

current : (left : List Left) (ds : List Delivered) (n : ℕ) → n ≡ length left → in_place (lists_of left ++ ds ∷ []) n ≡ ds
current left ds n is = index-is (lists_of left ++ ds ∷ []) n [] ds (slice_get-last (lists_of left) ds n (is ∙ sym (length-lists left)))

-- in its view it delivers more
pub extends-in : (p r : Process) (ds : List Delivered) → r.me ≡ p.me → r.left ≡ p.left → r.pool.view ≡ p.pool.view
    → r.delivered ≡ p.delivered ++ ds → Extends p r
extends-in p r ds me left view delivered = record {
  me = me;
  left = ([], append-nil p.left ∙ sym left);
  views = ([], append-nil (views_of p) ∙ (λ i. map (λ (l : Left). l.view) (sym left i) ++ sym view i ∷ []));
  here = (ds, sym delivered ∙ sym (current r.left r.delivered (length p.left) (ap length (sym left))));
}

pub longer : {A : Type 0} (xs ys : List A) → IsPrefixOf xs ys → length xs ≤ length ys
longer xs ys front = let parts = length-append xs front.0 in let all = ap length front.1 in omega (arith, parts, all)

module _ (p r : Process) (ok : Extends p r) where
  delivers-more : (ds : List Delivered) → Extends p (record r { delivered = r.delivered ++ ds })
  delivers-more ds = record {
    me = ok.me;
    left = ok.left;
    views = ok.views;
    here = prefix-trans p.delivered _ _ ok.here (last-grows (lists_of r.left) r.delivered ds (length p.left)
        (let le = longer p.left r.left ok.left in let long = length-lists r.left in omega (arith, le, long)));
  }

  installs-next : (d : ℕ × Value) → Extends p (install d r)
  installs-next d = record {
    me = ok.me;
    left = prefix-more p.left r.left _ ok.left;
    views = subst (IsPrefixOf (views_of p))
        (ap (λ vs. vs ++ next_view r.pool.view d.1.update ∷ []) (sym (map-append (λ (l : Left). l.view) r.left _)))
        (prefix-more (views_of p) (views_of r) _ ok.views);
    here = subst (IsPrefixOf p.delivered) (sym same) ok.here;
  }
    where
      same : in_place (lists_of (install d r).left ++ [] ∷ []) (length p.left)
          ≡ in_place (lists_of r.left ++ r.delivered ∷ []) (length p.left)
      same =
          let le = longer p.left r.left ok.left in
          let long = length-lists r.left in
          let last = length-snoc (lists_of r.left) r.delivered in
          ap (λ dss. in_place (dss ++ [] ∷ []) (length p.left)) (map-append (λ (l : Left). l.delivered) r.left _)
          ∙ in-front (lists_of r.left ++ r.delivered ∷ []) ([] ∷ []) (length p.left) (omega (arith, le, long, last))

-- whatever happens to it
pub keeps : (s : Setting) (from : List Claim) (p : Process) → Keeps s from (Extends p)
keeps s from p = record {
  accepts = λ r payload ok. ok;
  perceives = λ r e ok. ok;
  hears = λ r c m e ok. ok;
  doubts = λ r conflicts ok. ok;
  signs = λ r signer st next none ok. ok;
  decides = λ r ok. ok;
  delivers = λ r ds member room e ok. delivers-more p r ok ds;
  installs = λ r d decided whole ok. installs-next p r ok d;
  halts = λ r d decided member ok. ok;
}

pub as-it-is : (p : Process) → Extends p p
as-it-is p = extends-in p p [] refl refl refl (sym (append-nil p.delivered))

-- ---- two accounts that say the same of the views below n

module _ (a a' : Account) (n : ℕ) where
  stayed-same : ((z : ℕ) → z < n → was_member a' z ≡ was_member a z) → (y k : ℕ) → y + k ≤ n → stayed a' y k ≡ stayed a y k
  unfolding stayed
  stayed-same same y zero le = refl
  stayed-same same y (suc k) le =
      let before = stayed-same same y k (omega (arith, le)) in let here = same (y + k) (omega (arith, le)) in λ i. before i && here i

  module _ (same : (z : ℕ) → z < n → delivered_in a' z ≡ delivered_in a z) where
    over-same : (s : Store) (y k : ℕ) → y + k ≤ n
        → store_over (λ z. payloads_of (delivered_in a' z)) s y k ≡ store_over (λ z. payloads_of (delivered_in a z)) s y k
    unfolding store_over
    over-same s y zero le = refl
    over-same s y (suc k) le =
        let before = over-same s y k (omega (arith, le)) in
        let here = same (y + k) (omega (arith, le)) in λ i. store_after (before i) (payloads_of (here i))

    below-same : (x : ℕ) → x ≤ n → delivered_below a' x ≡ delivered_below a x
    unfolding delivered_below
    below-same zero le = refl
    below-same (suc x) le =
        let before = below-same x (omega (arith, le)) in
        let here = same x (omega (arith, le)) in λ i. before i + length (here i)

-- ---- the account of a process, and its account later

module _ (p r : Process) (on : Extends p r) where
  abbrev was : Account
  was = account_of p

  abbrev later : Account
  later = account_of r

  member-same : (z : ℕ) → z ≤ length p.left → was_member later z ≡ was_member was z
  member-same z le =
      let long = length-snoc (map (λ (l : Left). l.view) p.left) p.pool.view in
      let long' = length-map p.left (λ (l : Left). l.view) in
      let v = get-some was.views z (omega (arith, le, long, long')) in
      let here = take-one was.views z v.0 v.1 in
      let there = take-one later.views z v.0
      (subst (λ vs. slice_get vs z ≡ Some v.0) on.views.1 (slice_get-front was.views on.views.0 z v.0 v.1)) in
      (λ i. list_any (λ v. is_member v (on.me i)) (there i)) ∙ ap (list_any (λ v. is_member v p.me)) (sym here)

  delivered-same : (z : ℕ) → z < length p.left → delivered_in later z ≡ delivered_in was z
  delivered-same z lt =
      let long = length-lists p.left in
      let more = longer p.left r.left on.left in
      let long' = length-lists r.left in
      in-front (lists_of r.left) (r.delivered ∷ []) z (omega (arith, lt, more, long'))
      ∙ ap (λ left. in_place (lists_of left) z) (sym on.left.1)
      ∙ ap (λ dss. in_place dss z) (map-append (λ (l : Left). l.delivered) p.left on.left.0)
      ∙ in-front (lists_of p.left) (lists_of on.left.0) z (omega (arith, lt, long))
      ∙ sym (in-front (lists_of p.left) (p.delivered ∷ []) z (omega (arith, lt, long)))

  pub here-more : (z : ℕ) → z ≤ length p.left → IsPrefixOf (delivered_in was z) (delivered_in later z)
  here-more z le = go (compared z (length p.left))
    where
      go : Compared z (length p.left) → IsPrefixOf (delivered_in was z) (delivered_in later z)
      go (ahead lt) = subst (IsPrefixOf (delivered_in was z)) (sym (delivered-same z lt)) (prefix-self (delivered_in was z))
      go (level is) = subst (λ (ds : List Delivered). IsPrefixOf ds (delivered_in later z)) (sym (current p.left p.delivered z is))
          (subst (λ n. IsPrefixOf p.delivered (delivered_in later n)) (sym is) on.here)
      go (behind gt) = absurd (omega (arith, le, gt))

  module _ (b : Beginning) (x : ℕ) (le : x ≤ length p.left) where
    pub below-is : delivered_below later x ≡ delivered_below was x
    below-is = below-same was later (length p.left) delivered-same x le

    pub holds-is : b.view ≤ x → holds later b x ≡ holds was b x
    holds-is begun = ap (λ h. nat_le b.view x && h)
        (stayed-same was later (suc (length p.left)) (λ z lt. member-same z (omega (arith, lt))) b.view (x - b.view + 1)
        (omega (arith, begun, le)))

    pub store-is : b.view ≤ x → store_at later b x ≡ store_at was b x
    store-is begun = over-same was later (length p.left) delivered-same b.store b.view (x - b.view) (omega (arith, begun, le))

  -- a message that it delivered is of a view that it left, or of its own
  within : (x : ℕ) (at : IsDeliveredHere (delivered_in was x)) → x ≤ length p.left
  within x at = go (compared x (length p.left))
    where
      go : Compared x (length p.left) → x ≤ length p.left
      go (ahead lt) = omega (arith, lt)
      go (level is) = omega (arith, is)
      go (behind gt) = absurd
          (let last = length-snoc (lists_of p.left) p.delivered in
          let long = length-lists p.left in
          let none = index-beyond (lists_of p.left ++ p.delivered ∷ []) x [] (omega (arith, last, long, gt)) in
          let some = ap length (sym none ∙ at.parts) in
          let parts = length-append at.before (at.at ∷ at.behind) in
          omega (arith, some, parts))

  begun-by : (b : Beginning) (x : ℕ) → holds was b x ≡ true → b.view ≤ x
  begun-by b x held = leb-true b.view x (and-first (nat_le b.view x) _ held)

  pub still-replies : (b : Beginning) (leaf : ℕ) (w : Reply) → Replies was b leaf w → Replies later b leaf w
  still-replies b leaf w ok =
      let le = within w.view ok.delivery in
      let begun = begun-by b w.view ok.holds in
      let more = here-more w.view le in
      record {
        delivery = record {
          before = ok.delivery.before;
          at = ok.delivery.at;
          behind = ok.delivery.behind ++ more.0;
          parts = sym more.1 ∙ ap (λ ds. ds ++ more.0) ok.delivery.parts
              ∙ append_assoc ok.delivery.before (ok.delivery.at ∷ ok.delivery.behind) more.0;
        };
        holds = holds-is b w.view le begun ∙ ok.holds;
        signer = ok.signer ∙ sym on.me;
        place = ok.place;
        position = ok.position;
        payload = ok.payload;
        answer = ok.answer
            ∙ ap (λ s. answer_to (store_after s (payloads_of ok.delivery.before)) ok.delivery.at.payload) (sym (store-is b w.view le begun));
        leaf_is = ok.leaf_is ∙ ap (λ n. n + length ok.delivery.before) (sym (below-is b w.view le));
      }

  pub still-gives : (b : Beginning) (w : StateRecord) → Gives was b w → Gives later b w
  still-gives b w ok =
      let begun = begun-by b w.view ok.holds in
      let stays = and-second (nat_le b.view w.view) _ ok.holds in
      let in_ = stayed-in was b.view (w.view - b.view + 1) w.view stays begun (omega (arith, begun)) in
      let here = slice_get-length was.views w.view in_.view in_.at in
      let long = length-views p in
      let le : w.view ≤ length p.left = omega (arith, here, long) in
      record {
        holds = holds-is b w.view le begun ∙ ok.holds;
        signer = ok.signer ∙ sym on.me;
        state = ok.state ∙ ap store_bytes (sym (store-is b w.view le begun));
      }

-- ---- along its events

pub on-along : (setting : Setting) (p : Process) (ts : List Turn) → Extends p (run setting p ts)
on-along setting p ts = run-keeps setting (Extends p) ts (keeps setting (handed_to ts) p) p (as-it-is p)

pub replies_stay : RepliesStay
replies_stay setting p ts b leaf r ok = still-replies p (run setting p ts) (on-along setting p ts) b leaf r ok

pub gives_stay : GivesStay
gives_stay setting p ts b r ok = still-gives p (run setting p ts) (on-along setting p ts) b r ok
