-- What is delivered of a correct sender is what it accepted, in order.
use Rattle.std.proofs.Common.{◌≡◌, ◌⊎◌, inl, inr, ℕ, zero, suc, ◌+◌, ◌<◌, List, [], ◌∷◌, ◌++◌, map, length, Some, Bool, true, false, refl, sym, ap, ◌∙◌, subst, arith, slice_get}
use Rattle.std.specs.Prelude.{◌==◌, not, flat_map, sum}
use Rattle.std.specs.List.{range_with_len}
use Rattle.std.proofs.lemmas.Bool.{eqb-true}
use Rattle.std.proofs.lemmas.List.Sums.{length-filter, sum_by-cons}
use Rattle.group_defs.specs.Views.{View, is_member}
use Rattle.group_defs.specs.Below.{Statement, Init, Echo}
use Rattle.group_defs.specs.Process.{Letter, Delivered, Left, Process, earlier, delivered_from, views_of, letter_of, without_places}
use Rattle.group_defs.specs.Certified.{says, is_ended}
use Rattle.group_defs.specs.Accounts.{account_of, IsPrefixOf, messages_in, group_of, of_sender, history, AgreesWith}
use Rattle.group_defs.specs.Family.{Correct, Family, end_of, ends, accounts, handed, statements_of}
use Rattle.group_defs.specs.Laws.{Premises, HasGrown, IsOneView, IsBacked, IsFrom, CauseAndOrder}
use Rattle.std.proofs.lemmas.List.{map-append, length-map}
use Rattle.std.proofs.lemmas.List.Elements.{filter-append}
use Rattle.safety_laws.proofs.AllAgree.{SequenceSo, agreement, delivered_by, empty, sequence-so}
use Rattle.safety_laws.proofs.ByPlace.{are-placed}
use Rattle.safety_laws.proofs.Causes.{causes}
use Rattle.safety_laws.proofs.CertifiedIsBacked.{own-word}
use Rattle.pool_laws.proofs.Counting.{length-filter-map}
use Rattle.safety_laws.proofs.EachWasDue.{each_was_due}
use Rattle.pool_laws.proofs.Heard.{heard-says}
use Rattle.safety_laws.proofs.History.{ViewSo}
use Rattle.safety_laws.proofs.InOrder.{each-in-order, each-once}
use Rattle.safety_laws.proofs.MaySign.{signing-due, signing-member, signing-view}
use Rattle.pool_laws.proofs.Members.{All-mem, Mem, filter-mem, map-mem, mem-append, mem-map}
use Rattle.safety_laws.proofs.Moments.{DueAt, backed-due}
use Rattle.safety_laws.proofs.OfGroup.{each-account}
use Rattle.rule_laws.proofs.Offered.{init-accepted}
use Rattle.pool_laws.proofs.Places.{get-append, get-map, map-get, mem-slice_get, range-get, slice_get-front, slice_get-length, slice_get-mem}
use Rattle.safety_laws.proofs.Quorums.{in-ends}
use Rattle.pool_laws.proofs.Tests.{and-first, some-is}
use Rattle.safety_laws.proofs.ViewsAgree.{backed, indexed, of-history, one-view}
use Rattle.safety_laws.proofs.ViewsOf.{current-at, left-delivered, left-view}

module _ (f : Family) (premises : Premises f) (c : Correct) (m : Mem c f.correct) where
  abbrev me : ℕ
  me = (end_of f.setting c).me

  abbrev seq : ℕ → List Letter
  seq x = (group_of (accounts f)).sequence x

  -- it signed an Init of this payload in the view of this number
  record OwnInit (x l : ℕ) (b : List ℕ) : Type 0 where
    pub moment : Process
    pub grown : HasGrown moment (end_of f.setting c)
    pub member : is_member moment.pool.view moment.me ≡ true
    pub number : moment.pool.view.number ≡ x
    pub accepted : slice_get moment.accepted (earlier moment + l) ≡ Some b

  -- an Init that it signed was due
  of-signed : (v : View) (l : ℕ) (b : List ℕ) → Mem (Init v.number l b) (statements_of (end_of f.setting c)) → OwnInit v.number l b
  of-signed v l b signed =
      let i = mem-slice_get (statements_of (end_of f.setting c)) (Init v.number l b) signed in
      let was = each_was_due f.setting c.me c.batch_limit c.turns i.0 (Init v.number l b) i.1 in
      record {
        moment = was.moment;
        grown = was.grown;
        member = signing-member f.setting was.moment (Init v.number l b) was.due;
        number = sym (signing-view f.setting was.moment (Init v.number l b) was.due);
        accepted = init-accepted f.setting was.moment v.number l b was.due;
      }

  -- an Echo of its message was due where its Init is heard
  of-echo : (v : View) → IsOneView f v → (d : Letter) → d.message.sender ≡ me → DueAt f v (Echo v.number d.message d.payload)
      → OwnInit v.number d.message.number d.payload
  of-echo v one d sender (q, stood, at, may) =
      let init : Statement = Init v.number d.message.number d.payload in
      let said : says q.pool init d.message.sender
      ≡ true = and-first (says q.pool init d.message.sender) (not (is_ended q))
      (signing-due f.setting q (Echo v.number d.message d.payload) may) in
      let claim = heard-says q.pool init d.message.sender said in
      let source = All-mem (IsFrom f.setting (handed f) q.signed) q.pool.heard claim.0 stood.heard claim.1 in
      let word = own-word f v q one stood claim.0 source (end_of f.setting c) (in-ends f c m) (sym (claim.2 ∙ sender)) in
      of-signed v d.message.number d.payload (subst (λ st. Mem st (statements_of (end_of f.setting c))) claim.3 word)

  in-view : (v : View) → IsOneView f v → (c' : Correct) → Mem c' f.correct → (ds : List Delivered)
      → ViewSo f.setting c'.turns (end_of f.setting c') v ds → (d : Letter) → Mem d (without_places ds) → d.message.sender ≡ me
      → OwnInit v.number d.message.number d.payload
  in-view v one c' m' ds so d there sender =
      let e = map-mem letter_of ds d there in
      let k = mem-slice_get ds e.0 e.1 in
      let echo : IsBacked f v (Echo v.number d.message d.payload) = subst
      (λ (d : Letter). IsBacked f v (Echo v.number d.message d.payload)) e.2
      (backed f v one c' m' (Echo v.number e.0.message e.0.payload) (so.payloads k.0 e.0 k.1)) in
      of-echo v one d sender (backed-due f v (Echo v.number d.message d.payload) one echo refl)

  own-init : (x : ℕ) (d : Letter) → Mem d (seq x) → d.message.sender ≡ me → OwnInit x d.message.number d.payload
  own-init x d there sender = go (sequence-so f premises x)
    where
      go : SequenceSo f x → OwnInit x d.message.number d.payload
      go (empty none) = absurd (subst (Mem d) none there)
      go (delivered_by c' m' v at ds so is) =
          subst (λ x. OwnInit x d.message.number d.payload)
          (indexed f.setting c'.turns (end_of f.setting c') (of-history f premises c') x v at)
          (in-view v (one-view f premises c' m' v (slice_get-mem (views_of (end_of f.setting c')) x v at)) c' m' ds so d
          (subst (Mem d) (sym is) there) sender)

  -- the view of a moment stands behind those that were left
  moment-at : (q : Process) → HasGrown q (end_of f.setting c) → slice_get (views_of (end_of f.setting c)) (length q.left) ≡ Some q.pool.view
  moment-at q g = subst (λ vs. slice_get vs (length q.left) ≡ Some q.pool.view) g.views.1
      (slice_get-front (views_of q) g.views.0 (length q.left) q.pool.view (current-at q))

  -- ---- how many stood before

  abbrev count : ℕ → ℕ
  count y = length (of_sender me (seq y))

  total : ℕ → ℕ → ℕ
  total a zero = 0
  total a (suc n) = count a + total (a + 1) n

  total-last : (a n : ℕ) → total a (suc n) ≡ total a n + count (a + n)
  unfolding total
  total-last a zero = let same : a + 0 ≡ a = omega arith in let e : count (a + 0) ≡ count a = ap count same in omega (arith, e)
  total-last a (suc n) =
      let rest = total-last (a + 1) n in
      let same : (a + 1) + n ≡ a + suc n = omega arith in
      let e : count ((a + 1) + n) ≡ count (a + suc n) = ap count same in
      omega (arith, rest, e)

  none-own : (ds : List Letter) → ((d : Letter) → Mem d ds → d.message.sender ≡ me → ⊥) → length (of_sender me ds) ≡ 0
  none-own ds no' = go (of_sender me ds) refl
    where
      go : (es : List Letter) → of_sender me ds ≡ es → length es ≡ 0
      go [] e = refl
      go (d ∷ es) e = absurd (let there = filter-mem (λ (d : Letter). d.message.sender == me) ds d
          (subst (Mem d) (sym e) (inl refl)) in no' d there.0 (eqb-true d.message.sender me there.1))

  agrees : AgreesWith (group_of (accounts f)) (account_of (end_of f.setting c))
  agrees = All-mem (AgreesWith (group_of (accounts f))) (accounts f) (account_of (end_of f.setting c)) (agreement f premises)
      (mem-map account_of (ends f) (end_of f.setting c) (in-ends f c m))

  -- what it delivered of its own in a view that it left is all of it
  left-count : (y : ℕ) (l : Left) → slice_get (end_of f.setting c).left y ≡ Some l → y + 1 < length (views_of (end_of f.setting c))
      → length (of_sender me (without_places l.delivered)) ≡ count y
  left-count y l at far = go (is_member l.view me) refl
    where
      mine : messages_in (account_of (end_of f.setting c)) y ≡ without_places l.delivered
      mine = ap without_places (left-delivered (end_of f.setting c) y l at)

      go : (b : Bool) → is_member l.view me ≡ b → length (of_sender me (without_places l.delivered)) ≡ count y
      go true e = ap (λ ds. length (of_sender me ds)) (sym mine ∙ agrees.whole y l.view (left-view (end_of f.setting c) y l at) e far)
      go false e = none-own (without_places l.delivered) (λ d there. outside d (prefixed d there)) ∙ sym (none-own (seq y) outside)
        where
          prefixed : (d : Letter) → Mem d (without_places l.delivered) → Mem d (seq y)
          prefixed d there = let p = agrees.prefixes y in subst (Mem d) p.1
              (mem-append (messages_in (account_of (end_of f.setting c)) y) p.0 d (subst (Mem d) (sym mine) there))

          clash : {b : Bool} → b ≡ false → b ≡ true → ⊥
          clash e e' = absurd cc

          outside : (d : Letter) → Mem d (seq y) → d.message.sender ≡ me → ⊥
          outside d there sender =
              let init = own-init y d there sender in
              let q : Process = init.moment in
              let at' = moment-at q init.grown in
              let y_is : length q.left ≡ y = sym
              (indexed f.setting c.turns (end_of f.setting c) (of-history f premises c) (length q.left) q.pool.view at') ∙ init.number in
              let is : q.pool.view ≡ l.view = some-is q.pool.view l.view _ (ap (slice_get (views_of (end_of f.setting c))) (sym y_is) ∙ at')
              (left-view (end_of f.setting c) y l at) in
              clash e (subst (λ (v : View). is_member v me ≡ true) is
              (subst (λ n. is_member q.pool.view n ≡ true) (sym init.grown.me) init.member))

  sum-lefts : (ls : List Left) (a : ℕ)
      → ((i : ℕ) (l : Left) → slice_get ls i ≡ Some l → length (of_sender me (without_places l.delivered)) ≡ count (a + i))
      → sum (map (λ (l : Left). delivered_from me l.delivered) ls) ≡ total a (length ls)
  unfolding total
  sum-lefts [] a each = refl
  sum-lefts (l ∷ ls) a each =
      let rest = sum-lefts ls (a + 1) (λ i l at. let same : a + suc i ≡ (a + 1) + i = omega arith in each (suc i) l at ∙ ap count same) in
      let split = sum_by-cons (λ (x : ℕ). x) (delivered_from me l.delivered) (map (λ (l : Left). delivered_from me l.delivered) ls) in
      let counted = length-filter (λ (d : Delivered). d.message.sender == me) l.delivered in
      let placeless = length-filter-map letter_of (λ (d : Letter). d.message.sender == me) l.delivered in
      let none : a + 0 ≡ a = omega arith in
      let first : length (of_sender me (without_places l.delivered)) ≡ count a = each 0 l refl ∙ ap count none in
      omega (arith, rest, split, counted, placeless, first)

  earlier-is : (q : Process) → HasGrown q (end_of f.setting c) → earlier q ≡ total 0 q.pool.view.number
  earlier-is q g =
      let at = moment-at q g in
      let far = slice_get-length (views_of (end_of f.setting c)) (length q.left) q.pool.view at in
      let x_is = indexed f.setting c.turns (end_of f.setting c) (of-history f premises c) (length q.left) q.pool.view at in
      ap (λ n. sum (map (λ (l : Left). delivered_from n l.delivered) q.left)) (sym g.me)
      ∙ sum-lefts q.left 0 (λ i l in_left. let short = slice_get-length q.left i l in_left in
      let same : i ≡ 0 + i = omega arith in
      left-count i l (subst (λ ls. slice_get ls i ≡ Some l) g.left.1 (slice_get-front q.left g.left.0 i l in_left))
      (omega (arith, short, far)) ∙ ap count same)
      ∙ ap (total 0) (sym x_is)

  own-at : (x l : ℕ) (d : Letter) → slice_get (of_sender me (seq x)) l ≡ Some d
      → slice_get (end_of f.setting c).accepted (total 0 x + l) ≡ Some d.payload
  own-at x l d at =
      let there = filter-mem (λ (d : Letter). d.message.sender == me) (seq x) d (slice_get-mem (of_sender me (seq x)) l d at) in
      let init = own-init x d there.0 (eqb-true d.message.sender me there.1) in
      let q : Process = init.moment in
      let numbered = map-get (λ (d : Letter). d.message.number) (of_sender me (seq x)) l d at in
      let number : d.message.number ≡ 0 + l = range-get 0 (length (of_sender me (seq x))) l d.message.number
      (ap (λ ns. slice_get ns l) (sym (each-in-order f premises x me)) ∙ numbered) in
      let base : earlier q ≡ total 0 x = earlier-is q init.grown ∙ ap (total 0) init.number in
      let same : earlier q + d.message.number ≡ total 0 x + l = omega (arith, number, base) in
      subst (λ bs. slice_get bs (total 0 x + l) ≡ Some d.payload) init.grown.accepted.1
      (slice_get-front q.accepted init.grown.accepted.0 (total 0 x + l) d.payload (ap (slice_get q.accepted) (sym same) ∙ init.accepted))

  abbrev payloads : List Letter → List (List ℕ)
  payloads ds = map (λ (d : Letter). d.payload) (of_sender me ds)

  payloads-append : (xs ys : List Letter) → payloads (xs ++ ys) ≡ payloads xs ++ payloads ys
  payloads-append xs ys = ap (map (λ (d : Letter). d.payload))
      (filter-append (λ (d : Letter). d.message.sender == me) xs ys) ∙ map-append (λ (d : Letter). d.payload) (of_sender me xs)
      (of_sender me ys)

  from-on : (n a i : ℕ) (b : List ℕ) → slice_get (payloads (flat_map seq (range_with_len a n))) i ≡ Some b
      → slice_get (end_of f.setting c).accepted (total 0 a + i) ≡ Some b
  from-on zero a i b e = absurd cc
  from-on (suc n) a i b e = go (get-append (payloads (seq a))
      (payloads (flat_map seq (range_with_len (a + 1) n))) i b
      (ap (λ bs. slice_get bs i) (sym (payloads-append (seq a) (flat_map seq (range_with_len (a + 1) n)))) ∙ e))
      (λ j b e. from-on n (a + 1) j b e)
    where
      go : (slice_get (payloads (seq a)) i ≡ Some b)
          ⊎ ((j : ℕ) × (i ≡ length (payloads (seq a)) + j) × (slice_get (payloads (flat_map seq (range_with_len (a + 1) n))) j ≡ Some b))
          → ((j : ℕ) (b : List ℕ) → slice_get (payloads (flat_map seq (range_with_len (a + 1) n))) j ≡ Some b
          → slice_get (end_of f.setting c).accepted (total 0 (a + 1) + j) ≡ Some b)
          → slice_get (end_of f.setting c).accepted (total 0 a + i) ≡ Some b
      go (inl here) rest = let d = get-map (λ (d : Letter). d.payload) (of_sender me (seq a)) i b here in own-at a i d.0 d.1 ∙ ap Some d.2
      go (inr there) rest =
          let long = length-map (of_sender me (seq a)) (λ (d : Letter). d.payload) in
          let next : a + 1 ≡ suc a = omega arith in
          let base : total 0 (a + 1) ≡ total 0 (suc a) = ap (total 0) next in
          let more = total-last 0 a in
          let zero-a : 0 + a ≡ a = omega arith in
          let counted : count (0 + a) ≡ count a = ap count zero-a in
          let at = there.1 in
          let same : total 0 a + i ≡ total 0 (a + 1) + there.0 = omega (arith, long, base, more, counted, at) in
          ap (slice_get (end_of f.setting c).accepted) same ∙ rest there.0 b there.2

  prefix-from : {A : Type 0} (xs ys : List A) → ((i : ℕ) (y : A) → slice_get xs i ≡ Some y → slice_get ys i ≡ Some y) → IsPrefixOf xs ys
  prefix-from [] ys each = (ys, refl)
  prefix-from (x ∷ xs) [] each = absurd (let e = each zero x refl in cc)
  prefix-from (x ∷ xs) (y ∷ ys) each =
      let rest = prefix-from xs ys (λ i z at. each (suc i) z at) in
      let is : y ≡ x = head-is (each zero x refl) in
      (rest.0, λ i. sym is i ∷ rest.1 i)
    where
      head-is : Some y ≡ Some x → y ≡ x
      head-is e = cc

  total-none : total 0 0 ≡ 0
  unfolding total
  total-none = refl

  pub accepted-prefix : IsPrefixOf (payloads (history (group_of (accounts f)))) (end_of f.setting c).accepted
  accepted-prefix = prefix-from (payloads (history (group_of (accounts f)))) (end_of f.setting c).accepted
      (λ i b at. let same : total 0 0 + i ≡ i = (let none = total-none in omega (arith, none)) in
      ap (slice_get (end_of f.setting c).accepted) (sym same) ∙ from-on (length (group_of (accounts f)).views) 0 i b at)

pub cause_and_order : CauseAndOrder
cause_and_order f premises = record {
  causes = causes f premises;
  once = each-once f premises;
  in_order = each-in-order f premises;
  accepted = each-account f (λ a. IsPrefixOf
      (map (λ (d : Letter). d.payload) (of_sender a.me (history (group_of (accounts f))))) a.accepted)
      (λ c m. accepted-prefix f premises c m);
  placed = are-placed f premises;
}
