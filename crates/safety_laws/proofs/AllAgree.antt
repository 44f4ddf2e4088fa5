-- All correct processes agree: they deliver the same in each view.
use Rattle.std.proofs.Common.{◌≡◌, ◌⊎◌, inl, inr, ℕ, ◌+◌, ◌<◌, ◌≤◌, List, [], map, length, Some, true, refl, sym, ap, ◌∙◌, subst, arith, slice_get}
use Rattle.std.specs.Prelude.{All, slice_index_or}
use Rattle.group_defs.specs.Views.{View, is_member}
use Rattle.group_defs.specs.Below.{Message, Batch, Echo, Place, Ready, slot_of}
use Rattle.group_defs.specs.Process.{Setting, Letter, Delivered, Left, Process, views_of, deliveries_of, letter_of, without_places, places_in}
use Rattle.group_defs.specs.Events.{Turn}
use Rattle.group_defs.specs.Accounts.{Account, account_of, IsPrefixOf, delivered_in, messages_in, longest, group_of, AgreesWith}
use Rattle.group_defs.specs.Family.{Correct, Family, end_of, accounts}
use Rattle.group_defs.specs.Laws.{Premises, IsOneView, IsBacked, AgreeUpTo, AllAgreeUpTo, AgreeGoesOn, Agreement, OneSequence}
use Rattle.std.proofs.lemmas.List.{length-map}
use Rattle.safety_laws.proofs.Batches.{named_at, spread, spread-longer, spread-same}
use Rattle.safety_laws.proofs.History.{History, Reach, ViewSo}
use Rattle.pool_laws.proofs.Members.{Mem}
use Rattle.safety_laws.proofs.OfGroup.{Whose, at-most-longest, each-account, its-longest, whose, nobody, its}
use Rattle.safety_laws.proofs.OneContent.{one_content}
use Rattle.pool_laws.proofs.Places.{Compared, ahead, behind, compared, equal-by, get-map, get-some, level, map-get, prefix-by, prefix-map, slice_get-mem}
use Rattle.pool_laws.proofs.Slots.{echo-payload, place-batch}
use Rattle.pool_laws.proofs.Tests.{some-is}
use Rattle.safety_laws.proofs.ViewsAgree.{backed, of-history, one-view, views-agree, within}
use Rattle.safety_laws.proofs.ViewsOf.{current-at, current-delivered, left-delivered, left-view, length-views, nothing-later}

-- ---- what was delivered in the view of a number

pub data Part (s : Setting) (turns : List Turn) (p : Process) (y : ℕ) : Type 0 where
  nothing : slice_index_or (deliveries_of p) y [] ≡ [] → Part s turns p y
  something : (v : View) → slice_get (views_of p) y ≡ Some v → ViewSo s turns p v (slice_index_or (deliveries_of p) y []) → Part s turns p y

pub part : (s : Setting) (turns : List Turn) (p : Process) → History s turns p → (y : ℕ) → Part s turns p y
part s turns p ok y = go (compared y (length p.left))
  where
    go : Compared y (length p.left) → Part s turns p y
    go (ahead lt) =
        let l = get-some p.left y lt in
        something l.0.view (left-view p y l.0 l.1)
        (subst (ViewSo s turns p l.0.view) (sym (left-delivered p y l.0 l.1)) (ok.lefts y l.0 l.1).so)
    go (level e) = subst (Part s turns p) (sym e)
        (something p.pool.view (current-at p) (subst (ViewSo s turns p p.pool.view) (sym (current-delivered p)) ok.so))
    go (behind lt) = nothing (nothing-later p y lt)

delivered-is : (d e : Delivered) → named_at d ≡ named_at e → d.payload ≡ e.payload → d ≡ e
delivered-is d e m b = λ i. record { place = (m i).0; message = (m i).1; payload = b i }

nothing-at : {A : Type 0} (xs : List A) (k : ℕ) (x : A) → xs ≡ [] → slice_get xs k ≡ Some x → ⊥
nothing-at xs k x e at = none-at k x (sym (ap (λ xs. slice_get xs k) e) ∙ at)
  where
    none-at : {A : Type 0} (k : ℕ) (x : A) → slice_get [] k ≡ Some x → ⊥
    none-at k x e = cc

module _ (f : Family) (v : View) (one : IsOneView f v) (c c' : Correct) (m : Mem c f.correct) (m' : Mem c' f.correct) where
  module _ (ds es : List Delivered) (so : ViewSo f.setting c.turns (end_of f.setting c) v ds)
      (so' : ViewSo f.setting c'.turns (end_of f.setting c') v es) where
    pub same-batch : (k : ℕ) (b b' : Batch) → slice_get so.batches k ≡ Some b → slice_get so'.batches k ≡ Some b' → b ≡ b'
    same-batch k b b' at at' = place-batch v.number k b b'
        (one_content f v (Place v.number k b) (Place v.number k b') one (backed f v one c m _ (so.places k b at))
        (backed f v one c' m' _ (so'.places k b' at')) refl)

    same-place : (k : ℕ) (d e : Delivered) → slice_get ds k ≡ Some d → slice_get es k ≡ Some e → d ≡ e
    same-place k d e at at' =
        let named : named_at d ≡ named_at e = spread-same 0 so.batches so'.batches same-batch k (named_at d) (named_at e)
        (ap (λ xs. slice_get xs k) (sym so.as_placed) ∙ map-get named_at ds k d at)
        (ap (λ xs. slice_get xs k) (sym so'.as_placed) ∙ map-get named_at es k e at') in
        let message : d.message ≡ e.message = ap (λ (n : ℕ × Message). n.1) named in
        let payload : d.payload ≡ e.payload = echo-payload v.number d.message e.message d.payload e.payload
        (one_content f v (Echo v.number d.message d.payload)
        (Echo v.number e.message e.payload) one (backed f v one c m _ (so.payloads k d at))
        (backed f v one c' m' _ (so'.payloads k e at')) (ap (λ (m : Message). slot_of (Echo v.number m d.payload)) message)) in
        delivered-is d e named payload

    -- who has delivered no fewer places has delivered no fewer messages
    fewer : places_in es ≤ places_in ds → length es ≤ length ds
    fewer le =
        let n = so.count in
        let n' = so'.count in
        let front = prefix-by so'.batches so.batches (omega (arith, le, n, n')) (λ k b' b at' at. sym (same-batch k b b' at at')) in
        let longer : length (spread 0 so'.batches)
        ≤ length (spread 0 so.batches) = subst (λ bs. length (spread 0 so'.batches) ≤ length (spread 0 bs)) front.1
        (spread-longer 0 so'.batches front.0) in
        let mine = sym (length-map ds named_at) ∙ ap length so.as_placed in
        let its = sym (length-map es named_at) ∙ ap length so'.as_placed in
        omega (arith, longer, mine, its)

module _ (f : Family) (premises : Premises f) (c c' : Correct) (m : Mem c f.correct) (m' : Mem c' f.correct) (y : ℕ) where
  abbrev mine : List Delivered
  mine = slice_index_or (deliveries_of (end_of f.setting c)) y []

  abbrev other : List Delivered
  other = slice_index_or (deliveries_of (end_of f.setting c')) y []

  pub same-at : (k : ℕ) (d e : Delivered) → slice_get mine k ≡ Some d → slice_get other k ≡ Some e → d ≡ e
  same-at k d e at at' = go (part f.setting c.turns (end_of f.setting c) (of-history f premises c) y)
      (part f.setting c'.turns (end_of f.setting c') (of-history f premises c') y)
    where
      go : Part f.setting c.turns (end_of f.setting c) y → Part f.setting c'.turns (end_of f.setting c') y → d ≡ e
      go (nothing none) there = absurd (nothing-at mine k d none at)
      go here (nothing none) = absurd (nothing-at other k e none at')
      go (something v in_v so) (something w in_w so') =
          let is : v ≡ w = views-agree f premises y c c' m m' v w in_v in_w in
          let one = one-view f premises c m v (slice_get-mem (views_of (end_of f.setting c)) y v in_v) in
          same-place f v one c c' m m' mine other so
          (subst (λ v. ViewSo f.setting c'.turns (end_of f.setting c') v other) (sym is) so') k d e at at'

  -- who left it as a member delivered it whole
  pub whole-of : (v : View) → slice_get (views_of (end_of f.setting c)) y ≡ Some v → is_member v (end_of f.setting c).me ≡ true
      → y + 1 < length (views_of (end_of f.setting c)) → length other ≤ length mine
  whole-of v at member left =
      let p : Process = end_of f.setting c in
      let l = get-some p.left y (let long = length-views p in omega (arith, long, left)) in
      step l.0 l.1 (some-is l.0.view v _ (left-view p y l.0 l.1) at)
    where
      step : (l : Left) → slice_get (end_of f.setting c).left y ≡ Some l → l.view ≡ v → length other ≤ length mine
      step l in_left is =
          let so = (of-history f premises c).lefts y l in_left in
          let cut : places_in l.delivered
          ≡ so.value.cut = so.whole (subst (λ v. is_member v (end_of f.setting c).me ≡ true) (sym is) member) in
          let here : l.delivered ≡ mine = sym (left-delivered (end_of f.setting c) y l in_left) in
          let in_l = left-view (end_of f.setting c) y l in_left in
          let one = one-view f premises c m l.view (slice_get-mem (views_of (end_of f.setting c)) y l.view in_l) in
          let ready : IsBacked f l.view (Ready l.view.number so.rank so.value) = backed f l.view one c m _ so.decided in
          go so.value.cut (sym (ap places_in here) ∙ cut) l.view in_l one
          (subst (ViewSo f.setting c.turns (end_of f.setting c) l.view) here so.so)
          (λ n reach. within f l.view one so.rank so.value ready c' m' n reach)
          (part f.setting c'.turns (end_of f.setting c') (of-history f premises c') y)
        where
          go : (cut : ℕ) → places_in mine ≡ cut → (v : View) → slice_get (views_of (end_of f.setting c)) y ≡ Some v → IsOneView f v
              → ViewSo f.setting c.turns (end_of f.setting c) v mine
              → ((n : ℕ) → Reach f.setting c'.turns (end_of f.setting c') v n → n ≤ cut) → Part f.setting c'.turns (end_of f.setting c') y
              → length other ≤ length mine
          go cut e v in_v one so bound (nothing none) = let zero' : length other ≡ 0 = ap length none in omega (arith, zero')
          go cut e v in_v one so bound (something w in_w so') =
              let is : v ≡ w = views-agree f premises y c c' m m' v w in_v in_w in
              let there : ViewSo f.setting c'.turns (end_of f.setting c') v other = subst
              (λ v. ViewSo f.setting c'.turns (end_of f.setting c') v other) (sym is) so' in
              let le = bound (places_in other) there.reach in
              fewer f v one c c' m m' mine other so there (omega (arith, le, e))

-- ---- from view to view

pub agree-up-to : (f : Family) → Premises f → (x : ℕ) → AllAgreeUpTo f x
agree-up-to f premises x = each-account f (λ a. All (AgreeUpTo x a) (accounts f))
    (λ c m. each-account f (AgreeUpTo x (account_of (end_of f.setting c))) (λ c' m'. two c m c' m'))
  where
    two : (c : Correct) → Mem c f.correct → (c' : Correct) → Mem c' f.correct
        → AgreeUpTo x (account_of (end_of f.setting c)) (account_of (end_of f.setting c'))
    two c m c' m' = record {
      views = λ y v w le at at'. views-agree f premises y c c' m m' v w at at';
      prefixes = λ y lt. either y (compared (length (mine f premises c c' m m' y)) (length (other f premises c c' m m' y)));
      whole = λ y v lt at member left. prefix-map letter_of _ _
          (prefix-by (other f premises c c' m m' y) (mine f premises c c' m m' y) (whole-of f premises c c' m m' y v at member left)
          (λ k d e at at'. same-at f premises c' c m' m y k d e at at'));
    }
      where
        either : (y : ℕ) → Compared (length (mine f premises c c' m m' y)) (length (other f premises c c' m m' y))
            → IsPrefixOf (messages_in (account_of (end_of f.setting c)) y) (messages_in (account_of (end_of f.setting c')) y)
            ⊎ IsPrefixOf (messages_in (account_of (end_of f.setting c')) y) (messages_in (account_of (end_of f.setting c)) y)
        either y (ahead lt) = inl (prefix-map letter_of _ _
            (prefix-by (mine f premises c c' m m' y) (other f premises c c' m m' y) (omega (arith, lt)) (same-at f premises c c' m m' y)))
        either y (level e) = inl (prefix-map letter_of _ _
            (prefix-by (mine f premises c c' m m' y) (other f premises c c' m m' y) (omega (arith, e)) (same-at f premises c c' m m' y)))
        either y (behind lt) = inr (prefix-map letter_of _ _
            (prefix-by (other f premises c c' m m' y) (mine f premises c c' m m' y) (omega (arith, lt)) (same-at f premises c' c m' m y)))

pub agree_goes_on : AgreeGoesOn
agree_goes_on f x premises before = agree-up-to f premises (x + 1)

-- ---- the group

-- the sequence of a view is empty, or the messages that one correct process delivered in it
pub data SequenceSo (f : Family) (x : ℕ) : Type 0 where
  empty : (group_of (accounts f)).sequence x ≡ [] → SequenceSo f x
  delivered_by : (c : Correct) → Mem c f.correct → (v : View) → slice_get (views_of (end_of f.setting c)) x ≡ Some v → (ds : List Delivered)
      → ViewSo f.setting c.turns (end_of f.setting c) v ds → without_places ds ≡ (group_of (accounts f)).sequence x → SequenceSo f x

pub sequence-so : (f : Family) → Premises f → (x : ℕ) → SequenceSo f x
sequence-so f premises x = go (whose f (λ a. messages_in a x))
  where
    of-part : (c : Correct) → Mem c f.correct → messages_in (account_of (end_of f.setting c)) x ≡ (group_of (accounts f)).sequence x
        → Part f.setting c.turns (end_of f.setting c) x → SequenceSo f x
    of-part c m e (nothing none) = empty (sym e ∙ ap without_places none)
    of-part c m e (something v at so) = delivered_by c m v at (delivered_in (account_of (end_of f.setting c)) x) so e

    go : Whose f (λ a. messages_in a x) → SequenceSo f x
    go (nobody none) = empty none
    go (its c m e) = of-part c m e (part f.setting c.turns (end_of f.setting c) (of-history f premises c) x)

pub agreement : Agreement
agreement f premises = each-account f (AgreesWith (group_of (accounts f))) agrees
  where
    agrees : (c : Correct) → Mem c f.correct → AgreesWith (group_of (accounts f)) (account_of (end_of f.setting c))
    agrees c m =
        let vs : (c' : Correct) × Mem c' f.correct
        × (views_of (end_of f.setting c') ≡ longest (map (λ (a : Account). a.views) (accounts f))) = its-longest f
        (λ (a : Account). a.views) c m in
        record {
          views = prefix-by (views_of (end_of f.setting c)) (longest (map (λ (a : Account). a.views) (accounts f)))
              (at-most-longest f (λ (a : Account). a.views) c m)
              (λ k v w at at'. views-agree f premises k c vs.0 m vs.1 v w at (ap (λ vs. slice_get vs k) vs.2 ∙ at'));
          prefixes = λ x. prefix-by (messages_in (account_of (end_of f.setting c)) x) (longest (map (λ a. messages_in a x) (accounts f)))
              (at-most-longest f (λ a. messages_in a x) c m) (pointwise x);
          whole = λ x v at member left. equal-by (messages_in (account_of (end_of f.setting c)) x)
              (longest (map (λ a. messages_in a x) (accounts f))) (as-long x v at member left) (pointwise x);
        }
      where
        pointwise : (x k : ℕ) (d e : Letter) → slice_get (messages_in (account_of (end_of f.setting c)) x) k ≡ Some d
            → slice_get (longest (map (λ a. messages_in a x) (accounts f))) k ≡ Some e → d ≡ e
        pointwise x k d e at at' =
            let ds = its-longest f (λ a. messages_in a x) c m in
            let mine' = get-map letter_of (delivered_in (account_of (end_of f.setting c)) x) k d at in
            let its' = get-map letter_of (delivered_in (account_of (end_of f.setting ds.0)) x) k e (ap (λ es. slice_get es k) ds.2 ∙ at') in
            sym mine'.2 ∙ ap letter_of (same-at f premises c ds.0 m ds.1 x k mine'.0 its'.0 mine'.1 its'.1) ∙ its'.2

        as-long : (x : ℕ) (v : View) → slice_get (views_of (end_of f.setting c)) x ≡ Some v → is_member v (end_of f.setting c).me ≡ true
            → x + 1 < length (views_of (end_of f.setting c))
            → length (messages_in (account_of (end_of f.setting c)) x) ≡ length (longest (map (λ a. messages_in a x) (accounts f)))
        as-long x v at member left =
            let ds = its-longest f (λ a. messages_in a x) c m in
            let le = whole-of f premises c ds.0 m ds.1 x v at member left in
            let long = length-map (delivered_in (account_of (end_of f.setting c)) x) letter_of in
            let long' = length-map (delivered_in (account_of (end_of f.setting ds.0)) x) letter_of in
            let same : length (messages_in (account_of (end_of f.setting ds.0)) x)
            ≡ length (longest (map (λ a. messages_in a x) (accounts f))) = ap length ds.2 in
            let ge = at-most-longest f (λ a. messages_in a x) c m in
            omega (arith, le, long, long', same, ge)

pub one_sequence : OneSequence
one_sequence f premises = ((group_of (accounts f)).sequence 0, λ k d lt. (agreement f premises k d lt).prefixes 0)
