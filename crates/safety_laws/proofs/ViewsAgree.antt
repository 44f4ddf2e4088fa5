-- All correct processes have the same views.
use Rattle.std.proofs.Common.{◌≡◌, ◌⊎◌, inl, inr, ℕ, zero, suc, ◌≤◌, List, map, length, Some, refl, sym, ap, ◌∙◌, subst, arith, slice_get}
use Rattle.std.specs.Prelude.{All, slice_index_or}
use Rattle.group_defs.specs.Views.{View, next_view, IsView}
use Rattle.group_defs.specs.Below.{Value, Statement, Keep, Ready}
use Rattle.group_defs.specs.Process.{Setting, Left, Process, start, views_of}
use Rattle.group_defs.specs.Events.{Turn}
use Rattle.group_defs.specs.Family.{Correct, Family, end_of, ends, handed_to}
use Rattle.group_defs.specs.Laws.{HasGrown, Premises, IsOneView, IsBacked, InstalledIsOne}
use Rattle.std.proofs.lemmas.List.{length-map}
use Rattle.safety_laws.proofs.CertifiedIsBacked.{certified_is_backed}
use Rattle.safety_laws.proofs.EachWasDue.{grown-self}
use Rattle.safety_laws.proofs.History.{Certifies, History, Reach, closed, grows, history-keeps, history-start, kept, none}
use Rattle.safety_laws.proofs.Induction.{run-keeps}
use Rattle.safety_laws.proofs.Installed.{installed_is_view}
use Rattle.safety_laws.proofs.KeptBelowCut.{kept_below_cut}
use Rattle.pool_laws.proofs.Members.{All-mem, Mem, index-mem, map-mem, mem-All, mem-Contains}
use Rattle.safety_laws.proofs.Moments.{wider}
use Rattle.pool_laws.proofs.Places.{Compared, ahead, behind, compared, get-map, level, mem-slice_get, slice_get-index, slice_get-mem, slice_get-snoc}
use Rattle.safety_laws.proofs.Quorums.{in-ends}
use Rattle.safety_laws.proofs.ReadyFixesValue.{ready-ack, ready_fixes_value}
use Rattle.pool_laws.proofs.Tests.{some-is}
use Rattle.safety_laws.proofs.ViewsOf.{left-before, left-view, moment-view}

-- ---- in one view

module _ (f : Family) (v : View) (one : IsOneView f v) where
  pub backed : (c : Correct) → Mem c f.correct → (st : Statement) → Certifies f.setting c.turns (end_of f.setting c) v st → IsBacked f v st
  backed c m st seen = certified_is_backed f v seen.moment st one
      (record {
        by = end_of f.setting c;
        correct = mem-Contains (ends f) (end_of f.setting c) (in-ends f c m);
        grown = seen.grown;
        heard = λ k d lt. wider f c m seen.moment.signed _ (seen.heard k d lt);
      })
      seen.at seen.certified

  pub one-decided : (r r' : ℕ) (w w' : Value) → IsBacked f v (Ready v.number r w) → IsBacked f v (Ready v.number r' w') → w ≡ w'
  one-decided r r' w w' ready ready' = go (compared r r')
    where
      go : Compared r r' → w ≡ w'
      go (ahead lt) = sym (ready_fixes_value f v r r' w w' one ready (ready-ack f v one r' w' ready') (omega (arith, lt)))
      go (level e) = sym (ready_fixes_value f v r r' w w' one ready (ready-ack f v one r' w' ready') (omega (arith, e)))
      go (behind lt) = ready_fixes_value f v r' r w' w one ready' (ready-ack f v one r w ready) (omega (arith, lt))

  pub within : (r : ℕ) (w : Value) → IsBacked f v (Ready v.number r w) → (c : Correct) → Mem c f.correct → (n : ℕ)
      → Reach f.setting c.turns (end_of f.setting c) v n → n ≤ w.cut
  within r w ready c m n (none e) = omega (arith, e)
  within r w ready c m n (kept k message seen le) =
      let below = kept_below_cut f v r k w message one (backed c m (Keep v.number k message) seen) (ready-ack f v one r w ready) in
      omega (arith, le, below)
  within r w ready c m n (closed r' w' seen le) =
      let is : w ≡ w' = one-decided r r' w w' ready (backed c m (Ready v.number r' w') seen) in
      subst (λ (w : Value). n ≤ w.cut) (sym is) le

-- ---- at the end

pub of-history : (f : Family) → Premises f → (c : Correct) → History f.setting c.turns (end_of f.setting c)
of-history f premises c = run-keeps f.setting (History f.setting c.turns) c.turns (history-keeps f.setting c.turns)
    (start f.setting c.me c.batch_limit) (history-start f.setting c.turns c.me c.batch_limit premises.first)

pub seen-view : (f : Family) (c : Correct) (v : View) (st : Statement) → Certifies f.setting c.turns (end_of f.setting c) v st
    → Mem v (views_of (end_of f.setting c))
seen-view f c v st seen = subst (λ v. Mem v (views_of (end_of f.setting c))) seen.at
    (moment-view seen.moment (end_of f.setting c) seen.grown)

pub indexed : (s : Setting) (turns : List Turn) (p : Process) → History s turns p → (i : ℕ) (v : View) → slice_get (views_of p) i ≡ Some v
    → v.number ≡ i
indexed s turns p ok i v at = go (slice_get-snoc (map (λ (l : Left). l.view) p.left) p.pool.view i v at)
  where
    go : (slice_get (map (λ (l : Left). l.view) p.left) i ≡ Some v) ⊎ ((i ≡ length (map (λ (l : Left). l.view) p.left)) × (p.pool.view ≡ v))
        → v.number ≡ i
    go (inl before) = let l = get-map (λ (l : Left). l.view) p.left i v before in sym (ap (λ (v : View). v.number) l.2) ∙
        (ok.lefts i l.0 l.1).number
    go (inr end) = sym (ap (λ (v : View). v.number) end.1) ∙ ok.number ∙ sym (end.0 ∙ length-map p.left (λ (l : Left). l.view))

abbrev pub AgreeAt : Family → ℕ → Type 0
AgreeAt f x = (c c' : Correct) → Mem c f.correct → Mem c' f.correct → (v w : View) → slice_get (views_of (end_of f.setting c)) x ≡ Some v
    → slice_get (views_of (end_of f.setting c')) x ≡ Some w → v ≡ w

one-view-at : (f : Family) (premises : Premises f) (x : ℕ) → AgreeAt f x → (c : Correct) → Mem c f.correct → (v : View)
    → slice_get (views_of (end_of f.setting c)) x ≡ Some v → IsOneView f v
one-view-at f premises x agree c m v at = record {
  premises = premises;
  by = p;
  correct = mem-Contains (ends f) p (in-ends f c m);
  installed = mem-Contains (views_of p) v (slice_get-mem (views_of p) x v at);
  view = All-mem IsView (views_of p) v (All-mem (λ p. All IsView (views_of p)) (ends f) p (installed_is_view f premises) (in-ends f c m))
      (slice_get-mem (views_of p) x v at);
  of_all = λ k d lt. let there = map-mem (end_of f.setting) f.correct (slice_index_or (ends f) k d) (index-mem (ends f) k d lt) in
      subst (λ p. All (λ w. w.number ≡ v.number → w ≡ v) (views_of p)) there.2 (all-of there.0 there.1);
}
  where
    p : Process
    p = end_of f.setting c

    all-of : (c' : Correct) → Mem c' f.correct → All (λ w. w.number ≡ v.number → w ≡ v) (views_of (end_of f.setting c'))
    all-of c' m' i d lt = λ same.
        let w : View = slice_index_or (views_of (end_of f.setting c')) i d in
        let at' : slice_get (views_of (end_of f.setting c')) i ≡ Some w = slice_get-index (views_of (end_of f.setting c')) i d lt in
        let i_is : i ≡ x = sym (indexed f.setting c'.turns (end_of f.setting c')
        (of-history f premises c') i w at') ∙ same ∙ indexed f.setting c.turns p (of-history f premises c) x v at in
        agree c' c m' m w v (subst (λ i. slice_get (views_of (end_of f.setting c')) i ≡ Some w) i_is at') at

genesis-first : (f : Family) (c : Correct) → slice_get (views_of (end_of f.setting c)) 0 ≡ Some f.setting.genesis
genesis-first f c =
    let grown = run-keeps f.setting (HasGrown (start f.setting c.me c.batch_limit)) c.turns
    (grows f.setting (handed_to c.turns) (start f.setting c.me c.batch_limit)) (start f.setting c.me c.batch_limit)
    (grown-self (start f.setting c.me c.batch_limit)) in
    subst (λ vs. slice_get vs 0 ≡ Some f.setting.genesis) grown.views.1 refl

pub views-agree : (f : Family) → Premises f → (x : ℕ) → AgreeAt f x
views-agree f premises zero c c' m m' v w at at' = some-is v f.setting.genesis _ at (genesis-first f c) ∙ some-is f.setting.genesis w _
    (genesis-first f c') at'
views-agree f premises (suc x) c c' m m' v w at at' =
    let l = left-before (end_of f.setting c) x v at in
    let l' = left-before (end_of f.setting c') x w at' in
    step l.0 l.1 l'.0 l'.1 (views-agree f premises x)
  where
    step : (l : Left) → slice_get (end_of f.setting c).left x ≡ Some l → (l' : Left) → slice_get (end_of f.setting c').left x ≡ Some l'
        → AgreeAt f x → v ≡ w
    step l at_l l' at_l' agree =
        let so = (of-history f premises c).lefts x l at_l in
        let so' = (of-history f premises c').lefts x l' at_l' in
        let in_l = left-view (end_of f.setting c) x l at_l in
        let same : l.view ≡ l'.view = agree c c' m m' l.view l'.view in_l (left-view (end_of f.setting c') x l' at_l') in
        let one : IsOneView f l.view = one-view-at f premises x agree c m l.view in_l in
        let ready : IsBacked f l.view (Ready l.view.number so.rank so.value) = backed f l.view one c m _ so.decided in
        let ready' : IsBacked f l.view (Ready l.view.number so'.rank so'.value) = backed f l.view one c' m'
        (Ready l.view.number so'.rank so'.value)
        (subst (λ (u : View). Certifies f.setting c'.turns (end_of f.setting c') u (Ready u.number so'.rank so'.value))
        (sym same) so'.decided) in
        let value : so.value ≡ so'.value = one-decided f l.view one so.rank so'.rank so.value so'.value ready ready' in
        some-is v (next_view l.view so.value.update) _ at so.next ∙ (λ i. next_view (same i) (value i).update) ∙ some-is
        (next_view l'.view so'.value.update) w _ so'.next at'

pub one-view : (f : Family) → Premises f → (c : Correct) → Mem c f.correct → (v : View) → Mem v (views_of (end_of f.setting c))
    → IsOneView f v
one-view f premises c m v in_views = let at = mem-slice_get (views_of (end_of f.setting c)) v in_views in one-view-at f premises at.0
    (views-agree f premises at.0) c m v at.1

pub installed-one : (f : Family) → Premises f → (p : Process) → Mem p (ends f) → (v : View) → Mem v (views_of p) → IsOneView f v
installed-one f premises p m v there = let c = map-mem (end_of f.setting) f.correct p m in one-view f premises c.0 c.1 v
    (subst (λ (p : Process). Mem v (views_of p)) (sym c.2) there)

pub installed_is_one : InstalledIsOne
installed_is_one f premises = mem-All (λ (p : Process). All (IsOneView f) (views_of p)) (ends f)
    (λ p m. mem-All (IsOneView f) (views_of p) (λ v there. installed-one f premises p m v there))
