-- A view ends with an update that a correct member perceived in it.
use Rattle.std.proofs.Common.{◌≡◌, ℕ, suc, ◌+◌, ◌<◌, List, [], ◌∷◌, length, Some, true, refl, sym, ap, ◌∙◌, subst, arith, slice_get}
use Rattle.std.specs.Prelude.{◌&&◌, ◌||◌, ◌==◌, nat_le, count_by, filter, Contains, is_some, ◌-◌}
use Rattle.std.specs.List.{list_any}
use Rattle.std.proofs.lemmas.Bool.{ltb-true}
use native.Mathlib.Decide.{ℕ_discrete}
use Rattle.group_defs.specs.Below.{is_yes, pair_discrete, Update, Update-discrete, Value, Statement, Notify}
use Rattle.group_defs.specs.Views.{View, faulty, is_member, is_possible, next_view}
use Rattle.group_defs.specs.Process.{Setting, Pool, Process, keyed, views_of}
use Rattle.group_defs.specs.Certified.{says, backers, is_notified, place_at}
use Rattle.group_defs.specs.Values.{ends, is_quorum, is_free}
use Rattle.group_defs.specs.Due.{is_perceived}
use Rattle.group_defs.specs.Accounts.{Account, account_of, group_of, HasCause}
use Rattle.group_defs.specs.Family.{Correct, Family, numbers, end_of, accounts, statements_of}
use Rattle.group_defs.specs.Family as family
use Rattle.group_defs.specs.Laws.{Premises, StoodSo, IsOneView}
use Rattle.safety_laws.proofs.CertifiedIsBacked.{said-may_back}
use Rattle.safety_laws.proofs.KeptBelowCut.{acked_was_free}
use Rattle.safety_laws.proofs.MaySign.{notify-perceived, signing-member}
use Rattle.pool_laws.proofs.Members.{All-mem, Contains-mem, Mem, list_any-mem, mem-Contains, mem-map}
use Rattle.safety_laws.proofs.Moments.{DueAt, due-at}
use Rattle.safety_laws.proofs.OfGroup.{Whose, whose, nobody, its}
use Rattle.pool_laws.proofs.Places.{slice_get-mem}
use Rattle.safety_laws.proofs.Quorums.{signed-by, some-correct}
use Rattle.safety_laws.proofs.ReadyFixesValue.{ready-ack}
use Rattle.pool_laws.proofs.Tests.{and-first, and-four, some-is, yes-is}
use Rattle.safety_laws.proofs.ViewsAgree.{backed, of-history, one-view}
use Rattle.safety_laws.proofs.ViewsOf.{left-before, left-view}

pub perceived-mem : (p : Process) (e : ℕ × Update) → is_perceived p e ≡ true → Mem e p.perceived
perceived-mem p e is =
    let found = list_any-mem (λ d. is_yes (pair_discrete ℕ_discrete (Update-discrete ℕ_discrete) d e)) p.perceived is in
    subst (λ d. Mem d p.perceived) (yes-is (pair_discrete ℕ_discrete (Update-discrete ℕ_discrete) found.0 e) found.2) found.1

-- a free value's update was perceived by a correct member
abbrev PerceivedIn : Family → View → Update → Type 0
PerceivedIn f v u = (p : Process) × Mem p (family.ends f) × (is_member v p.me ≡ true) × Contains p.perceived (v.number, u)

-- a correct member that signed the Notify perceived it
signed-perceived : (f : Family) (v : View) → IsOneView f v → (c : Correct) → Mem c f.correct → (u : Update)
    → Mem (Notify v.number u) (statements_of (end_of f.setting c)) → PerceivedIn f v u
signed-perceived f v one c m u signed = go (due-at f v one c m (Notify v.number u) signed refl)
  where
    go : DueAt f v (Notify v.number u) → PerceivedIn f v u
    go (q, stood, at, may) =
        let by : Process = stood.by in (
          by,
          Contains-mem (family.ends f) by stood.correct,
          subst (λ me. is_member v me ≡ true) (sym stood.grown.me)
              (subst (λ (v : View). is_member v q.me ≡ true) at (signing-member f.setting q (Notify v.number u) may)),
          All-mem (Contains by.perceived) q.perceived (v.number, u) stood.grown.perceived
              (perceived-mem q (v.number, u) (notify-perceived f.setting q v.number u may)),
        )

notified-perceived : (f : Family) (v : View) → IsOneView f v → (q : Process) → StoodSo f q → q.pool.view ≡ v → (u : Update)
    → is_notified q.pool u ≡ true → PerceivedIn f v u
notified-perceived f v one q stood at u e = go
    (some-correct f v one (says q.pool st)
    (subst (λ (v : View). faulty (length v.members) < length (filter (says q.pool st) v.members)) at
    (ltb-true _ (length (backers q.pool st)) e)))
  where
    st : Statement
    st = Notify q.pool.view.number u

    go : (c : Correct) × Mem c f.correct × (says q.pool (Notify q.pool.view.number u) c.me ≡ true) → PerceivedIn f v u
    go (c, m, said) =
        let signed : Mem (Notify q.pool.view.number u)
        (statements_of (end_of f.setting c)) = signed-by f (Notify q.pool.view.number u) c m
        (said-may_back f v q one stood (Notify q.pool.view.number u) c.me said) in
        signed-perceived f v one c m u (subst (λ (w : View). Mem (Notify w.number u) (statements_of (end_of f.setting c))) at signed)

free-notified : (s : Setting) (h : Pool) (w : Value) → is_free s h w ≡ true → is_notified h w.update ≡ true
free-notified s h w e = and-first (is_notified h w.update) (is_possible (keyed s) h.view w.update)
    (and-four (is_notified h w.update && is_possible (keyed s) h.view w.update) (is_quorum h (count_by (λ k. nat_le k w.cut) (ends h)))
    (list_any (λ k. k == w.cut) (ends h)) ((w.cut == 0) || is_some (place_at h (w.cut - 1))) e).0

causes-of : (f : Family) → Premises f → (c : Correct) → Mem c f.correct → (x : ℕ) (v w : View)
    → slice_get (views_of (end_of f.setting c)) x ≡ Some v → slice_get (views_of (end_of f.setting c)) (suc x) ≡ Some w
    → HasCause (accounts f) (keyed f.setting) v w
causes-of f premises c m x v w at_v at_w =
    let p : Process = end_of f.setting c in
    let l = left-before p x w at_w in
    let so = (of-history f premises c).lefts x l.0 l.1 in
    let in_l = left-view p x l.0 l.1 in
    let one = one-view f premises c m l.0.view (slice_get-mem (views_of p) x l.0.view in_l) in
    let free = acked_was_free f l.0.view so.rank so.value one
    (ready-ack f l.0.view one so.rank so.value (backed f l.0.view one c m _ so.decided)) in
    let by = notified-perceived f l.0.view one free.0 free.1 free.2 so.value.update (free-notified f.setting free.0.pool so.value free.4) in
    subst (λ v. HasCause (accounts f) (keyed f.setting) v w) (some-is l.0.view v _ in_l at_v) (record {
      update = so.value.update;
      possible = so.possible;
      next = some-is w (next_view l.0.view so.value.update) _ at_w so.next;
      by = account_of by.0;
      correct = mem-Contains (accounts f) (account_of by.0) (mem-map account_of (family.ends f) by.0 by.1);
      member = by.2;
      perceived = by.3;
    })

pub causes : (f : Family) → Premises f → (x : ℕ) (v w : View) → slice_get (group_of (accounts f)).views x ≡ Some v
    → slice_get (group_of (accounts f)).views (x + 1) ≡ Some w → HasCause (accounts f) (keyed f.setting) v w
causes f premises x v w at_v at_w = go (whose f (λ (a : Account). a.views))
  where
    next-is : x + 1 ≡ suc x
    next-is = omega arith

    none-at : (vs : List View) → vs ≡ [] → slice_get vs x ≡ Some v → ⊥
    none-at [] e at = cc
    none-at (v ∷ vs) e at = absurd cc

    go : Whose f (λ (a : Account). a.views) → HasCause (accounts f) (keyed f.setting) v w
    go (nobody none) = absurd (none-at (group_of (accounts f)).views none at_v)
    go (its c m is) = causes-of f premises c m x v w (ap (λ vs. slice_get vs x) is ∙ at_v)
        (ap (λ vs. slice_get vs (suc x)) is ∙ ap (slice_get (group_of (accounts f)).views) (sym next-is) ∙ at_w)
