-- Each installed view has 1 to 16 members, each once.
use Rattle.std.proofs.Common.{◌≡◌, ◌⊎◌, inl, inr, ℕ, List, [], ◌∷◌, ◌++◌, Option, Some, None, Bool, true, false, refl, ◌∙◌, subst}
use Rattle.std.specs.Prelude.{if◌then◌else◌, All, is_none, slice_index_or}
use Rattle.std.specs.List.{range_with_len}
use Rattle.group_defs.specs.Below.{first_some, Value, Ready, ReadyAt, Claim}
use Rattle.group_defs.specs.Views.{View, next_fault, next_view, has_keys, is_possible, IsView}
use Rattle.group_defs.specs.Process.{Setting, Pool, Left, Process, start, keyed, views_of}
use Rattle.group_defs.specs.Certified.{is_certified, value_at, number_of_members}
use Rattle.group_defs.specs.Settle.{decided_at, decided_by}
use Rattle.group_defs.specs.Family.{Correct, end_of, ends}
use Rattle.group_defs.specs.Laws.{InstalledIsView}
use Rattle.std.proofs.lemmas.List.{map-append}
use Rattle.pool_laws.proofs.Heard.{value-certified}
use Rattle.safety_laws.proofs.Induction.{Keeps, run-keeps}
use Rattle.pool_laws.proofs.Members.{Mem, index-mem, map-mem, snoc-mem}
use Rattle.group_defs.proofs.FollowingViews.{next_is_view}
use Rattle.pool_laws.proofs.Tests.{and-first, none-is, option_or-is, some-same, then-some}
use Rattle.safety_laws.proofs.ViewsOf.{current-view}

-- ---- what is decided

pub first_some-is : {A B : Type 0} (g : A → Option B) (xs : List A) (y : B) → first_some g xs ≡ Some y → (x : A) × (g x ≡ Some y)
first_some-is g [] y e = absurd cc
first_some-is {A} {B} g (x ∷ xs) y e = go (g x) refl e (first_some-is g xs y)
  where
    go : (o : Option B) → g x ≡ o → elim o [ None ↦ first_some g xs | Some z ↦ Some z ] ≡ Some y
        → (first_some g xs ≡ Some y → (x : A) × (g x ≡ Some y)) → (x : A) × (g x ≡ Some y)
    go None f e rest = rest e
    go (Some z) f e rest = (x, f ∙ e)

abbrev pub IsDecided : Setting → Pool → ℕ × Value → Type 0
IsDecided s h d = (is_possible (keyed s) h.view d.1.update ≡ true) × (is_certified h (Ready h.view.number d.0 d.1) ≡ true)

pub decided_by-is : (s : Setting) (h : Pool) (d : ℕ × Value) → decided_by s h ≡ Some d → IsDecided s h d
decided_by-is s h d e =
    let at = first_some-is (decided_at s h) (range_with_len 0 (number_of_members h)) d e in
    let v = then-some (λ v. if is_possible (keyed s) h.view v.update then Some (at.0, v) else None)
    (value_at h (ReadyAt h.view.number at.0)) d at.1 in
    go at.0 v.0 v.1 (is_possible (keyed s) h.view v.0.update) refl v.2
  where
    go : (r : ℕ) (w : Value) → value_at h (ReadyAt h.view.number r) ≡ Some w → (b : Bool) → is_possible (keyed s) h.view w.update ≡ b
        → (if b then Some (r, w) else None) ≡ Some d → IsDecided s h d
    go r w e true f is = subst (IsDecided s h) (some-same (r, w) d is) (f, value-certified h r w e)
    go r w e false f is = absurd cc

-- ---- each view of a process

abbrev OkViews : Process → Type 0
OkViews p = (v : View) → Mem v (views_of p) → IsView v

record Fine (s : Setting) (p : Process) : Type 0 where
  pub views : OkViews p
  pub possible : (d : ℕ × Value) → p.decision ≡ Some d → is_possible (keyed s) p.pool.view d.1.update ≡ true

keeps : (s : Setting) (from : List Claim) → Keeps s from (Fine s)
keeps s from = record {
  accepts = λ p payload ok. record { views = ok.views; possible = ok.possible };
  perceives = λ p e ok. record { views = ok.views; possible = ok.possible };
  hears = λ p c m e ok. record { views = ok.views; possible = ok.possible };
  doubts = λ p conflicts ok. record { views = ok.views; possible = ok.possible };
  signs = λ p signer st next none ok. record { views = ok.views; possible = ok.possible };
  decides = λ p ok. record {
    views = ok.views;
    possible = λ d e. elim (option_or-is p.decision (decided_by s p.pool) d e) [
      | inl was ↦ ok.possible d was
      | inr now ↦
          (decided_by-is s p.pool d now).0
    ];
  };
  delivers = λ p ds member room e ok. record { views = ok.views; possible = ok.possible };
  installs = λ p d decided whole ok. record {
    views = λ v m. installed p d decided ok v
        (snoc-mem (views_of p) (next_view p.pool.view d.1.update) v
        (subst (λ vs. Mem v (vs ++ next_view p.pool.view d.1.update ∷ [])) (map-append (λ (l : Left). l.view) p.left _) m));
    possible = λ d e. absurd cc;
  };
  halts = λ p d decided member ok. record { views = ok.views; possible = ok.possible };
}
  where
    installed : (p : Process) (d : ℕ × Value) → p.decision ≡ Some d → Fine s p → (v : View)
        → Mem v (views_of p) ⊎ (next_view p.pool.view d.1.update ≡ v) → IsView v
    installed p d decided ok v (inl before) = ok.views v before
    installed p d decided ok v (inr e) = subst IsView e
        (next_is_view p.pool.view d.1.update
        (none-is (next_fault p.pool.view d.1.update)
        (and-first (is_none (next_fault p.pool.view d.1.update)) (has_keys (keyed s) d.1.update) (ok.possible d decided)))
        (ok.views p.pool.view (current-view p)))

pub installed_is_view : InstalledIsView
installed_is_view f premises k d lt =
    let m = index-mem (ends f) k d lt in
    let c = map-mem (end_of f.setting) f.correct (slice_index_or (ends f) k d) m in
    subst (λ (p : Process). All IsView (views_of p)) c.2 (of-run c.0)
  where
    genesis : OkViews (start f.setting 0 0)
    genesis v (inl e) = subst IsView e premises.genesis
    genesis v (inr m) = absurd m

    of-run : (c : Correct) → All IsView (views_of (end_of f.setting c))
    of-run c i d lt =
        let fine = run-keeps f.setting (Fine f.setting) c.turns (keeps f.setting _) (start f.setting c.me c.batch_limit)
        (record { views = genesis; possible = λ d e. absurd cc }) in
        fine.views (slice_index_or (views_of (end_of f.setting c)) i d) (index-mem (views_of (end_of f.setting c)) i d lt)
