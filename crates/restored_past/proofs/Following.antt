-- The view that follows one that was left.
use Rattle.std.proofs.Common.{◌≡◌, ℕ, List, [], ◌∷◌, ◌++◌, Bool, true, false, Option, Some, None, refl, sym, ap, ◌∙◌, subst}
use Rattle.std.specs.Prelude.{◌↔◌, is_none, Result, Ok, Err, IfOk, IsTrue}
use Rattle.message_defs.specs.Statements.{Ready, Claim}
use Rattle.message_defs.specs.Updates.{Update}
use Rattle.message_defs.specs.Packing.{Signed}
use Rattle.group_defs.specs.Views.{View, IsView, UpdateFault, has_keys, next_fault, next, next_view}
use Rattle.group_defs.specs.Process.{Setting, Pool, keyed}
use Rattle.group_defs.specs.Certified.{certificate, is_certified}
use Rattle.image_defs.specs.Images.{LeftView}
use Rattle.image_defs.specs.Kept.{IsLeft}
use Rattle.pool_laws.proofs.Tests.{and-first}
use Rattle.reliable_mcast.specs.Archives.{Archived}
use Rattle.reliable_mcast.specs.Certificates.{all_signed}
use Rattle.restored_past.specs.Hearing.{with_all}
use Rattle.restored_past.specs.Keeping.{KeepsOne}
use Rattle.restored_past.proofs.Commits.{heard-left, certified-left, certificate-left}

-- one follows
pub never-refused : (s : Setting) (v : View) (l : LeftView) → IsLeft s v l → (e : UpdateFault) → next v l.value.update ≡ Err e → ⊥
never-refused s v l is e refused =
    go (next_fault v l.value.update) (and-first (is_none (next_fault v l.value.update)) (has_keys (keyed s) l.value.update) is.possible) refused
  where
    go : (o : Option UpdateFault) → is_none o ≡ true
        → (let r : Result View UpdateFault = elim o [ None ↦ Ok (next_view v l.value.update) | Some fault ↦ Err fault ] in r ≡ Err e) → ⊥
    go None e refused = absurd cc
    go (Some fault) e refused = absurd cc

-- and it is the one by the update
pub next-is : (v : View) (u : Update) (w : View) → next v u ≡ Ok w → w ≡ next_view v u
next-is v u w is = go (next_fault v u) is
  where
    go : (o : Option UpdateFault) → (let r : Result View UpdateFault = elim o [ None ↦ Ok (next_view v u) | Some fault ↦ Err fault ] in r ≡ Ok w)
        → w ≡ next_view v u
    go None is = cc
    go (Some fault) is = absurd cc

-- what holds of a result in two ways
pub if-two : {A E : Type 0} (P Q R : A → Type 0) (r : Result A E) → IfOk r P → IfOk r Q → ((a : A) → P a → Q a → R a) → IfOk r R
if-two P Q R (Ok a) p q both = both a p q
if-two P Q R (Err e) p q both = tt

module _ (s : Setting) (v : View) (view : IsView v) (l : LeftView) (is : IsLeft s v l) (h g : Pool) (at : h.view ≡ v) (none : h.heard ≡ [])
    (heard : g ≡ with_all h l.commit) where
  heard-is : g ≡ record { view = v; heard = l.commit }
  heard-is = heard ∙ heard-left s v view l is h at none

  pub ready-there : is_certified g (Ready g.view.number l.rank l.value) ≡ true
  ready-there = subst (λ (k : Pool). is_certified k (Ready k.view.number l.rank l.value) ≡ true) (sym heard-is) (certified-left s v view l is)

  pub kept-commit : (old new : Archived) → KeepsOne old new g l.rank l.value → new.commits ≡ old.commits ++ all_signed l.commit ∷ []
  kept-commit old new keeps = keeps.commits
      ∙ ap (λ (k : Pool). old.commits ++ all_signed (certificate k (Ready k.view.number l.rank l.value)) ∷ []) heard-is
      ∙ ap (λ (cs : List Claim). old.commits ++ all_signed cs ∷ []) (certificate-left s v view l is)
