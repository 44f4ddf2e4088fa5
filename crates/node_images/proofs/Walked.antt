-- Parts that are judged one after another.
use Rattle.std.proofs.Common.{◌≡◌, ℕ, List, [], ◌∷◌, ◌++◌, inl, inr, refl, sym, subst, append_assoc}
use Rattle.std.specs.Prelude.{◌↔◌, All, IsTrue}
use Rattle.std.proofs.lemmas.List.{append-nil}
use Rattle.byte_defs.specs.Members.{has}
use Rattle.kit_defs.specs.Kits.{Kit}
use Rattle.node_defs.specs.Casts.{hosted_by}
use Rattle.pool_laws.proofs.Members.{All-mem, mem-All}
use Rattle.member_restoring.specs.States.{IsImage, Two}
use Rattle.snapshot_lines.specs.Said.{Part}
use Rattle.snapshot_lines.specs.Views.{ArePartsOf}
use Rattle.node_images.specs.declared.judged.Judged.{Judged}
use Rattle.node_images.specs.Judging.{AreJudged, IsJudged, IsPartFor}
use Rattle.node_images.proofs.Listed.{part-hosted}

-- All parts are for the node exactly where those that are left are, and these processes are those of the others. Those that are left are of
-- hosted processes, and their images can be written.
pub record Underway (kit : Kit) (place : ℕ) (parts left : List Part) (done : List Judged) : Type 0 where
  pub fit : All (IsPartFor kit place) parts ↔ All (IsPartFor kit place) left
  pub judged : (rest : List Judged) → AreJudged kit left rest → AreJudged kit parts (done ++ rest)
  pub hosted : All (λ (x : Part). IsTrue (has (hosted_by kit) x.0)) left
  pub writable : All (λ (x : Part). IsImage Two x.2) left

pub none-judged : (kit : Kit) (place : ℕ) (parts left : List Part) → left ≡ parts → ArePartsOf (hosted_by kit) parts → Underway kit place parts left []
none-judged kit place parts left same are = subst (λ ls. Underway kit place parts ls []) (sym same) (record {
  fit = ((λ all. all), (λ all. all));
  judged = λ rest js. js;
  hosted = mem-All (λ (x : Part). IsTrue (has (hosted_by kit) x.0)) parts (part-hosted parts (hosted_by kit) are.numbers);
  writable = are.writable;
})

module _ (kit : Kit) (place : ℕ) (parts left old : List Part) (x : Part) (done : List Judged) (steps : old ≡ x ∷ left)
    (u : Underway kit place parts old done) where
  at : Underway kit place parts (x ∷ left) done
  at = subst (λ ls. Underway kit place parts ls done) steps u

  pub its-process : IsTrue (has (hosted_by kit) x.0)
  its-process = All-mem (λ (y : Part). IsTrue (has (hosted_by kit) y.0)) (x ∷ left) x at.hosted (inl refl)

  pub its-image : IsImage Two x.2
  its-image = All-mem (λ (y : Part). IsImage Two y.2) (x ∷ left) x at.writable (inl refl)

  -- it is judged
  pub one-judged : (j : Judged) → IsPartFor kit place x → IsJudged kit x j → Underway kit place parts left (done ++ j ∷ [])
  one-judged j fits is = record {
    fit = (
      λ all. mem-All (IsPartFor kit place) left (λ y m. All-mem (IsPartFor kit place) (x ∷ left) y (at.fit.0 all) (inr m)),
      λ all. at.fit.1 (mem-All (IsPartFor kit place) (x ∷ left) (λ y m. elim m [
        | inl here ↦ subst (IsPartFor kit place) here fits
        | inr later ↦ All-mem (IsPartFor kit place) left y all later
      ])),
    );
    judged = λ rest js. subst (AreJudged kit parts) (sym (append_assoc done (j ∷ []) rest)) (at.judged (j ∷ rest) (is, js));
    hosted = mem-All (λ (y : Part). IsTrue (has (hosted_by kit) y.0)) left
        (λ y m. All-mem (λ (y : Part). IsTrue (has (hosted_by kit) y.0)) (x ∷ left) y at.hosted (inr m));
    writable = mem-All (λ (y : Part). IsImage Two y.2) left (λ y m. All-mem (λ (y : Part). IsImage Two y.2) (x ∷ left) y at.writable (inr m));
  }

  -- it is none for the node, so not all are
  pub not-all : (IsPartFor kit place x → ⊥) → All (IsPartFor kit place) parts → ⊥
  not-all none all = none (All-mem (IsPartFor kit place) (x ∷ left) x (at.fit.0 all) (inl refl))

pub all-judged : (kit : Kit) (place : ℕ) (parts left : List Part) (done : List Judged) → left ≡ [] → Underway kit place parts left done
    → All (IsPartFor kit place) parts × AreJudged kit parts done
all-judged kit place parts left done none u =
    let at : Underway kit place parts [] done = subst (λ ls. Underway kit place parts ls done) none u in (
      at.fit.1 (mem-All (IsPartFor kit place) [] (λ y m. absurd m)),
      subst (AreJudged kit parts) (append-nil done) (at.judged [] tt),
    )
