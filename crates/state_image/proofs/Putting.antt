-- Pairs of conflicting claims are copied from the last to the first, each to its place by signer.
use Rattle.std.proofs.Common.{◌≡◌, ℕ, zero, suc, ◌+◌, List, [], ◌∷◌, ◌++◌, drop, Bool, true, false, Some, None, slice_get, refl, sym, ap, ◌∙◌, subst, insert}
use Rattle.std.specs.Prelude.{if◌then◌else◌, nat_lt, option_to_list}
use Rattle.std.specs.List.{AllByRecursion}
use Rattle.byte_defs.specs.Orders.{put}
use Rattle.message_defs.specs.Statements.{Claim}
use Rattle.pool_laws.proofs.Sorting.{below-by_number}
use Rattle.pool_laws.proofs.Tests.{some-same}
use Rattle.image_defs.specs.Images.{conflict_key, by_signer}
use Rattle.sent_claims.proofs.Walks.{drop-get}
use Rattle.state_image.specs.Pairs.{first_above}
use Rattle.state_image.proofs.Walks.{drop-next}

-- behind those that are not above it
pub put-insert : (e : Claim × Claim) (es : List (Claim × Claim)) → insert es (first_above e.0.signer es) e ≡ put conflict_key e es
put-insert e [] = refl
put-insert e (d ∷ ds) = go (nat_lt e.0.signer d.0.signer) (put-insert e ds)
    ∙ ap (λ b. if b then e ∷ d ∷ ds else d ∷ put conflict_key e ds) (sym (below-by_number e.0.signer d.0.signer))
  where
    go : (b : Bool) → insert ds (first_above e.0.signer ds) e ≡ put conflict_key e ds
        → insert (d ∷ ds) (if b then 0 else suc (first_above e.0.signer ds)) e ≡ (if b then e ∷ d ∷ ds else d ∷ put conflict_key e ds)
    go true rest = refl
    go false rest = ap (λ es. d ∷ es) rest

module _ (pairs : List (Claim × Claim)) (i : ℕ) where
  -- from a place on: the pair there, put among those after it
  pub pair-first : (e : Claim × Claim) → slice_get pairs i ≡ Some e
      → by_signer (drop i pairs) ≡ put conflict_key e (by_signer (drop (i + 1) pairs))
  pair-first e at = ap by_signer (drop-get pairs i e at)

  pub no-pair : slice_get pairs i ≡ None → by_signer (drop i pairs) ≡ by_signer (drop (i + 1) pairs)
  no-pair none = ap by_signer (drop-next pairs i ∙ ap (λ o. option_to_list o ++ drop (i + 1) pairs) none)

pub all-at : {A : Type 0} (P : A → Type 0) (xs : List A) (i : ℕ) (x : A) → AllByRecursion P xs → slice_get xs i ≡ Some x → P x
all-at P [] i x all at = absurd cc
all-at P (y ∷ ys) zero x all at = subst P (some-same y x at) all.0
all-at P (y ∷ ys) (suc i) x all at = all-at P ys i x all.1 at
