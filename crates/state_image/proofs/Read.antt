-- Claims that stand as in a frame are read again.
use Rattle.std.proofs.Common.{◌≡◌, ℕ, suc, ◌+◌, ◌≤◌, List, [], ◌∷◌, ◌++◌, length, map, drop, Option, Some, None, slice_get, refl, sym, ap, ◌∙◌, subst}
use Rattle.std.specs.Prelude.{Result, All, option_map, option_and_then, unwrap_or}
use Rattle.std.specs.List.{AllByRecursion}
use Rattle.std.proofs.lemmas.List.{append_assoc}
use Rattle.std.proofs.lemmas.List.Elements.{All-head, All-tail, recursion_from_All}
use Rattle.message_defs.specs.declared.FrameFault.{FrameFault}
use Rattle.message_defs.specs.Limits.{most_members}
use Rattle.message_defs.specs.Statements.{Statement, Claim}
use Rattle.message_defs.specs.Spelling.{IsClaim, IsStatement}
use Rattle.message_defs.specs.Packing.{Signed, signed_of}
use Rattle.group_defs.specs.Process.{Left}
use Rattle.image_defs.specs.Images.{LeftView, left_by}
use Rattle.stmt_codec.proofs.Grammar.{spelling_again}
use Rattle.pool_laws.proofs.Places.{get-some}
use Rattle.sent_claims.proofs.Walks.{all-get, drop-get, get-map}
use Rattle.state_image.specs.States.{all_signed}
use Rattle.snapshot_rp.specs.Claims.{statement_or_end}
use Rattle.state_image.specs.Commits.{claim_as, claims_as, commit_at}
use Rattle.state_image.specs.Ranges.{IsCommit}

abbrev with-statement : Claim → Result Statement FrameFault → Claim
with-statement c r = record { signer = c.signer; statement = statement_or_end r; signature = c.signature }

pub claim-again : (c : Claim) → IsStatement c.statement → claim_as (signed_of c) ≡ c
claim-again c range = ap (with-statement c) (spelling_again c.statement range)

pub claims-again : (cs : List Claim) → AllByRecursion IsClaim cs → claims_as (all_signed cs) ≡ cs
claims-again [] all = refl
claims-again (c ∷ cs) all = (λ i. claim-again c all.0.1 i ∷ claims-again cs all.1 i)

-- ---- a claim of a commit certificate

-- it stands at its place
pub commit-claim : (commits : List (List Signed)) (x i : ℕ) (c : Claim) → IsStatement c.statement
    → Some (signed_of c) ≡ option_and_then (λ (cs : List Signed). slice_get cs i) (slice_get commits x)
    → slice_get (commit_at commits x) i ≡ Some c
commit-claim commits x i c range at = go (slice_get commits x) at
  where
    go : (o : Option (List Signed)) → Some (signed_of c) ≡ option_and_then (λ (cs : List Signed). slice_get cs i) o
        → slice_get (claims_as (unwrap_or o [])) i ≡ Some c
    go None at = absurd cc
    go (Some cs) at = get-map claim_as cs i ∙ ap (option_map claim_as) (sym at) ∙ ap Some (claim-again c range)

-- or there is none
pub no-claim : (commits : List (List Signed)) (x i : ℕ)
    → None ≡ option_and_then (λ (cs : List Signed). slice_get cs i) (slice_get commits x) → slice_get (commit_at commits x) i ≡ None
no-claim commits x i none = go (slice_get commits x) none
  where
    go : (o : Option (List Signed)) → None ≡ option_and_then (λ (cs : List Signed). slice_get cs i) o
        → slice_get (claims_as (unwrap_or o [])) i ≡ None
    go None none = refl
    go (Some cs) none = get-map claim_as cs i ∙ ap (option_map claim_as) (sym none)

-- ---- all that were left

-- each commit certificate can be kept
pub all-commits : (ls : List Left) → All (λ (l : Left). All IsClaim l.commit) ls → All (λ (l : Left). length l.commit ≤ most_members) ls
    → AllByRecursion (λ cs. IsCommit (claims_as cs)) (map (λ (l : Left). all_signed l.commit) ls)
all-commits [] ranged few = tt
all-commits (l ∷ ls) ranged few = (
  subst IsCommit (sym (claims-again l.commit here)) (All-head (λ (l : Left). length l.commit ≤ most_members) l ls few, here),
  all-commits ls (All-tail (λ (l : Left). All IsClaim l.commit) l ls ranged) (All-tail (λ (l : Left). length l.commit ≤ most_members) l ls few),
)
  where
    here : AllByRecursion IsClaim l.commit
    here = recursion_from_All IsClaim l.commit (All-head (λ (l : Left). All IsClaim l.commit) l ls ranged)

-- and is what the view was left by
pub all-left : (ls : List Left) → All (λ (l : Left). All IsClaim l.commit) ls
    → map (λ cs. left_by (claims_as cs)) (map (λ (l : Left). all_signed l.commit) ls) ≡ map (λ (l : Left). left_by l.commit) ls
all-left [] ranged = refl
all-left (l ∷ ls) ranged = (λ i. left_by (claims-again l.commit here i) ∷ all-left ls (All-tail (λ (l : Left). All IsClaim l.commit) l ls ranged) i)
  where
    here : AllByRecursion IsClaim l.commit
    here = recursion_from_All IsClaim l.commit (All-head (λ (l : Left). All IsClaim l.commit) l ls ranged)

-- ---- one view more

pub view-more : (commits : List (List Signed)) (x : ℕ) (lefts lefts' : List LeftView) (l : LeftView) (whole : List LeftView) → suc x ≤ length commits
    → lefts' ≡ lefts ++ l ∷ [] → l ≡ left_by (commit_at commits x)
    → lefts ++ map (λ cs. left_by (claims_as cs)) (drop x commits) ≡ whole
    → lefts' ++ map (λ cs. left_by (claims_as cs)) (drop (x + 1) commits) ≡ whole
view-more commits x lefts lefts' l whole lt put is so =
    ap (λ ys. ys ++ rest) put
    ∙ append_assoc lefts (l ∷ []) rest
    ∙ ap (λ (y : LeftView). lefts ++ y ∷ rest) (is ∙ ap (λ o. left_by (claims_as (unwrap_or o []))) at.1)
    ∙ ap (λ (cs : List (List Signed)). lefts ++ map (λ cs. left_by (claims_as cs)) cs) (sym (drop-get commits x at.0 at.1))
    ∙ so
  where
    at : (cs : List Signed) × (slice_get commits x ≡ Some cs)
    at = get-some commits x lt

    rest : List LeftView
    rest = map (λ cs. left_by (claims_as cs)) (drop (x + 1) commits)

-- the commit certificate of a view that was left
pub commit-of : (commits : List (List Signed)) (x : ℕ) → suc x ≤ length commits → AllByRecursion (λ cs. IsCommit (claims_as cs)) commits
    → IsCommit (commit_at commits x)
commit-of commits x lt all =
    let at = get-some commits x lt in
    subst (λ (o : Option (List Signed)). IsCommit (claims_as (unwrap_or o []))) (sym at.1)
    (all-get (λ cs. IsCommit (claims_as cs)) commits x at.0 at.1 all)
