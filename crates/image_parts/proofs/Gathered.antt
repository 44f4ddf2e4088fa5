-- Claims that are gathered.
use Rattle.std.proofs.Common.{◌≡◌, ◌≢◌, ℕ, zero, suc, List, [], ◌∷◌, ◌++◌, Bool, true, false, refl, sym, ap, ◌∙◌, inl, inr, arith}
use Rattle.std.specs.Prelude.{if◌then◌else◌, ◌==◌, filter, AllPairs}
use Rattle.std.specs.List.{list_any}
use Rattle.std.proofs.lemmas.Bool.{eqb-true}
use Rattle.std.proofs.lemmas.List.{append-nil, append_assoc}
use Rattle.message_defs.specs.Statements.{Claim, view_of}
use Rattle.pool_laws.proofs.Members.{Mem, list_any-mem, snoc-mem}
use Rattle.pool_laws.proofs.Places.{Pairs, all-pairs, mem-slice_get}
use Rattle.claim_lists.specs.Pairs.{has_pair}
use Rattle.image_parts.specs.Walks.{with_all_said, with_pairs}

module _ (number : ℕ) where
  of-view : Claim → Bool
  of-view c = view_of c.statement == number

  pub all-said-is : (said cs : List Claim) → with_all_said number said cs ≡ said ++ filter (λ c. view_of c.statement == number) cs
  all-said-is said [] = sym (append-nil said)
  all-said-is said (c ∷ cs) = go (view_of c.statement == number) (all-said-is (said ++ c ∷ []) cs) (all-said-is said cs)
    where
      go : (b : Bool) → with_all_said number (said ++ c ∷ []) cs ≡ (said ++ c ∷ []) ++ filter (λ d. view_of d.statement == number) cs
          → with_all_said number said cs ≡ said ++ filter (λ d. view_of d.statement == number) cs
          → with_all_said number (if b then said ++ c ∷ [] else said) cs
          ≡ said ++ (if b then c ∷ filter (λ d. view_of d.statement == number) cs else filter (λ d. view_of d.statement == number) cs)
      go true put left = put ∙ append_assoc said (c ∷ []) (filter (λ d. view_of d.statement == number) cs)
      go false put left = left

-- of different other signers
abbrev Differ : Claim × Claim → Claim × Claim → Type 0
Differ a b = a.1.signer ≢ b.1.signer

none-kept : (kept : List (Claim × Claim)) (e : Claim × Claim) → ((d : Claim × Claim) → Mem d kept → Differ d e)
    → has_pair kept e.1.signer ≡ false
none-kept kept e differ = go (has_pair kept e.1.signer) refl
  where
    go : (b : Bool) → has_pair kept e.1.signer ≡ b → b ≡ false
    go true is =
        let found = list_any-mem (λ (pair : Claim × Claim). pair.1.signer == e.1.signer) kept is in
        absurd (differ found.0 found.1 (eqb-true found.0.1.signer e.1.signer found.2))
    go false is = refl

pairs-kept : (kept es : List (Claim × Claim)) → ((d e : Claim × Claim) → Mem d kept → Mem e es → Differ d e) → Pairs Differ es
    → with_pairs kept es ≡ kept ++ es
pairs-kept kept [] apart pairs = sym (append-nil kept)
pairs-kept kept (e ∷ es) apart pairs =
    ap (λ b. with_pairs (if b then kept else kept ++ e ∷ []) es) (none-kept kept e (λ d m. apart d e m (inl refl)))
    ∙ pairs-kept (kept ++ e ∷ []) es later (λ i j a b lt at_i at_j. pairs (suc i) (suc j) a b (omega (arith, lt)) at_i at_j)
    ∙ append_assoc kept (e ∷ []) es
  where
    later : (d f : Claim × Claim) → Mem d (kept ++ e ∷ []) → Mem f es → Differ d f
    later d f m there = elim (snoc-mem kept e d m) [
      | inl before ↦ apart d f before (inr there)
      | inr is ↦ first d f is there
    ]
      where
        first : (d f : Claim × Claim) → e ≡ d → Mem f es → Differ d f
        first d f is there same =
            let at = mem-slice_get es f there in
            pairs zero (suc at.0) e f (omega arith) refl at.1 (ap (λ (x : Claim × Claim). x.1.signer) is ∙ same)

pub pairs-are : (es : List (Claim × Claim)) → AllPairs (λ a b. a.1.signer ≢ b.1.signer) es → with_pairs [] es ≡ es
pairs-are es differ = pairs-kept [] es (λ d e m. absurd m) (all-pairs Differ es differ)
